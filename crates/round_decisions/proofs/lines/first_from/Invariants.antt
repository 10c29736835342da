use Rattle.std.proofs.Common.{◌≡◌, ◌+◌, ◌≤◌, drop, length}
use Rattle.round_decisions.specs.Lines.{rows_from}
use Rattle.round_decisions.proofs.lines.first_from.Given as goal

abbrev pub invariant-loop-index : goal.invariant-loop-index
invariant-loop-index l = record {
  place : l.first + 1 ≡ l.index;
  within : l.first ≤ length l.rows;
  left : rows_from l.second l.rows ≡ rows_from l.second (drop l.first l.rows);
}

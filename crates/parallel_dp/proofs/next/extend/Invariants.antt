use Rattle.std.proofs.Common.{◌+◌, ◌*◌, ◌≤◌, length}
use Rattle.parallel_dp.specs.Pieces.{AreLeastOf}
use Rattle.parallel_dp.proofs.NextLaws.{IsReachedWithin}
use Rattle.parallel_dp.proofs.next.extend.Given as goal

-- what is next by the phases so far
abbrev pub invariant-loop-phase : goal.invariant-loop-phase
invariant-loop-phase g l = record {
  next : AreLeastOf (IsReachedWithin l.i l.piece l.phase) l.next.items;
  steps : l.steps ≤ l.initial.steps + l.phase * length l.piece;
}

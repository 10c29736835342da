use Rattle.std.proofs.Common.{◌≡◌, length}
use Rattle.forward_dp.specs.Rows.{ArePlaced}
use Rattle.forward_dp.proofs.Draining.{AreDrained}
use Rattle.forward_dp.proofs.greens.move_rows.Given as goal

-- the rows before this wait are moved
abbrev pub invariant-loop-wait : goal.invariant-loop-wait
invariant-loop-wait l = record {
  drained : AreDrained l.fn.places l.places l.wait l.rows.items;
  placed : ArePlaced l.places l.first l.end;
  count : length l.places ≡ length l.fn.places;
}

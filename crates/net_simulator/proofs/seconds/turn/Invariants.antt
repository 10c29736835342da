use Rattle.std.proofs.Common.{◌≡◌, ◌≢◌, ℕ, ◌*◌, ◌/◌, ◌%◌}
use Rattle.net_parts.specs.Outline.{turns_at}
use Rattle.road_net.specs.Joins.{shares_to}
use Rattle.net_simulator.specs.Rows.{cell}
use Rattle.net_simulator.proofs.Turning.{AreTurned}
use Rattle.net_simulator.proofs.seconds.turn.Given as goal

abbrev pub invariant-loop-turn : goal.invariant-loop-turn
invariant-loop-turn l = record {
  here : AreTurned (turns_at l.net l.l) l.amount l.turn-index (λ k. cell l.initial.recent k l.second) (λ k. cell l.recent k l.second);
  others : (k y : ℕ) → y % 128 ≢ l.second % 128 → cell l.recent k y ≡ cell l.initial.recent k y;
  shares : l.shares ≡ shares_to (turns_at l.net l.l) l.turn-index;
  given : l.given ≡ l.amount * l.shares / 1000;
}

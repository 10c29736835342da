use Rattle.std.proofs.Common.{◌≡◌, ◌-◌, map}
use Rattle.std.specs.List.{range_with_len}
use Rattle.board_model.specs.Forecasts.{amount_at}
use Rattle.round_states.proofs.senses.coming.Given as goal

-- what comes in the seconds so far
abbrev pub invariant-loop-second : goal.invariant-loop-second
invariant-loop-second l = l.all.items ≡ map (amount_at l.rows) (range_with_len l.now (l.second - l.now))

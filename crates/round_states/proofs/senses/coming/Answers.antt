use Rattle.std.proofs.Common.{◌≡◌, ◌+◌, ◌-◌, map, subst, arith}
use Rattle.std.specs.List.{range_with_len}
use Rattle.board_model.specs.Forecasts.{amount_at}
use Rattle.round_states.proofs.ByPlaceLaws.{map-step}
use Rattle.round_states.proofs.senses.coming.Goals as goal

pub loop-second-preserved : goal.loop-second-preserved
loop-second-preserved c =
    let at : c.loop-second.second - c.args.now + 1 ≡ c.loop-second.second + 1 - c.args.now = omega arith in
    subst (λ n. c.push.new.self.items ≡ map (amount_at c.args.rows.now) (range_with_len c.args.now n)) at
    (map-step (amount_at c.args.rows.now) c.args.now (c.loop-second.second - c.args.now) c.loop-second.second _ _ _ (omega arith) c.in_ok-push.ensures.items c.loop-second.invariant c.amount_in.ensures)

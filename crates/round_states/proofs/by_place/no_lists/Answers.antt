use Rattle.round_states.proofs.ByPlaceLaws.{none-more}
use Rattle.round_states.proofs.by_place.no_lists.Goals as goal

pub loop-place-preserved : goal.loop-place-preserved
loop-place-preserved g c = none-more _ _ _ _ c.in_ok-push.ensures.items c.new.ensures.items c.loop-place.invariant

use Rattle.std.proofs.Common.{All, subst, ◌∙◌}
use Rattle.board_model.specs.Forecasts.{IsForecast}
use Rattle.round_states.specs.declared.states.LinkBoard.{LinkBoard}
use Rattle.round_decisions.proofs.KeptLaws.{kept-from}
use Rattle.round_decisions.proofs.decisions.decide.Goals as goal

pub returns : goal.returns
returns g c =
    kept-from c.args.net.now c.law_of_network.ensures c.args.state (record { round = c.args.state.round; sensed = c.from.result.items; lines = c.from-2.result.items; boards = c.into_vec-3.result.items })
    (λ i. record { round = c.args.state.round; sensed = (c.from.ensures.0 ∙ c.into_vec.ensures) i; lines = (c.from-2.ensures.0 ∙ c.into_vec-2.ensures) i; boards = c.into_vec-3.ensures i }) c.requires
    c.take_turns.new.waiting c.take_turns.new.decided c.in_ok-take_turns.ensures (record { plans = c.from_vec.result; lines = c.from_vec-2.result; boards = c.from_vec-3.result }) c.from_vec.ensures c.from_vec-2.ensures c.from_vec-3.ensures (subst (All (λ (b : LinkBoard). IsForecast b.forecast)) c.as_slice.ensures.value c.law_of_boards.ensures)

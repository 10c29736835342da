use Rattle.std.proofs.Common.{[], All, Some, get_or, refl, sym, ap, subst, ◌∙◌, arith}
use Rattle.std.proofs.lemmas.List.{get_or_default}
use Rattle.board_model.specs.Forecasts.{IsForecast}
use Rattle.round_states.specs.States.{no_sense}
use Rattle.round_states.specs.declared.asked.Asked.TheVariants.{OneNode}
use Rattle.round_states.specs.declared.states.LinkBoard.{LinkBoard}
use Rattle.round_decisions.proofs.KeptLaws.{kept-turn-at}
use Rattle.round_decisions.proofs.RoundLaws.{can-at}
use Rattle.round_decisions.proofs.decisions.decide_node.Goals as goal

pub turn-requires : goal.turn-requires
turn-requires g c = record {
  can = can-at c.args.net.now c.law_of_network.ensures c.args.state c.args.node c.requires.state c.requires.node c.remove-2.result c.remove.result c.into_vec-boards.result.items
      (c.remove-2.ensures.value ∙ ap (λ l. get_or l c.args.node c.remove-2.result) c.into_vec-lines.ensures ∙ get_or_default c.args.state.lines c.args.node c.remove-2.result [] (omega (arith, c.requires.state.line_count, c.requires.node)))
      (c.remove.ensures.value ∙ ap (λ l. get_or l c.args.node c.remove.result) c.into_vec-sensed.ensures ∙ get_or_default c.args.state.sensed c.args.node c.remove.result no_sense (omega (arith, c.requires.state.sensed_count, c.requires.node)))
      c.into_vec-boards.ensures;
}

pub returns : goal.returns
returns g c =
    kept-turn-at c.args.net.now c.law_of_network.ensures c.args.state (OneNode (Some c.args.node)) c.requires.state c.args.node c.requires.node refl c.remove-2.result c.remove.result c.into_vec-boards.result.items c.turn.new.boards.items
    (c.remove-2.ensures.value ∙ ap (λ l. get_or l c.args.node c.remove-2.result) c.into_vec-lines.ensures ∙ get_or_default c.args.state.lines c.args.node c.remove-2.result [] (omega (arith, c.requires.state.line_count, c.requires.node)))
    (c.remove.ensures.value ∙ ap (λ l. get_or l c.args.node c.remove.result) c.into_vec-sensed.ensures ∙ get_or_default c.args.state.sensed c.args.node c.remove.result no_sense (omega (arith, c.requires.state.sensed_count, c.requires.node)))
    c.into_vec-boards.ensures (record { plan = c.in_ok-plan.field-0.plan; line = c.in_ok-plan.field-0.line; boards = c.from_vec.result }) c.from_vec.ensures c.in_ok-plan.ensures.turn c.in_ok-plan.ensures.later
    (subst (All (λ (b : LinkBoard). IsForecast b.forecast)) (c.as_slice.ensures.value ∙ sym c.from_vec.ensures) c.law_of_boards.ensures)

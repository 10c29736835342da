use Rattle.std.proofs.Common.{◌*◌, List, [], None, subst}
use Rattle.std.specs.List.{flat_map}
use Rattle.intersection_actor.specs.declared.records.PlanRecord.{PlanRecord}
use Rattle.net_parts.specs.declared.drafts.Run.{Run}
use Rattle.round_states.specs.NextTexts.{Keeps}
use Rattle.round_states.specs.declared.states.LinkBoard.{LinkBoard}
use Rattle.round_states.proofs.KeptLaws.{keeps-then}
use Rattle.round_decisions.specs.DecisionTexts.{boards_records, turn_records}
use Rattle.round_decisions.specs.Promises.{decided_line}
use Rattle.round_decisions.proofs.kept_decisions.keep_decision.Goals as goal

pub returns : goal.returns
returns c =
    let net = c.args.net.now in
    let d = c.args.decision.now in
    (keeps-then net c.none-kept.result c.keep_turns.new.kept c.keep_boards.new.kept _ (boards_records net None d.boards)
    (subst (λ (r : Run). Keeps net c.none-kept.result c.keep_turns.new.kept (flat_map (λ (plan : PlanRecord). turn_records net (c.args.round * r.step) plan (decided_line d plan.node)) d.plans)) c.run.ensures.value c.in_ok-keep_turns.ensures)
    (subst (λ (l : List LinkBoard). Keeps net c.keep_turns.new.kept c.keep_boards.new.kept (boards_records net None l)) c.as_slice.ensures c.in_ok-keep_boards.ensures)).keeps [] (c.none-kept.ensures net)

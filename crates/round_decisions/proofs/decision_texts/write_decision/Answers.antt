use Rattle.std.proofs.Common.{◌*◌, None, subst}
use Rattle.std.specs.List.{flat_map}
use Rattle.intersection_actor.specs.declared.records.PlanRecord.{PlanRecord}
use Rattle.net_parts.specs.declared.drafts.Run.{Run}
use Rattle.round_decisions.specs.Promises.{decided_line}
use Rattle.round_states.specs.States.{begin_of}
use Rattle.world_records.specs.Written.{Adds}
use Rattle.round_decisions.specs.DecisionTexts.{turn_records}
use Rattle.round_decisions.proofs.DecisionTextLaws.{adds-parts}
use Rattle.round_decisions.proofs.decision_texts.write_decision.Goals as goal

pub returns : goal.returns
returns c =
    let net = c.args.net.now in
    let d = c.args.decision.now in
    adds-parts c.write_boards.result net None (flat_map (λ (plan : PlanRecord). turn_records net (begin_of net c.args.round) plan (decided_line d plan.node)) d.plans) c.as_slice.result.now d.boards
    c.args.out.now c.write_header.new.out c.write_turns.new.out c.write_boards.new.out c.as_slice.ensures c.in_ok-write_header.ensures
    (subst (λ (r : Run). Adds c.write_header.new.out c.write_turns.new.out (flat_map (λ (plan : PlanRecord). turn_records net (c.args.round * r.step) plan (decided_line d plan.node)) d.plans)) c.run.ensures.value c.in_ok-write_turns.ensures)
    c.write_boards.ensures

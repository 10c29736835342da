use Rattle.std.proofs.Common.{◌*◌, Some, subst}
use Rattle.net_parts.specs.declared.drafts.Run.{Run}
use Rattle.round_states.specs.States.{begin_of}
use Rattle.world_records.specs.Written.{Adds}
use Rattle.round_decisions.specs.DecisionTexts.{turn_records}
use Rattle.round_decisions.proofs.DecisionTextLaws.{adds-parts}
use Rattle.round_decisions.proofs.decision_texts.write_node_decision.Goals as goal

pub returns : goal.returns
returns c =
    let net = c.args.net.now in
    let d = c.args.decision.now in
    adds-parts c.write_boards.result net (Some c.args.node) (turn_records net (begin_of net c.args.round) d.plan d.line) c.as_slice.result.now d.boards
    c.args.out.now c.write_header.new.out c.write_turn.new.out c.write_boards.new.out c.as_slice.ensures c.in_ok-write_header.ensures
    (subst (λ (r : Run). Adds c.write_header.new.out c.write_turn.new.out (turn_records net (c.args.round * r.step) d.plan d.line)) c.run.ensures.value c.in_ok-write_turn.ensures)
    c.write_boards.ensures

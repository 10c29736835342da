use Rattle.std.proofs.Common.{◌∙◌, [], length, if◌then◌else◌, subst, arith}
use Rattle.std.proofs.lemmas.List.{get_or_default}
use Rattle.round_decisions.specs.Turns.{no_board}
use Rattle.round_states.specs.declared.states.LinkBoard.{LinkBoard}
use Rattle.round_decisions.specs.DecisionTexts.{board_records_of, is_shown}
use Rattle.round_states.specs.StateRecords.{board_records}
use Rattle.world_records.specs.Written.{Adds}
use Rattle.world_records.proofs.WrittenLaws.{adds-part, adds-parts}
use Rattle.round_decisions.proofs.board_records.write_boards.Goals as goal

pub loop-link-preserved : goal.loop-link-preserved
loop-link-preserved c =
    adds-part (board_records_of c.args.net.now c.args.node c.args.boards.now) c.loop-link.link c.args.out.now c.loop-link.out c.write_if_shown.new.out c.loop-link.invariant
    (subst (λ (b : LinkBoard). Adds c.loop-link.out c.write_if_shown.new.out (if is_shown c.args.net.now c.args.node c.loop-link.link then board_records c.args.net.now c.loop-link.link b else []))
    (c.index-boards-link.is ∙ get_or_default c.args.boards.now c.loop-link.link c.index-boards-link.result no_board (omega arith)) c.in_ok-write_if_shown.ensures)

pub returns : goal.returns
returns c = adds-parts (board_records_of c.args.net.now c.args.node c.args.boards.now) c.loop-link.link (length c.args.net.now.link_names) c.args.out.now c.loop-link.out (omega arith) c.loop-link.invariant

use Rattle.std.proofs.Common.{◌∙◌, ◌≡◌, ℕ, [], None, length, if◌then◌else◌, subst, arith}
use Rattle.std.specs.List.{flat_map, range_with_len}
use Rattle.std.proofs.lemmas.List.{get_or_default}
use Rattle.round_decisions.specs.DecisionTexts.{board_records_of, is_shown}
use Rattle.round_decisions.specs.Turns.{no_board}
use Rattle.round_states.specs.NextTexts.{Keeps}
use Rattle.round_states.specs.StateRecords.{board_records}
use Rattle.round_states.specs.declared.states.LinkBoard.{LinkBoard}
use Rattle.round_states.proofs.KeptLaws.{keeps-none, keeps-part}
use Rattle.round_decisions.proofs.kept_decisions.keep_boards.Goals as goal

pub loop-link-init : goal.loop-link-init
loop-link-init c = keeps-none c.args.net.now c.args.kept.now

pub loop-link-preserved : goal.loop-link-preserved
loop-link-preserved c =
    keeps-part c.args.net.now (board_records_of c.args.net.now None c.args.boards.now) c.loop-link.link c.args.kept.now c.loop-link.kept c.keep_if_shown.new.kept c.loop-link.invariant
    (subst (λ (b : LinkBoard). Keeps c.args.net.now c.loop-link.kept c.keep_if_shown.new.kept (if is_shown c.args.net.now None c.loop-link.link then board_records c.args.net.now c.loop-link.link b else []))
    (c.index-boards-link.is ∙ get_or_default c.args.boards.now c.loop-link.link c.index-boards-link.result no_board (omega arith)) c.in_ok-keep_if_shown.ensures)

pub returns : goal.returns
returns c =
    subst (λ (n : ℕ). Keeps c.args.net.now c.args.kept.now c.loop-link.kept (flat_map (board_records_of c.args.net.now None c.args.boards.now) (range_with_len 0 n)))
    (let end : c.loop-link.link ≡ length c.args.net.now.link_names = omega arith in end) c.loop-link.invariant

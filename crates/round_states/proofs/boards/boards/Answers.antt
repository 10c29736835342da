use Rattle.std.proofs.Common.{length, arith}
use Rattle.round_states.specs.Texts.{IsBoardOnce, board_in, row_said, version_said}
use Rattle.round_states.proofs.ByPlaceLaws.{each-below, map-step, content-there}
use Rattle.round_states.proofs.boards.boards.Goals as goal

pub board-requires : goal.board-requires
board-requires c = record {
  versions = content-there version_said c.args.entries.now (length c.args.net.now.link_names) c.args.content.now.versions.items _ c.loop-link.link _ c.requires.content.versions (omega arith) c.as_slice.ensures.value c.list_of-versions.ensures;
  rows = content-there row_said c.args.entries.now (length c.args.net.now.link_names) c.args.content.now.rows.items _ c.loop-link.link _ c.requires.content.rows (omega arith) c.as_slice-in-loop-link.ensures.value c.list_of-rows.ensures;
}

pub loop-link-preserved : goal.loop-link-preserved
loop-link-preserved c = record {
  boards = map-step (board_in c.args.entries.now) 0 c.loop-link.link c.loop-link.link _ _ _ (omega arith) c.in_ok-push.ensures.items c.loop-link.invariant.boards (rw c.in-Some.is at c.in_ok-board.ensures).0;
  once = each-below (IsBoardOnce c.args.net.now c.args.entries.now) c.loop-link.link c.loop-link.invariant.once (rw c.in-Some.is at c.in_ok-board.ensures).1;
}

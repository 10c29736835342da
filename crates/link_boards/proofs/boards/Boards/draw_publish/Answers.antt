use Rattle.std.proofs.Common.{rules}
use Rattle.link_boards.proofs.Draws.{draws-publish}
use Rattle.link_boards.specs.Slots.{stands_for}
use Rattle.link_boards.proofs.boards.Boards.draw_publish.Goals as goal

pub fetch_add-requires : goal.fetch_add-requires
fetch_add-requires g c = let t = c.requires.drawing in (search rules, search rules, draws-publish (stands_for g.S.LinkSlot.log g.S.LinkSlot.settled) _ _ _ _ _ _ _ _ t.flies t.own t.some-left g.W.BoardRequest.forecast)

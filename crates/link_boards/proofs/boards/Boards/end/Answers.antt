use Rattle.std.proofs.Common.{rules}
use Rattle.link_boards.proofs.Seats.{ends-pass}
use Rattle.link_boards.specs.Slots.{stands_for}
use Rattle.link_boards.proofs.boards.Boards.end.Goals as goal

pub join_seat-requires : goal.join_seat-requires
join_seat-requires g c = let p = c.pass.invariant in (search rules, search rules, p.empty, search rules, ends-pass (stands_for g.S.LinkSlot.log g.S.LinkSlot.settled) _ _ _ _ _ c.requires.landed p.landed)

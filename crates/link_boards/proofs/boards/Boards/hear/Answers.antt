use Rattle.std.proofs.Common.{rules}
use Rattle.link_boards.proofs.Seats.{hears-courier}
use Rattle.link_boards.specs.Slots.{stands_for}
use Rattle.link_boards.proofs.boards.Boards.hear.Goals as goal

pub join_seat-requires : goal.join_seat-requires
join_seat-requires g c = let k = c.requires.courier in (search rules, search rules, k.empty, search rules, hears-courier (stands_for g.S.LinkSlot.log g.S.LinkSlot.settled) _ _ _ _ _ k.none-left k.landed)

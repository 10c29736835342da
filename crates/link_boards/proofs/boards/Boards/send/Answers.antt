use Rattle.std.proofs.Common.{rules}
use Rattle.link_boards.proofs.Seats.{sends-courier}
use Rattle.link_boards.specs.Slots.{stands_for}
use Rattle.link_boards.proofs.boards.Boards.send.Goals as goal

pub split_seat-requires : goal.split_seat-requires
split_seat-requires g c = (search rules, search rules, sends-courier (stands_for g.S.LinkSlot.log g.S.LinkSlot.settled) _ _ _)

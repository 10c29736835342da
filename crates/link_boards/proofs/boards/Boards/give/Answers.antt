use Rattle.std.proofs.Common.{rules, refl}
use Rattle.link_boards.specs.Steps.{held}
use Rattle.link_boards.proofs.TurnLaws.{gives-turn}
use Rattle.link_boards.specs.Slots.{stands_for}
use Rattle.link_boards.proofs.boards.Boards.give.Goals as goal

pub store-requires : goal.store-requires
store-requires g c = let t = c.requires.holding in (search rules, search rules, gives-turn (stands_for g.S.LinkSlot.log g.S.LinkSlot.settled) _ _ _ _ _ (held g.S.LinkSlot.absent c.args.seat.now.me) _ _ _ (search rules) (refl, c.requires.settled) t.1 t.0)

use Rattle.std.proofs.Common.{◌+◌, ◌-◌, sym, ◌∙◌, arith}
use Rattle.net_parts.specs.Outline.{turns_at}
use Rattle.spillback_world.specs.Filling.{has_room, room_of}
use Rattle.spillback_world.proofs.Searching.{greatest-at, greatest-none}
use Rattle.spillback_world.proofs.Within.{part-fits}
use Rattle.spillback_world.proofs.searches.allowed.Goals as goal

pub returns-then-has_room-clause-value : goal.returns-then-has_room-clause-value
returns-then-has_room-clause-value c =
    sym (greatest-at (has_room (turns_at c.args.net.now c.args.l) (room_of c.args.store.now c.args.held.now)) c.args.wish (c.loop-below.below - 1 + 1) (omega (arith, c.loop-below.invariant.most)) (sym c.has_room.ensures ∙ c.if-has_room.true)
    (λ a more inside. c.loop-below.invariant.above a (omega (arith, more)) inside))

pub returns-then-has_room-clause-fits : goal.returns-then-has_room-clause-fits
returns-then-has_room-clause-fits c k = part-fits (turns_at c.args.net.now c.args.l) (room_of c.args.store.now c.args.held.now) (c.loop-below.below - 1 + 1) k (sym c.has_room.ensures ∙ c.if-has_room.true)

pub returns-clause-value : goal.returns-clause-value
returns-clause-value c =
    sym (greatest-none (has_room (turns_at c.args.net.now c.args.l) (room_of c.args.store.now c.args.held.now)) c.args.wish (λ a more inside. c.loop-below.invariant.above a (omega (arith, more)) inside))

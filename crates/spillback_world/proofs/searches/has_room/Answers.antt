use Rattle.std.proofs.Common.{◌≡◌, length, arith}
use Rattle.net_parts.specs.Outline.{turns_at}
use Rattle.net_simulator.proofs.EveryWorld.{parts-of}
use Rattle.net_simulator.proofs.Turning.{exit-below, no_turn}
use Rattle.spillback_world.specs.Filling.{room_of}
use Rattle.spillback_world.proofs.Searching.{fit-next, room-all, room-short, shares-small, through}
use Rattle.spillback_world.proofs.searches.has_room.Goals as goal

pub part_of_turn-part-requires : goal.part_of_turn-part-requires
part_of_turn-part-requires c =
    shares-small (room_of c.args.store.now c.args.held.now) (turns_at c.args.net.now c.args.l) c.turns-turn-items.result.now c.turns-turn-items.ensures.value c.turns-turn-items.ensures.parts c.args.amount c.loop-turn.turn-index c.loop-turn-test.true c.loop-turn.before c.loop-turn.invariant.before

pub room-requires-clause-store : goal.room-requires-clause-store
room-requires-clause-store c =
    rw c.requires.store (exit-below (turns_at c.args.net.now c.args.l) c.turns-turn-items.result.now c.turns-turn-items.ensures.value c.loop-turn.turn-index no_turn c.loop-turn-test.true (length c.args.net.now.link_names) (parts-of c.args.net.now c.turns-turn-items.ensures.network c.args.l c.requires.link).1.exits)

pub room-requires-clause-held : goal.room-requires-clause-held
room-requires-clause-held c =
    rw c.requires.held (exit-below (turns_at c.args.net.now c.args.l) c.turns-turn-items.result.now c.turns-turn-items.ensures.value c.loop-turn.turn-index no_turn c.loop-turn-test.true (length c.args.net.now.link_names) (parts-of c.args.net.now c.turns-turn-items.ensures.network c.args.l c.requires.link).1.exits)

pub returns-then-part-room : goal.returns-then-part-room
returns-then-part-room c =
    room-short (room_of c.args.store.now c.args.held.now) (turns_at c.args.net.now c.args.l) c.turns-turn-items.result.now c.turns-turn-items.ensures.value c.turns-turn-items.ensures.parts c.args.amount c.loop-turn.turn-index c.loop-turn-test.true c.loop-turn.before c.loop-turn.invariant.before
    c.part_of_turn-part.result c.room.result c.part_of_turn-part.ensures.value c.room.ensures c.if-part-room.true

pub loop-turn-preserved : goal.loop-turn-preserved
loop-turn-preserved c = record {
  fit = fit-next (room_of c.args.store.now c.args.held.now) (turns_at c.args.net.now c.args.l) c.turns-turn-items.result.now c.turns-turn-items.ensures.value c.turns-turn-items.ensures.parts c.args.amount c.loop-turn.turn-index c.loop-turn-test.true c.loop-turn.before c.loop-turn.invariant.before
      c.loop-turn.invariant.fit c.part_of_turn-part.result c.room.result c.part_of_turn-part.ensures.value c.room.ensures c.if-part-room.false;
  before = through (room_of c.args.store.now c.args.held.now) (turns_at c.args.net.now c.args.l) c.turns-turn-items.result.now c.turns-turn-items.ensures.value c.turns-turn-items.ensures.parts c.args.amount c.loop-turn.turn-index c.loop-turn-test.true c.loop-turn.before c.loop-turn.invariant.before;
}

pub returns : goal.returns
returns c =
    let whole : c.loop-turn.turn-index ≡ length (turns_at c.args.net.now c.args.l) = rw (← c.turns-turn-items.ensures.value) (omega arith) in
    room-all (room_of c.args.store.now c.args.held.now) c.args.amount (turns_at c.args.net.now c.args.l) c.loop-turn.turn-index whole c.loop-turn.invariant.fit

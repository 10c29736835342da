use Rattle.std.proofs.Common.{arith}
use Rattle.net_parts.specs.Outline.{turns_at}
use Rattle.spillback_world.specs.Filling.{room_of}
use Rattle.spillback_world.proofs.Searching.{try-next}
use Rattle.spillback_world.proofs.searches.first_try.Goals as goal

pub loop-turn-preserved : goal.loop-turn-preserved
loop-turn-preserved c = record {
  most = omega (arith, c.most_for-most.ensures.most, c.loop-turn.invariant.most);
  above = try-next (room_of c.args.store.now c.args.held.now) (turns_at c.args.net.now c.args.l) c.turns-turn-items.result.now c.turns-turn-items.ensures.value c.args.wish c.loop-turn.most c.most_for-most.result c.loop-turn.turn-index c.room.result
      c.turns-turn-items.ensures.parts c.loop-turn-test.true c.loop-turn.invariant.above c.room.ensures c.most_for-most.ensures.above;
}

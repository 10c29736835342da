use Rattle.std.proofs.Common.{arith}
use Rattle.std.proofs.lemmas.Iterator.Adapters.{YieldsList-from_vec}
use Rattle.std.proofs.lemmas.Iterator.Consumers.{YieldsList-turn}
use Rattle.intersection_actor.specs.Acting.{Acting}
use Rattle.runs.proofs.SameParts.{length-mapped}
use Rattle.runs.proofs.run_records.push_timelines.Goals as goal

pub push_reserved-requires : goal.push_reserved-requires
push_reserved-requires c =
    let made = c.into_iter-actor-iterator.ensures.into_iter_gives in
    let turn = YieldsList-turn (YieldsList-from_vec {s = c.into_iter-actor-iterator.result} c.args.actors.items made.0 (omega (arith, made.1, c.args.actors.ok.0))) c.loop-actor.yielded c.loop-actor.actor-iterator c.loop-actor.yielded_by c.next.result c.next.new.self c.in-Some.actor c.in-Some.is c.next.ensures.steps in
    let i = c.loop-actor.invariant in
    let long = length-mapped (λ (a : Acting). a.line) c.loop-actor.timelines.items c.args.timelines.now.items c.loop-actor.yielded i.timelines in
    omega (arith, turn.0, long, i.capacity, c.requires, c.loop-actor.timelines.ok.0, c.args.timelines.now.ok.0)

use Rattle.std.proofs.Common.{◌<◌, length, rules, arith}
use Rattle.runs.proofs.PlanLists.{moved-actors, moved-plans, moved-room}
use Rattle.runs.proofs.network_actors.Actors.move_records.Goals as goal

pub move_records-requires : goal.move_records-requires
move_records-requires c =
    let i = c.loop-node.invariant in
    let all = c.args.self.now.all.items in
    let inside : c.loop-node.node < length all = search rules in
    let room = moved-room all c.loop-node.self.all.items c.loop-node.node c.index_mut.result.now i.actors inside c.index_mut.ensures.value c.args.plans.now.items c.loop-node.plans.items i.plans in
    omega (arith, room, i.capacity, c.requires, c.args.plans.now.ok.0, c.loop-node.plans.ok.0)

pub loop-node-preserved : goal.loop-node-preserved
loop-node-preserved c =
    let i = c.loop-node.invariant in
    let all = c.args.self.now.all.items in
    let now = c.loop-node.self.all.items in
    let node = c.loop-node.node in
    let actor = c.index_mut.result.now in
    let is = c.move_records.ensures in
    let inside : node < length all = search rules in
    record {
      actors = moved-actors all now node actor i.actors inside c.index_mut.ensures.value c.move_records.new.self is.actor;
      plans = moved-plans all now node actor i.actors inside c.index_mut.ensures.value c.args.plans.now.items c.loop-node.plans.items c.move_records.new.plans.items i.plans is.plans;
      capacity = omega (arith, i.capacity, is.capacity);
    }

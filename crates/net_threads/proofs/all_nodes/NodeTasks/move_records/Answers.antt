use Rattle.std.proofs.Common.{◌<◌, ◌≤◌, length, rules, sym, ap, ◌∙◌, arith}
use Rattle.std.proofs.lemmas.List.{get_or-map, length-map, map-set}
use Rattle.runs.proofs.PlanLists.{moved-actors, moved-all, moved-plans, moved-room}
use Rattle.net_threads.specs.Tasks.{actor_of, actors_in, pass_of}
use Rattle.net_threads.proofs.TaskLists.{kept-passes, kept-settings}
use Rattle.net_threads.proofs.all_nodes.NodeTasks.move_records.Goals as goal

pub move_records-requires : goal.move_records-requires
move_records-requires g c =
    let i = c.loop-k.invariant in
    let tasks = c.args.self.now.all.items in
    let old = actors_in tasks in
    let now = c.loop-k.self.all.items in
    let k = c.loop-k.k in
    let d = c.index_mut.result.now in
    let within : k < length tasks = search rules in
    let inside : k < length old = omega (arith, within, length-map tasks actor_of) in
    let there : k < length now = omega (arith, within, ap length i.passes, length-map now pass_of, length-map tasks pass_of) in
    let at = ap actor_of c.index_mut.ensures.value ∙ sym (get_or-map actor_of now k d (actor_of d) there) in
    let room = moved-room old (actors_in now) k (actor_of d) i.actors inside at c.args.plans.now.items c.loop-k.plans.items i.plans in
    omega (arith, room, i.capacity, c.requires, c.args.plans.now.ok.0, c.loop-k.plans.ok.0)

pub loop-k-preserved : goal.loop-k-preserved
loop-k-preserved g c =
    let i = c.loop-k.invariant in
    let tasks = c.args.self.now.all.items in
    let old = actors_in tasks in
    let now = c.loop-k.self.all.items in
    let k = c.loop-k.k in
    let d = c.index_mut.result.now in
    let t = c.move_records.new.self in
    let is = c.index_mut.ensures.value in
    let within : k < length tasks = search rules in
    let inside : k < length old = omega (arith, within, length-map tasks actor_of) in
    let there : k < length now = omega (arith, within, ap length i.passes, length-map now pass_of, length-map tasks pass_of) in
    let at = ap actor_of is ∙ sym (get_or-map actor_of now k d (actor_of d) there) in
    record {
      actors = map-set actor_of now k t ∙ moved-actors old (actors_in now) k (actor_of d) i.actors inside at (actor_of t) c.move_records.ensures.actor;
      passes = kept-passes now k d t is c.move_records.ensures.pass ∙ i.passes;
      settings = kept-settings now k d t is c.move_records.ensures.setting ∙ i.settings;
      plans = moved-plans old (actors_in now) k (actor_of d) i.actors inside at c.args.plans.now.items c.loop-k.plans.items c.move_records.new.plans.items i.plans c.move_records.ensures.plans;
      capacity = omega (arith, i.capacity, c.move_records.ensures.capacity);
    }

pub returns-clause-actors : goal.returns-clause-actors
returns-clause-actors g c =
    let old = actors_in c.args.self.now.all.items in
    let past : length c.args.self.now.all.items ≤ c.loop-k.k = search rules in
    (moved-all old (actors_in c.loop-k.self.all.items) c.loop-k.k c.args.plans.now.items c.loop-k.plans.items (omega (arith, past, length-map c.args.self.now.all.items actor_of)) c.loop-k.invariant.actors c.loop-k.invariant.plans).0

pub returns-clause-plans : goal.returns-clause-plans
returns-clause-plans g c =
    let old = actors_in c.args.self.now.all.items in
    let past : length c.args.self.now.all.items ≤ c.loop-k.k = search rules in
    (moved-all old (actors_in c.loop-k.self.all.items) c.loop-k.k c.args.plans.now.items c.loop-k.plans.items (omega (arith, past, length-map c.args.self.now.all.items actor_of)) c.loop-k.invariant.actors c.loop-k.invariant.plans).1

use Rattle.std.proofs.Common.{◌≡◌, ◌<◌, [], get_or, length, map, ap, sym, ◌∙◌, arith}
use Rattle.std.proofs.lemmas.List.{get_or-map, length-map}
use Rattle.control_flow.specs.Signs.{sign_at}
use Rattle.intersection_actor.specs.Acting.{Acting}
use Rattle.net_threads.specs.Tasks.{actor_of, actors_in}
use Rattle.net_threads.specs.declared.node_tasks.Node.{Node}
use Rattle.net_threads.specs.declared.node_tasks.NodeTask.{NodeTask}
use Rattle.net_threads.proofs.lights.NodeTasksLights.sign.Goals as goal

pub returns : goal.returns
returns g c =
    let all = c.args.self.now.all.items in
    let node = c.args.node in
    let d = c.index.result.now in
    let a = actor_of d in
    let inside : node < length all = omega (arith, c.if-node-len.false, c.len.ensures, c.args.self.now.all.ok.0) in
    let there : node < length (actors_in all) = omega (arith, inside, length-map all actor_of) in
    let line : c.timeline.result.now ≡ get_or (map (λ (a : Acting). a.line) (actors_in all)) node [] =
    c.timeline.ensures ∙ ap (λ (n : Node _ _ _). n.actor.line) c.deref.ensures ∙ ap (λ (t : NodeTask _ _ _ _). t.node.value.actor.line) c.index.ensures
    ∙ ap (λ (x : Acting). x.line) (sym (get_or-map actor_of all node d a inside)) ∙ sym (get_or-map (λ (x : Acting). x.line) (actors_in all) node a [] there) in
    c.sign_at.ensures.exact ∙ ap (λ l. sign_at l c.args.second) line

use Rattle.std.proofs.Common.{◌++◌, [], ◌∷◌, sym, subst, ap, ◌∙◌, arith}
use Rattle.std.proofs.lemmas.List.{length-append, map-append}
use Rattle.net_threads.specs.Tasks.{AreTasksOf, actor_of, actors_in}
use Rattle.net_threads.proofs.TaskLists.{of-more}
use Rattle.net_threads.proofs.set_up.node_tasks.Goals as goal

pub loop-actor-preserved : goal.loop-actor-preserved
loop-actor-preserved g c =
    let i = c.loop-actor.invariant in
    let tasks = c.loop-actor.tasks.items in
    let task = c.in_ok-node_task.field-0 in
    let more = c.in_ok-push.ensures.items in
    record {
      next = tt;
      finite = tt;
      actors = ap actors_in more ∙ map-append actor_of tasks (task ∷ []) ∙ (λ j. i.actors j ++ c.in_ok-node_task.ensures.actor j ∷ []);
      of = subst (AreTasksOf c.args.net.now c.args.boards.now) (sym more) (of-more c.args.net.now c.args.boards.now tasks task i.of (ap (λ s. s.net.now) c.in_ok-node_task.ensures.setting) (ap (λ s. s.boards.now) c.in_ok-node_task.ensures.setting));
      planners = omega (arith, i.planners, c.in-Some-pop.ensures.len, length-append c.loop-actor.yielded (c.in-Some.actor ∷ []));
      passes = omega (arith, i.passes, c.in-Some-pop-2.ensures.len, length-append c.loop-actor.yielded (c.in-Some.actor ∷ []));
    }

use Rattle.std.proofs.Common.{sym, ap, subst, ◌∙◌}
use Rattle.task_pool.specs.Batch.{AreDone}
use Rattle.net_threads.specs.Tasks.{HasPlayedTask}
use Rattle.net_threads.proofs.Rounding.{all-ended, ok-map}
use Rattle.net_threads.proofs.TaskLists.{map-same, name_of, names-in, setting_of}
use Rattle.net_threads.proofs.all_nodes.NodeTasks.go_on.Goals as goal

all-done : (g : _) (c : goal.After-outcome g) → AreDone HasPlayedTask c.args.self.now.all.items c.run_all.result.items
all-done g c = subst (λ l. AreDone HasPlayedTask l c.run_all.result.items) (ap (λ v. v.items) c.replace-tasks.ensures.value) c.run_all.ensures.done

pub returns-clause-settings : goal.returns-clause-settings
returns-clause-settings g c =
    let done = all-done g c in
    map-same setting_of c.args.self.now.all.items c.run_all.result.items done.count (λ k s t inside. λ i. (((done.each k s t inside).same.net i).now, ((done.each k s t inside).same.boards i).now))

pub returns-clause-same : goal.returns-clause-same
returns-clause-same g c =
    let done = all-done g c in
    names-in c.run_all.result.items ∙ map-same name_of c.args.self.now.all.items c.run_all.result.items done.count (λ k s t inside. λ i. ((done.each k s t inside).same.pass.0 i, (done.each k s t inside).same.pass.1 i)) ∙ sym (names-in c.args.self.now.all.items)

pub returns-clause-played : goal.returns-clause-played
returns-clause-played g c = ok-map c.outcome.result _ _ (λ well ended. all-ended c.args.self.now.all.items c.run_all.result.items (all-done g c) ended) c.outcome.ensures

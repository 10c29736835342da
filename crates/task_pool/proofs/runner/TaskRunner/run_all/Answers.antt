use Rattle.std.proofs.Common.{rules, ◌≡◌, length, sym, subst, ◌∙◌}
use Rattle.task_pool.proofs.Changes.{all-done, all-laid, written}
use Rattle.task_pool.specs.Known.{AreAllLaid, AreEmpty, AreTakenBack, FitSlots, IsFreeWorkerOf, IsOwnerOf}
use Rattle.task_pool.proofs.runner.TaskRunner.run_all.Goals as goal

pub take_all_back-requires-clause-laid : goal.take_all_back-requires-clause-laid
take_all_back-requires-clause-laid g c =
    let same : c.as_mut_slice-3.result.now ≡ c.lay_all.new.owners = c.as_mut_slice-3.ensures.value ∙ written _ c.lay_all.new.owners _ (search rules) in
    subst AreAllLaid (sym same) (all-laid _ _ c.lay_all.ensures.laid)

pub invariant_of-self : goal.invariant_of-self
invariant_of-self g c =
    let owners : length c.take_all_back.new.owners ≡ c.self.inside.owners.len = search rules in
    let same = written _ c.take_all_back.new.owners c.self.inside.owners.len owners in
    let back = c.take_all_back.ensures.owners in record {
      owned = subst (FitSlots IsOwnerOf c.self.inside.slots.now) (sym same) back.0;
      empty = subst AreEmpty (sym same) back.1;
      served = subst (FitSlots IsFreeWorkerOf c.self.inside.slots.now) (sym (written _ c.do_tasks.new.workers c.self.inside.workers.len (search rules))) c.do_tasks.ensures;
    }

pub returns-clause-done : goal.returns-clause-done
returns-clause-done g c =
    let same : c.as_mut_slice-3.result.now ≡ c.lay_all.new.owners = c.as_mut_slice-3.ensures.value ∙ written _ c.lay_all.new.owners _ (search rules) in
    all-done g.T.Task.done _ _ _ c.lay_all.ensures.laid (subst (λ os. AreTakenBack g.T.Task.done os c.take_all_back.new.tasks.items) same c.take_all_back.ensures.done)

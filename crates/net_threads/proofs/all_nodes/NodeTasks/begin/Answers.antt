use Rattle.std.proofs.Common.{◌≡◌, ◌<◌, ◌≤◌, length, rules, get_or, subst, ◌∙◌, arith}
use Rattle.net_threads.specs.Tasks.{HasBegunTask}
use Rattle.net_threads.proofs.TaskLists.{each-done, first-more, same-names, same-settings}
use Rattle.net_threads.proofs.all_nodes.NodeTasks.begin.Goals as goal

pub returns-in_err-begin-clause-settings : goal.returns-in_err-begin-clause-settings
returns-in_err-begin-clause-settings g c =
    same-settings c.loop-k.self.all.items c.loop-k.k c.index_mut.result.now c.begin.new.self c.index_mut.ensures.value c.begin.ensures.same ∙ c.loop-k.invariant.settings

pub returns-in_err-begin-clause-same : goal.returns-in_err-begin-clause-same
returns-in_err-begin-clause-same g c =
    same-names c.loop-k.self.all.items c.loop-k.k c.index_mut.result.now c.begin.new.self c.index_mut.ensures.value c.begin.ensures.same ∙ c.loop-k.invariant.same

pub loop-k-preserved : goal.loop-k-preserved
loop-k-preserved g c =
    let i = c.loop-k.invariant in
    let k = c.loop-k.k in
    let now = c.loop-k.self.all.items in
    let t = c.begin.new.self in
    let d = c.index_mut.result.now in
    let at : d ≡ get_or now k d = c.index_mut.ensures.value in
    let inside : k < length c.args.self.now.all.items = search rules in
    record {
      first = first-more (HasBegunTask c.args.round c.args.world.now) k c.args.self.now.all.items now t d i.first inside
          (subst (λ (s : _). HasBegunTask c.args.round c.args.world.now s t) (at ∙ i.first.rest k d (omega arith)) c.in_ok-begin.ensures.begun);
      settings = same-settings now k d t at c.begin.ensures.same ∙ i.settings;
      same = same-names now k d t at c.begin.ensures.same ∙ i.same;
    }

pub returns-clause-begun : goal.returns-clause-begun
returns-clause-begun g c =
    let all : length c.args.self.now.all.items ≤ c.loop-k.k = search rules in
    each-done (HasBegunTask c.args.round c.args.world.now) c.loop-k.k c.args.self.now.all.items c.loop-k.self.all.items all c.loop-k.invariant.first

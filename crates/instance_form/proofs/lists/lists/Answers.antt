use Rattle.std.proofs.Common.{◌≡◌, ◌++◌, ◌∷◌, [], length, ap, ◌∙◌, arith}
use Rattle.std.proofs.lemmas.List.Sums.{sum_by_push}
use Rattle.instance_form.specs.Reading.{lists_at}
use Rattle.instance_form.proofs.Loops.{lists_go_on, lists_end}
use Rattle.instance_form.proofs.lists.lists.Goals as goal

pub loop-phase-preserved : goal.loop-phase-preserved
loop-phase-preserved c =
    let front = c.loop-phase.lists.items in
    let list = c.in_ok-list.list.items in
    let pushed : c.push.new.self.items ≡ front ++ list ∷ [] = c.in_ok-push.ensures.items ∙ ap (λ l. front ++ l ∷ []) c.from_vec.ensures in
    let total = c.loop-phase.invariant.total in
    let few = c.loop-phase.invariant.few in
    let shorter = c.in_ok-list.ensures.few in
    record {
      read = rw pushed (lists_go_on front c.args.version c.args.count c.loop-phase.phase c.loop-phase.rest.now list c.in_ok-list.after.now (lists_at c.args.version c.args.count 0 c.args.bytes.now) c.loop-phase-test.true c.in_ok-list.ensures.exact c.loop-phase.invariant.read);
      total = rw (pushed, sum_by_push (λ l. length l) front list) (omega arith);
      few = omega arith;
    }

pub returns-clause-exact : goal.returns-clause-exact
returns-clause-exact c = lists_end c.loop-phase.lists.items c.args.version c.args.count c.loop-phase.phase c.loop-phase.rest.now _ (omega arith) c.loop-phase.invariant.read

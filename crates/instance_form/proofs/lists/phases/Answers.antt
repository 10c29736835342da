use Rattle.std.proofs.Common.{◌≡◌, ◌+◌, ◌++◌, ◌∷◌, [], Some, None, sym, ap, ◌∙◌, arith}
use Rattle.std.specs.Option.{option_map}
use Rattle.std.proofs.lemmas.Result.{err_from_is_err_and}
use Rattle.instance_form.specs.declared.form.FormFault.TheVariants.{Line}
use Rattle.instance_form.specs.Lines.{seen}
use Rattle.instance_form.specs.Reading.{phases_at}
use Rattle.instance_form.proofs.Loops.{fault_is, phases_go_on, phases_fail, phases_end}
use Rattle.instance_form.proofs.lists.phases.Goals as goal

pub returns-in_err-phase-clause-exact : goal.returns-in_err-phase-clause-exact
returns-in_err-phase-clause-exact c =
    let none : c.phase_line.result ≡ None = c.in_err-phase.ensures.ok_part in
    let fault : c.in_err-phase.field-0.0 ≡ Line (c.args.line + c.loop-index.index) = fault_is c.phase_line.result _ _ none c.in_err-phase.ensures.value ∙ ap (λ i. Line (c.args.line + i)) c.from.ensures in
    let p = err_from_is_err_and c.from_residual.result c.from_residual.ensures.1 in
    rw (p.1, p.2, fault) (phases_fail c.loop-index.phases.items c.args.version c.args.count c.loop-index.index c.args.line c.loop-index.rest.now (phases_at c.args.version c.args.count c.args.line c.args.bytes.now) c.loop-index-test.true
    (sym c.phase_line.ensures.exact ∙ ap (option_map seen) none) c.loop-index.invariant.read)

pub loop-index-preserved : goal.loop-index-preserved
loop-index-preserved c =
    let front = c.loop-index.phases.items in
    let pushed : c.push.new.self.items ≡ front ++ c.in_ok-phase.phase ∷ [] = c.in_ok-push.ensures.items in
    let some : c.phase_line.result ≡ Some (c.in_ok-phase.phase, c.in_ok-phase.after) = c.in_ok-phase.ensures.ok_part in
    let before = c.loop-index.invariant.shorter in
    let shorter = rw some at c.phase_line.ensures.shorter in
    record {
      read = rw pushed (phases_go_on front c.args.version c.args.count c.loop-index.index c.args.line c.loop-index.rest.now c.in_ok-phase.phase c.in_ok-phase.after.now (phases_at c.args.version c.args.count c.args.line c.args.bytes.now) c.loop-index-test.true
          (sym c.phase_line.ensures.exact ∙ ap (option_map seen) some) c.loop-index.invariant.read);
      shorter = omega arith;
    }

pub returns-clause-exact : goal.returns-clause-exact
returns-clause-exact c = phases_end c.loop-index.phases.items c.args.version c.args.count c.loop-index.index c.args.line c.loop-index.rest.now _ (omega arith) c.loop-index.invariant.read

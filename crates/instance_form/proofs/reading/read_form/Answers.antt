use Rattle.std.proofs.Common.{◌≡◌, [], length, sym, ap, ◌∙◌}
use Rattle.std.proofs.lemmas.Bool.{eqb-false}
use Rattle.std.proofs.lemmas.List.{append-nil}
use Rattle.std.proofs.lemmas.Result.{err_from_is_err_and}
use Rattle.instance_form.specs.InstanceText.{whole_text}
use Rattle.instance_form.proofs.FirstFault.{fault_alone, trailing_fault}
use Rattle.instance_form.proofs.reading.read_form.Goals as goal

pub returns-in_err-form-clause-only : goal.returns-in_err-form-clause-only
returns-in_err-form-clause-only c = λ marks plan h lists fits ring e.
    let p = err_from_is_err_and c.from_residual.result c.from_residual.ensures.1 in
    rw (p.1, p.2) (c.in_err-form.ensures.only marks plan h lists [] fits ring (e ∙ sym (append-nil (whole_text marks plan h lists))))

pub returns-else-is_empty-clause-only : goal.returns-else-is_empty-clause-only
returns-else-is_empty-clause-only c = λ marks plan h lists fits ring e.
    let says = c.in_ok-form.ensures.only marks plan h lists [] fits ring (e ∙ sym (append-nil (whole_text marks plan h lists))) in
    let empty : c.in_ok-form.rest.now ≡ [] = says.1 in
    eqb-false (length c.in_ok-form.rest.now) 0 (sym c.is_empty.ensures ∙ c.if-is_empty.false) (ap length empty)

pub returns-in_err-form-clause-first : goal.returns-in_err-form-clause-first
returns-in_err-form-clause-first c =
    let p = err_from_is_err_and c.from_residual.result c.from_residual.ensures.1 in
    rw (p.1, p.2) (fault_alone 1 c.args.bytes.now c.in_err-form.field-0.0 c.in_err-form.ensures.first)

pub returns-else-is_empty-clause-first : goal.returns-else-is_empty-clause-first
returns-else-is_empty-clause-first c =
    let form = c.in_ok-form.form in
    trailing_fault form.marks form.phases.items form.head form.lists.items c.args.bytes.now c.in_ok-form.rest.now c.in_ok-form.line c.in_ok-form.ensures.ok.0.fits c.in_ok-form.ensures.ok.0.ring c.in_ok-form.ensures.ok.1 c.in_ok-form.ensures.next

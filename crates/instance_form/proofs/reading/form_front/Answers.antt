use Rattle.std.proofs.lemmas.Result.{err_from_is_err_and}
use Rattle.instance_form.proofs.FormLaws.{closing_fails}
use Rattle.instance_form.proofs.reading.form_front.Goals as goal

pub returns-in_err-rest : goal.returns-in_err-rest
returns-in_err-rest c =
    let p = err_from_is_err_and c.from_residual-in_err-rest.result c.from_residual-in_err-rest.ensures.1 in
    rw (p.1, p.2) (closing_fails c.in_err-rest.field-0.0 c.args.line c.args.bytes.now (c.in_ok-version.version, c.in_ok-version.count, c.in_ok-version.rest.now) (c.in_ok-phases.phases.items, c.in_ok-phases.rest.now) (c.in_ok-head.head, c.in_ok-head.rest.now) (c.in_ok-lists.lists.items, c.in_ok-lists.rest.now)
    c.in_ok-version.ensures.exact c.in_ok-phases.ensures.exact (rw c.from.ensures at c.in_ok-head.ensures.exact) c.in_ok-lists.ensures.exact (rw (c.from.ensures, c.in_ok-lists.ensures.total, c.deref.ensures.value) at c.in_err-rest.ensures.exact))

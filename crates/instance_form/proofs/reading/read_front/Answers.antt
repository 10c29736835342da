use Rattle.std.proofs.lemmas.Result.{IfOk-weaker}
use Rattle.instance_form.proofs.FormLaws.{front_takes, front_only}
use Rattle.instance_form.proofs.FirstFault.{front_fault}
use Rattle.instance_form.proofs.reading.read_front.Goals as goal

pub returns-clause-ok : goal.returns-clause-ok
returns-clause-ok c = IfOk-weaker c.form_front.result _ _ (λ x t. (record { fits = t.fits; ring = t.ring }, t.spelled)) (front_takes c.args.line c.args.bytes.now c.form_front.result c.form_front.ensures)

pub returns-clause-next : goal.returns-clause-next
returns-clause-next c = IfOk-weaker c.form_front.result _ _ (λ x t. t.next) (front_takes c.args.line c.args.bytes.now c.form_front.result c.form_front.ensures)

pub returns-clause-only : goal.returns-clause-only
returns-clause-only c = front_only c.args.line c.args.bytes.now c.form_front.result c.form_front.ensures

pub returns-clause-first : goal.returns-clause-first
returns-clause-first c = front_fault c.args.line c.args.bytes.now c.form_front.result c.form_front.ensures

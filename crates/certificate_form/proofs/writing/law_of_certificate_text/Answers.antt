use Rattle.std.proofs.Common.{◌≡◌, All, length, subst}
use Rattle.schedule_meaning.specs.Instances.{Problem}
use Rattle.instance_form.specs.InstanceText as form
use Rattle.dp_certificate.specs.declared.Entry.{Entry}
use Rattle.certificate_form.specs.CertificateText.{IsWritableAnswer}
use Rattle.certificate_form.proofs.WritingLaws.{certificate_fits}
use Rattle.certificate_form.proofs.LengthLaws.{text-le}
use Rattle.certificate_form.proofs.writing.law_of_certificate_text.Goals as goal

pub returns-clause-is_text : goal.returns-clause-is_text
returns-clause-is_text c =
    let instance = subst (λ (p : Problem). form.HasText p.plan p.head p.lists) c.instance.ensures c.law_of_instance.ensures in
    let answer = subst IsWritableAnswer c.answer.ensures.value c.law_of_answer.ensures in
    let places = subst (λ es. All (λ (e : Entry). length e.counts ≡ 4) es) c.entries.ensures.value c.law_of_entries.ensures in
    certificate_fits c.args.c.now c.entries.ensures.certificate instance answer places

pub returns-clause-short : goal.returns-clause-short
returns-clause-short c = text-le c.args.c.now c.entries.ensures.certificate (returns-clause-is_text c)

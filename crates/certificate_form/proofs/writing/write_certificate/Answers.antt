use Rattle.std.proofs.Common.{◌≡◌, All, length, ap, subst, arith}
use Rattle.schedule_meaning.specs.Instances.{Problem}
use Rattle.instance_form.specs.InstanceText as form
use Rattle.dp_certificate.specs.declared.Entry.{Entry}
use Rattle.certificate_form.specs.CertificateText.{IsWritableAnswer}
use Rattle.certificate_form.proofs.WritingLaws.{certificate_fits, text_parts}
use Rattle.certificate_form.proofs.LengthLaws.{text-le}
use Rattle.certificate_form.proofs.writing.write_certificate.Goals as goal

pub returns-clause-is_text : goal.returns-clause-is_text
returns-clause-is_text c =
    let claim = c.args.c.now in
    let instance = subst (λ (p : Problem). form.HasText p.plan p.head p.lists) c.instance-2.ensures c.in_ok-write_front.ensures.fits in
    let answer = subst IsWritableAnswer c.answer.ensures.value c.in_ok-write_tail.ensures.answer in
    let places = subst (λ es. All (λ (e : Entry). length e.counts ≡ 4) es) c.entries-entries.ensures.value c.in_ok-write_tail.ensures.places in
    (certificate_fits claim c.entries-entries.ensures.certificate instance answer places, grind (arith, text_parts))

pub returns-clause-short : goal.returns-clause-short
returns-clause-short c =
    let claim = c.args.c.now in
    omega (arith, ap length (returns-clause-is_text c).1, text-le claim c.entries-entries.ensures.certificate (returns-clause-is_text c).0)

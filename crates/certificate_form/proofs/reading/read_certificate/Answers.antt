use Rattle.std.proofs.Common.{refl}
use Rattle.schedule_meaning.proofs.TextLaws.{lists-below-text}
use Rattle.certificate_form.proofs.WholeLaws.{text_below}
use Rattle.certificate_form.specs.Answers.{claim_of_lines}
use Rattle.certificate_form.proofs.reading.read_certificate.Goals as goal

pub new-requires : goal.new-requires
new-requires c =
    let form = c.in_ok-form.field-0.form in
    lists-below-text form.marks form.phases.items form.head form.lists.items _ refl
    (text_below form.marks c.args.bytes.now (claim_of_lines c.in_ok-form.field-0) 4294967296 c.in_ok-form.ensures.ok.text c.requires)

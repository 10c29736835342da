use Rattle.certificate_form.proofs.WholeLaws.{one-text}
use Rattle.certificate_form.proofs.reading.law_of_certificates.Goals as goal

pub returns : goal.returns
returns c = one-text

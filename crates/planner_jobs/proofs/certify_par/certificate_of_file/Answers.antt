use Rattle.std.proofs.Common.{refl}
use Rattle.dp_certificate.specs.Whole.{IsWhole}
use Rattle.planner_jobs.proofs.Accepted.{written-accepted}
use Rattle.planner_jobs.proofs.certify_par.certificate_of_file.Goals as goal

pub returns : goal.returns
returns g c =
    let made = c.in_ok-certificate in
    let certificate = written-accepted IsWhole c.in_ok-instance.instance made.certificate _ c.law_of_certificates.ensures c.law_of_certificate_text.ensures.short made.ensures.few c.law_of_certificate_text.ensures.lawful (c.law_of_certificate_text.ensures.is_text, refl) made.ensures.proves made.ensures.instance made.ensures.whole made.ensures.best in
    (c.in_ok-instance.ensures.ok, ((c.in_ok-instance.instance, tt), (c.in_ok-instance.ensures.text, tt), ((certificate, λ against. against), λ what missing. missing)))

use Rattle.std.proofs.Common.{◌≡◌, ap, sym, subst, ◌∙◌}
use Rattle.schedule_meaning.specs.Best.{IsBest}
use Rattle.schedule_meaning.proofs.Choosing.{best-one}
use Rattle.dp_certificate.specs.Certificates.{Claim}
use Rattle.dp_certificate.specs.Whole.{IsWhole}
use Rattle.certificate_form.specs.CertificateText.{certificate_text}
use Rattle.parallel_dp.proofs.PieceLaws.{only-whole}
use Rattle.planner_jobs.proofs.certify_par.law_of_whole_certificates.Goals as goal

-- claims are one where their parts are
same-claim : (c d : Claim) → c.problem ≡ d.problem → c.entries ≡ d.entries → c.answer ≡ d.answer → c ≡ d
same-claim c d problem entries answer = λ i. record { problem = problem i; entries = entries i; answer = answer i }

pub returns : goal.returns
returns c p one other a b =
    let same : a.0.problem ≡ b.0.problem = a.1 ∙ sym b.1 in
    let entries = only-whole a.0.problem a.0.entries b.0.entries a.2 (subst (λ q. IsWhole q b.0.entries) (sym same) b.2) in
    let answer = best-one a.0.problem a.0.answer b.0.answer a.3 (subst (λ q. IsBest q b.0.answer) (sym same) b.3) in
    a.4 ∙ ap certificate_text (same-claim a.0 b.0 same entries answer) ∙ sym b.4

-- What the commands over an instance or a certificate mean.
use Rattle.std.specs.Prelude.{◌≡◌, ℕ, ◌≤◌, List, length}
use Rattle.schedule_meaning.specs.Best.{IsBest, IsLeast}
use Rattle.schedule_meaning.specs.Instances.{Problem}
use Rattle.schedule_meaning.specs.declared.planners.Answer.{Answer}
use Rattle.dp_certificate.specs.Certificates.{Claim}
use Rattle.dp_certificate.specs.Proves.{Proves}
use Rattle.dp_certificate.specs.Whole.{IsWhole}
use Rattle.pruned_dp.specs.Bounded.{IsBounded}
use Rattle.certificate_form.specs.CertificateText.{certificate_text}
use Rattle.cert_checker.specs.Verdicts.{IsWhy}
use Rattle.cert_checker.specs.declared.Why.{Why}
use Rattle.commands.specs.Limits.{most_bytes}
use Rattle.commands.specs.Meanings.{Meaning, accepted_line, writer}
use Rattle.commands.specs.Texts.{one_text}
use Rattle.planner_jobs.specs.Answers.{answer_text}
use Rattle.planner_jobs.specs.Kinds.{CertificateText, InstanceText, IsCertificateText}
use Rattle.planner_jobs.specs.Verdicts.{rejected_line}

-- the bytes are the text of the best answer of the instance
abbrev pub IsAnswerText : Problem → List ℕ → Type 0
IsAnswerText p bytes = (answer : Answer) × IsBest p answer × IsLeast p answer × (bytes ≡ answer_text answer)

-- `plan FILE`
abbrev pub plan_meaning : List ℕ → Meaning
plan_meaning file = writer (one_text InstanceText file) (λ said bytes. IsAnswerText said.0 bytes)

-- These bytes are a certificate's text that `check` accepts: the text is within the limit, and is the text of this certificate and no
-- other; and the certificate proves its answer.
pub record IsAcceptedText (bytes : List ℕ) (c : Claim) : Type 0 where
  pub short : length bytes ≤ most_bytes
  pub is_text : IsCertificateText bytes c
  pub only : (other : Claim) → IsCertificateText bytes other → other ≡ c
  pub proves : Proves c

-- the bytes are the text of a certificate of the instance, with the best answer and the whole table
abbrev pub IsWholeCertificate : Problem → List ℕ → Type 0
IsWholeCertificate p bytes =
    (c : Claim) × (c.problem ≡ p) × IsWhole c.problem c.entries × IsBest c.problem c.answer
    × (bytes ≡ certificate_text c)
    × IsAcceptedText bytes c

-- the bytes are the text of a certificate of the instance, with the best answer and the bounded table
abbrev pub IsBoundedCertificate : Problem → List ℕ → Type 0
IsBoundedCertificate p bytes =
    (c : Claim) × (c.problem ≡ p) × IsBounded c.problem c.entries × IsBest c.problem c.answer
    × (bytes ≡ certificate_text c)
    × IsAcceptedText bytes c

-- `certify FILE`, and `certify_par FILE WIDTH`
abbrev pub certify_meaning : List ℕ → Meaning
certify_meaning file = writer (one_text InstanceText file) (λ said bytes. IsWholeCertificate said.0 bytes)

-- `certify_bound FILE`
abbrev pub certify_bound_meaning : List ℕ → Meaning
certify_bound_meaning file = writer (one_text InstanceText file) (λ said bytes. IsBoundedCertificate said.0 bytes)

-- `check FILE`: its verdict goes against a certificate that does not prove its answer
abbrev pub check_meaning : List ℕ → Meaning
check_meaning file = record {
  texts = one_text CertificateText file;
  writes = λ said bytes. Proves said.0 × IsLeast said.0.problem said.0.answer × (bytes ≡ accepted_line);
  against = λ said. ¬ Proves said.0;
  rejects = λ said bytes. (why : Why) × (¬ Proves said.0) × IsWhy said.0 why × (bytes ≡ rejected_line why);
  misses = λ said what. ⊥;
}

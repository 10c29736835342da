-- The whole text: what is read is spelled so, and what is spelled so is read.
use Rattle.std.proofs.Common.{◌≡◌, ℕ, ◌+◌, ◌<◌, ◌≤◌, List, ◌++◌, length, Ok, refl, sym, ap, ◌∙◌, length-append, arith}
use Rattle.std.specs.Prelude.{codes}
use Rattle.std.proofs.lemmas.List.{append_cancel_left}
use Rattle.phase_plan.specs.declared.Marks.{Marks}
use Rattle.instance_form.specs.Answers.{IsOutOfMemory}
use Rattle.instance_form.specs.Faults.{BeginsFront, IsFaultOf}
use Rattle.instance_form.specs.InstanceText.{line_count, IsMarkedWhere}
use Rattle.phase_plan.specs.Phases.{marks_of}
use Rattle.certificate_form.specs.Answers.{IsFormText}
use Rattle.instance_form.specs.Reading.{Fails}
use Rattle.instance_form.specs.declared.form.FormFault.{FormFault}
use Rattle.instance_form.specs.declared.form.FormFault.TheVariants.{Line, NoMemory}
use Rattle.foundation.proofs.ResultLaws.{no_Err, same_Ok}
use Rattle.schedule_meaning.specs.Instances.{Problem}
use Rattle.schedule_meaning.specs.declared.planners.Answer.{Answer}
use Rattle.certificate_form.specs.CertificateText.{certificate_text, whole_certificate, HasText}
use Rattle.dp_certificate.specs.Certificates.{Claim}
use Rattle.certificate_form.specs.Reading.{tail_at}
use Rattle.certificate_form.specs.TextFaults.{IsLineFault}
use Rattle.dp_certificate.specs.declared.Entry.{Entry}
use Rattle.text_lines.proofs.Feeds.{line_feeds-le}
use Rattle.instance_form.proofs.VersionLaws.{own-marks}
use Rattle.instance_form.proofs.FirstFault.{feeds_in_text}
use Rattle.certificate_form.proofs.FirstFault.{problem_text, HasProblemText, front_text, front-append, certificate_is, behind, instance_fault, tail_fault}
use Rattle.certificate_form.proofs.TailLaws.{tail_text, tail_takes, tail_again}

-- ---- the first line

pub no_opening : (marks : Marks) (bytes : List ℕ) (c : Claim) → ((rest : List ℕ) → bytes ≡ codes "certificate 1\n" ++ rest → ⊥) → bytes ≡ whole_certificate marks c → ⊥
no_opening marks bytes c never e = never (problem_text marks c.problem ++ tail_text (length c.problem.plan) c.answer c.entries) (e ∙ certificate_is marks c)

-- ---- the instance

-- what follows the first line begins with an instance's text
pub behind_opening : (marks : Marks) (bytes rest : List ℕ) (c : Claim) → bytes ≡ codes "certificate 1\n" ++ rest → bytes ≡ whole_certificate marks c → rest ≡ problem_text marks c.problem ++ tail_text (length c.problem.plan) c.answer c.entries
behind_opening marks bytes rest c text e = append_cancel_left (codes "certificate 1\n") rest (problem_text marks c.problem ++ tail_text (length c.problem.plan) c.answer c.entries) (sym text ∙ e ∙ certificate_is marks c)

pub front_line : (bytes rest : List ℕ) (e : FormFault) → bytes ≡ codes "certificate 1\n" ++ rest → IsFaultOf BeginsFront 2 rest e → IsLineFault bytes e
front_line bytes rest (Line n) text fault = instance_fault n bytes rest text fault
front_line bytes rest NoMemory text fault = tt

-- ---- what follows

pub whole : (marks : Marks) (p : Problem) (bytes rest after : List ℕ) → bytes ≡ codes "certificate 1\n" ++ rest → rest ≡ problem_text marks p ++ after → bytes ≡ front_text marks p ++ after
whole marks p bytes rest after a b = a ∙ ap (λ (y : List ℕ). codes "certificate 1\n" ++ y) b ∙ sym (front-append marks p after)

pub room : (marks : Marks) (p : Problem) (bytes rest after : List ℕ) (line most : ℕ) → HasProblemText p → IsMarkedWhere marks p.plan → bytes ≡ codes "certificate 1\n" ++ rest → rest ≡ problem_text marks p ++ after → line ≡ 2 + line_count p.plan p.lists → length bytes < most → line + length after ≤ most
room marks p bytes rest after line most fits ring opening text is few =
    omega (arith, feeds_in_text marks p.plan p.head p.lists fits ring, line_feeds-le (problem_text marks p), ap length opening, length-append (codes "certificate 1\n") rest, ap length text, length-append (problem_text marks p) after, is)

module _ (marks : Marks) (p : Problem) (fits : HasProblemText p) (ring : IsMarkedWhere marks p.plan) (bytes after : List ℕ) (line : ℕ) (text : bytes ≡ front_text marks p ++ after) (is : line ≡ 2 + line_count p.plan p.lists) where
  pub read_form : (a : Answer) (es : List Entry) → tail_at (length p.plan) line after ≡ Ok (a, es) → (let c : Claim = record { problem = p; entries = es; answer = a } in IsFormText bytes marks c)
  read_form a es given =
      let c : Claim = record { problem = p; entries = es; answer = a } in
      let taken = tail_takes (length p.plan) fits.count.0 fits.count.1 line after (a, es) given in
      record {
        fits = record { instance = fits; answer = taken.answer; entries = taken.entries };
        ring = ring;
        text = text ∙ ap (λ (y : List ℕ). front_text marks p ++ y) taken.spelled ∙ front-append marks p (tail_text (length p.plan) a es) ∙ sym (certificate_is marks c);
      }

  read_again : (theirs : Marks) (c : Claim) → IsFormText bytes theirs c → (theirs ≡ marks) × (c.problem ≡ p) × (tail_at (length p.plan) line after ≡ Ok (c.answer, c.entries))
  read_again theirs c form =
      let next = behind theirs marks c p after form.fits form.ring fits ring (sym form.text ∙ text) in
      (next.ring, next.problem, ap (tail_at (length p.plan) line) (sym next.tail) ∙ tail_again (length p.plan) fits.count.0 fits.count.1 line c.answer c.entries form.fits.answer next.entries)

  pub read_only : (a : Answer) (es : List Entry) → tail_at (length p.plan) line after ≡ Ok (a, es) → (theirs : Marks) (c : Claim) → IsFormText bytes theirs c → (let d : Claim = record { problem = p; entries = es; answer = a } in (marks ≡ theirs) × (d ≡ c))
  read_only a es given theirs c form =
      let again = read_again theirs c form in
      let same = same_Ok (a, es) (c.answer, c.entries) (sym given ∙ again.2) in (
        sym again.0,
        ap (λ (x : Problem). let r : Claim = record { problem = x; entries = es; answer = a } in r) (sym again.1)
            ∙ ap (λ (x : Answer × List Entry). let r : Claim = record { problem = c.problem; entries = x.1; answer = x.0 } in r) same,
      )

  pub fails_only : (e : FormFault) → Fails e (tail_at (length p.plan) line after) → (theirs : Marks) (c : Claim) → IsFormText bytes theirs c → IsOutOfMemory e
  fails_only (Line n) given theirs c form = no_Err {A = Answer × List Entry} (read_again theirs c form).2 given
  fails_only NoMemory given theirs c form = tt

  pub fails_line : (e : FormFault) → Fails e (tail_at (length p.plan) line after) → IsLineFault bytes e
  fails_line (Line n) given = tail_fault marks p fits ring bytes after text line n is given
  fails_line NoMemory given = tt

-- an instance's text is shorter than that of a certificate with it
pub text_below : (marks : Marks) (bytes : List ℕ) (c : Claim) (most : ℕ) → bytes ≡ whole_certificate marks c → length bytes < most → length (problem_text marks c.problem) < most
text_below marks bytes c most e few =
    let tail = tail_text (length c.problem.plan) c.answer c.entries in
    omega (arith, ap length (e ∙ certificate_is marks c), length-append (codes "certificate 1\n") (problem_text marks c.problem ++ tail), length-append (problem_text marks c.problem) tail)

-- no two certificates share a text
pub one-text : (c d : Claim) → HasText c → HasText d → certificate_text c ≡ certificate_text d → c ≡ d
one-text c d fits others e =
    let p = c.problem in
    let marks = marks_of p.plan in
    let after = tail_text (length p.plan) c.answer c.entries in
    let line = 2 + line_count p.plan p.lists in
    let same = read_only marks p fits.instance (own-marks p.plan) (certificate_text c) after line (certificate_is marks c ∙ sym (front-append marks p after)) refl c.answer c.entries
    (tail_again (length p.plan) fits.instance.count.0 fits.instance.count.1 line c.answer c.entries fits.answer fits.entries) (marks_of d.problem.plan) d (record { fits = others; ring = own-marks d.problem.plan; text = e }) in
    same.1

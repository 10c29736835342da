-- What reading a certificate's text answers.
use Rattle.std.specs.Prelude.{◌≡◌, ℕ, List}
use Rattle.phase_plan.specs.declared.Marks.{Marks}
use Rattle.instance_form.specs.InstanceText.{IsMarkedWhere}
use Rattle.schedule_meaning.specs.Texts.{IsPlanWhere, IsPlanFaultWhere}
use Rattle.instance_form.specs.declared.form.FormFault.{FormFault}
use Rattle.instance_form.specs.declared.form.FormFault.TheVariants as form
use Rattle.schedule_meaning.specs.Faults.{IsInstanceFault}
use Rattle.schedule_meaning.specs.Instances.{IsInstance}
use Rattle.certificate_form.specs.CertificateText.{HasText, certificate_text, whole_certificate}
use Rattle.dp_certificate.specs.Certificates.{Claim}
use Rattle.dp_certificate.specs.Faults.{IsCertFault}
use Rattle.certificate_form.specs.TextFaults.{IsFirstFault}
use Rattle.certificate_form.specs.declared.reading.CertText.{CertText}
use Rattle.certificate_form.specs.declared.reading.CertText.TheVariants.{Line, Plan, Instance, Cert, NoMemory}
use Rattle.certificate_form.specs.declared.reading.Lines.{Lines}

-- what the lines say, without where it lies in memory
abbrev pub claim_of_lines : Lines → Claim
claim_of_lines l =
    record {
      problem = record { plan = l.form.phases.items; head = l.form.head; lists = l.form.lists.items };
      entries = l.entries.items;
      answer = l.answer;
    }

-- the fault is out of memory
abbrev pub IsOutOfMemory : CertText → Type 0
IsOutOfMemory (Line n) = ⊥
IsOutOfMemory (Plan fault) = ⊥
IsOutOfMemory (Instance fault) = ⊥
IsOutOfMemory (Cert fault) = ⊥
IsOutOfMemory NoMemory = Unit {0}

-- a fault of the lines, passed on
abbrev pub of_form : FormFault → CertText
of_form (form.Line n) = Line n
of_form form.NoMemory = NoMemory

-- the bytes are the text of this
abbrev pub IsCertificateText : List ℕ → Claim → Type 0
IsCertificateText bytes c = HasText c × (bytes ≡ certificate_text c)

-- the bytes have the form of a text, and this is what they say, and how many phases they say to be marked
pub record IsFormText (bytes : List ℕ) (marks : Marks) (c : Claim) : Type 0 where
  pub fits : HasText c
  pub ring : IsMarkedWhere marks c.problem.plan
  pub text : bytes ≡ whole_certificate marks c

-- why bytes are no certificate's text: they have not the form of a text, and this is the first line that has not the
-- form of its place; or else the fault of the phases; or else that of the instance; or else that of the certificate
abbrev pub IsTextFault : List ℕ → CertText → Type 0
IsTextFault bytes (Line n) = IsFirstFault n bytes × ((marks : Marks) (c : Claim) → ¬ IsFormText bytes marks c)
IsTextFault bytes (Plan fault) =
    (marks : Marks) × (c : Claim) × IsFormText bytes marks c × IsPlanFaultWhere marks c.problem.plan fault
IsTextFault bytes (Instance fault) =
    (marks : Marks) × (c : Claim) × IsFormText bytes marks c × IsPlanWhere marks c.problem.plan
    × IsInstanceFault c.problem fault
IsTextFault bytes (Cert fault) = (c : Claim) × IsCertificateText bytes c × IsInstance c.problem × IsCertFault c fault
IsTextFault bytes NoMemory = Unit {0}

-- Why bytes are no certificate's text: the first fault, in a fixed order.
use Rattle.std.specs.Prelude.{◌≡◌, ℕ, List, ◌++◌}
use Rattle.text_lines.specs.Lines.{IsFirstFaultyLine}
use Rattle.phase_plan.specs.declared.Marks.{Marks}
use Rattle.instance_form.specs.declared.form.FormFault.{FormFault}
use Rattle.instance_form.specs.declared.form.FormFault.TheVariants as form
use Rattle.certificate_form.specs.CertificateText.{HasText, whole_certificate}
use Rattle.instance_form.specs.InstanceText.{IsMarkedWhere}
use Rattle.dp_certificate.specs.Certificates.{Claim}

-- some certificate's text begins with these bytes
pub record BeginsCertificate (front : List ℕ) : Type 0 where
  pub marks : Marks
  pub claim : Claim
  pub rest : List ℕ
  pub fits : HasText claim
  pub ring : IsMarkedWhere marks claim.problem.plan
  pub text : whole_certificate marks claim ≡ front ++ rest

-- line n is the first that has not the form of its place: the lines before it begin some certificate's text, and with
-- line n they begin none
abbrev pub IsFirstFault : ℕ → List ℕ → Type 0
IsFirstFault n bytes = IsFirstFaultyLine BeginsCertificate BeginsCertificate 1 n bytes

-- a fault of the lines that names one names the first
abbrev pub IsLineFault : List ℕ → FormFault → Type 0
IsLineFault bytes (form.Line n) = IsFirstFault n bytes
IsLineFault bytes form.NoMemory = Unit {0}

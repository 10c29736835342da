-- The codes of faults of a certificate's text.
use Rattle.std.specs.Prelude.{ℕ, List, [], ◌++◌, codes}
use Rattle.std.specs.Fmt.{decimal}
use Rattle.phase_plan.specs.Codes.{plan_code}
use Rattle.schedule_meaning.specs.Codes.{instance_code}
use Rattle.dp_certificate.specs.Codes.{entry_code}
use Rattle.certificate_form.specs.declared.reading.CertText.{CertText}
use Rattle.certificate_form.specs.declared.reading.CertText.TheVariants.{Line, Plan, Instance, Cert, NoMemory}

-- the code of a fault of a certificate's text: the first line that has not its form, from 1, or else that of the phases, or else that of
-- the instance, or else that of the entries; `NoMemory` has none
abbrev pub cert_code : CertText → List ℕ
cert_code (Line n) = codes "line " ++ decimal n
cert_code (Plan fault) = plan_code fault
cert_code (Instance fault) = instance_code fault
cert_code (Cert fault) = entry_code fault
cert_code NoMemory = []

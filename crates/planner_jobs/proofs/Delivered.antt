-- How a command ends that writes a certificate.
use Rattle.std.proofs.Common.{Result, Ok, Err, inl, inr}
use Rattle.dp_certificate.specs.Certificates.{Claim}
use Rattle.certificate_form.specs.CertificateText.{certificate_text}
use Rattle.commands.specs.Meanings.{Meaning}
use Rattle.commands.specs.Outcome.{Outcome, Outside}
use Rattle.commands.specs.declared.refusals.Refusal.{Refusal}
use Rattle.commands.specs.declared.status.Status.{Status}
use Rattle.commands.proofs.Outcomes.{broken, done, refuses, wants}
use Rattle.planner_jobs.specs.Delivery.{EndsCertificate, MakesCertificate}

pub certificate_outcome : (call : Meaning) (old new : Outside) (result : Result Claim Refusal) (status : Status) → MakesCertificate call old.shelf new.shelf result → EndsCertificate result old.out new.out old.err new.err status → Outcome call old new status
certificate_outcome call old new (Ok c) status makes (inl w) = done call old new (certificate_text c) status makes.0 makes.1 w.is w.gains w.same
certificate_outcome call old new (Ok c) status makes (inr (inl b)) = broken call old new (certificate_text c) status makes.0 (makes.1.0, makes.1.1, (inl makes.1.2.0.0, makes.1.2.1)) b.is b.breaks b.line
certificate_outcome call old new (Ok c) status makes (inr (inr (left, inl said))) = wants call old new status makes.0 said.0 left said.1
certificate_outcome call old new (Ok c) status makes (inr (inr (left, inr said))) = absurd said.0
certificate_outcome call old new (Err why) status makes ends = refuses call old new why status makes ends

use Rattle.std.proofs.Common.{◌≢◌}
use Rattle.certificate_form.specs.declared.reading.CertText.TheVariants.{NoMemory}
use Rattle.commands.proofs.Flawed.{flawed}
use Rattle.planner_jobs.specs.Kinds.{CertificateText}
use Rattle.planner_jobs.proofs.Memory.{certificate-memory}
use Rattle.planner_jobs.proofs.kinds.CertificateFileTextKind.read.Goals as goal

pub returns-in-Err-clause-refused : goal.returns-in-Err-clause-refused
returns-in-Err-clause-refused c =
    let fault = c.in-Err.fault in
    flawed CertificateText (λ f. f ≢ NoMemory) fault _ _ c.from_fault.ensures c.requires
    (λ of said reads. of (certificate-memory fault (c.in-Err.ensures.only said reads.1.1.0 reads.1.0 reads.1.1.1))) (λ of. (c.in-Err.ensures.first, λ out. of (certificate-memory fault out)))

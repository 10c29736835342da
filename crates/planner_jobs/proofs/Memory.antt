-- A fault that is out of memory is `NoMemory`.
use Rattle.std.proofs.Common.{◌≡◌, refl}
use Rattle.schedule_meaning.specs.Texts as instances
use Rattle.schedule_meaning.specs.declared.texts.TextFault.{TextFault}
use Rattle.schedule_meaning.specs.declared.texts.TextFault.TheVariants as instance
use Rattle.certificate_form.specs.Answers as certificates
use Rattle.certificate_form.specs.declared.reading.CertText.{CertText}
use Rattle.certificate_form.specs.declared.reading.CertText.TheVariants as certificate

pub instance-memory : (fault : TextFault) → instances.IsOutOfMemory fault → fault ≡ instance.NoMemory
instance-memory instance.NoMemory out = refl
instance-memory _ out = absurd out

pub certificate-memory : (fault : CertText) → certificates.IsOutOfMemory fault → fault ≡ certificate.NoMemory
certificate-memory certificate.NoMemory out = refl
certificate-memory _ out = absurd out

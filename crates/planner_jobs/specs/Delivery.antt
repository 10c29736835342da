-- What a command makes of its texts that writes a certificate, and how that is delivered. No public clause of a command names anything here.
use Rattle.std.specs.Prelude.{◌≡◌, Result, Ok, Err, ◌⊎◌}
use Rattle.outside_world.specs.Shelf.{ShelfState}
use Rattle.outside_world.specs.Sink.{SinkState}
use Rattle.dp_certificate.specs.Certificates.{Claim}
use Rattle.certificate_form.specs.CertificateText.{certificate_text}
use Rattle.commands.specs.Ending.{Explains, IsBroken, IsWritten}
use Rattle.commands.specs.Meanings.{Meaning, MissesNothing}
use Rattle.commands.specs.Outcome.{Read}
use Rattle.commands.specs.Refusals.{Refuses}
use Rattle.commands.specs.declared.refusals.Refusal.{Refusal}
use Rattle.commands.specs.declared.refusals.Refusal.TheVariants as refusal
use Rattle.commands.specs.declared.status.Status.{Status}
use Rattle.commands.specs.declared.status.Status.TheVariants.{Done}

-- a command made a certificate of its texts, in which its words miss nothing, and writes its text; or why it made none
abbrev pub MakesCertificate : Meaning → ShelfState → ShelfState → Result Claim Refusal → Type 0
MakesCertificate call old new (Ok c) =
    (new ≡ old) × Read call old.files
    (λ said. (call.writes said (certificate_text c) × ¬ call.against said) × MissesNothing call said)
MakesCertificate call old new (Err why) = Explains call old new why

-- how a certificate is answered, for whose text memory may run out before anything is written; or how a refusal is
abbrev pub EndsCertificate : Result Claim Refusal → SinkState → SinkState → SinkState → SinkState → Status → Type 0
EndsCertificate (Ok c) out out' err err' status =
    IsWritten (certificate_text c) Done out out' err err' status
    ⊎ IsBroken (certificate_text c) out out' err err' status ⊎ ((out' ≡ out) × Refuses refusal.NoMemory err err' status)
EndsCertificate (Err why) out out' err err' status = (out' ≡ out) × Refuses why err err' status

-- The kinds of texts that say an instance or a certificate.
use Rattle.std.specs.Prelude.{◌≡◌, ℕ, List}
use Rattle.instance_form.specs.InstanceText.{instance_text}
use Rattle.schedule_meaning.specs.Codes.{text_code}
use Rattle.schedule_meaning.specs.Instances.{Problem, IsInstance}
use Rattle.schedule_meaning.specs.Texts as instances
use Rattle.schedule_meaning.specs.declared.texts.TextFault.{TextFault}
use Rattle.dp_certificate.specs.Certificates.{Claim, IsCertificate}
use Rattle.certificate_form.specs.Answers as certificates
use Rattle.certificate_form.specs.Codes.{cert_code}
use Rattle.certificate_form.specs.declared.reading.CertText.{CertText}
use Rattle.commands.specs.Kinds.{Kind}

-- the text says an instance
abbrev pub IsInstanceText : List ℕ → Problem → Type 0
IsInstanceText text p = IsInstance p × (text ≡ instance_text p.plan p.head p.lists)

-- the first fault of a text that is to say an instance
abbrev pub IsBadInstance : List ℕ → TextFault → Type 0
IsBadInstance text fault = instances.IsTextFault text fault × ¬ instances.IsOutOfMemory fault

-- the kind of texts that say an instance
abbrev pub InstanceText : Kind
InstanceText =
    record { Said = Problem; Fault = TextFault; is_text = IsInstanceText; is_fault = IsBadInstance; code = text_code }

-- the text says a certificate
abbrev pub IsCertificateText : List ℕ → Claim → Type 0
IsCertificateText text c = IsCertificate c × certificates.IsCertificateText text c

-- the first fault of a text that is to say a certificate
abbrev pub IsBadCertificate : List ℕ → CertText → Type 0
IsBadCertificate text fault = certificates.IsTextFault text fault × ¬ certificates.IsOutOfMemory fault

-- the kind of texts that say a certificate
abbrev pub CertificateText : Kind
CertificateText =
    record {
      Said = Claim;
      Fault = CertText;
      is_text = IsCertificateText;
      is_fault = IsBadCertificate;
      code = cert_code;
    }

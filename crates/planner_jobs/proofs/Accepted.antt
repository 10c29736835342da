-- That `check` accepts what `certify` writes.
use Rattle.std.proofs.Common.{◌≡◌, ℕ, ◌≤◌, ◌∙◌, List, length, arith, refl, subst, sym}
use Rattle.switch_rules.specs.Bounds.{most_clusters, most_entries}
use Rattle.schedule_meaning.specs.Best.{IsBest}
use Rattle.schedule_meaning.specs.Instances.{Problem}
use Rattle.dp_certificate.specs.declared.Entry.{Entry}
use Rattle.dp_certificate.specs.Certificates.{Claim, IsCertificate}
use Rattle.dp_certificate.specs.Proves.{Proves}
use Rattle.certificate_form.specs.Answers as cert
use Rattle.certificate_form.specs.Lengths.{text_bytes}
use Rattle.certificate_form.specs.CertificateText.{HasText, certificate_text}
use Rattle.planner_jobs.specs.Meanings.{IsAcceptedText}
use Rattle.commands.specs.Limits.{most_bytes}

-- this many entries and places make a text within the limit
few-bytes : (bytes entries places : ℕ) → bytes ≤ text_bytes entries places → entries ≤ most_entries → places ≤ most_clusters → bytes ≤ most_bytes
few-bytes bytes entries places short few small = omega arith

-- a certificate's text is accepted, where the certificate is small and proves its answer
pub accepted : (bytes : List ℕ) (c : Claim) (places : ℕ)
    → ((d e : Claim) → HasText d → HasText e → certificate_text d ≡ certificate_text e → d ≡ e)
    → length bytes ≤ text_bytes (length c.entries) places → length c.entries ≤ most_entries → places ≤ most_clusters
    → IsCertificate c → cert.IsCertificateText bytes c → Proves c → IsAcceptedText bytes c
accepted bytes c places one short few small lawful spells proves = record {
  short = few-bytes (length bytes) (length c.entries) places short few small;
  is_text = (lawful, spells);
  only = λ other spelled. one other c spelled.1.0 spells.0 (sym spelled.1.1 ∙ spells.1);
  proves = proves;
}

-- and is the text of a certificate with the wanted table and the best answer
pub written : (IsTable : Problem → List Entry → Type 0) (p : Problem) (c : Claim) → c.problem ≡ p → IsTable p c.entries → IsBest p c.answer → IsAcceptedText (certificate_text c) c
    → (d : Claim) × (d.problem ≡ p) × IsTable d.problem d.entries × IsBest d.problem d.answer × (certificate_text c ≡ certificate_text d) × IsAcceptedText (certificate_text c) d
written IsTable p c same table best is_accepted = (
  c,
  same,
  subst (λ (q : Problem). IsTable q c.entries) (sym same) table,
  subst (λ (q : Problem). IsBest q c.answer) (sym same) best,
  refl,
  is_accepted,
)

-- the same of a small certificate that proves its answer
pub written-accepted : (IsTable : Problem → List Entry → Type 0) (p : Problem) (c : Claim) (places : ℕ)
    → ((d e : Claim) → HasText d → HasText e → certificate_text d ≡ certificate_text e → d ≡ e)
    → length (certificate_text c) ≤ text_bytes (length c.entries) places → (length c.entries ≤ most_entries) × (places ≤ most_clusters)
    → IsCertificate c → cert.IsCertificateText (certificate_text c) c → Proves c → c.problem ≡ p → IsTable p c.entries → IsBest p c.answer
    → (d : Claim) × (d.problem ≡ p) × IsTable d.problem d.entries × IsBest d.problem d.answer × (certificate_text c ≡ certificate_text d) × IsAcceptedText (certificate_text c) d
written-accepted IsTable p c places one short few lawful spells proves same table best =
    written IsTable p c same table best (accepted (certificate_text c) c places one short few.0 few.1 lawful spells proves)

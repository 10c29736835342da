-- The reason why a sheet is not clean names a node or link that exists.
use Rattle.std.proofs.Common.{ℕ}
use Rattle.net_parts.specs.Numbers.{Net}
use Rattle.audit.specs.declared.sheet.Sheet.{Sheet}
use Rattle.audit.specs.Audits.{IsWhy}
use Rattle.audit.specs.declared.findings.AuditWhy.{AuditWhy}
use Rattle.audit.specs.declared.findings.AuditWhy.TheVariants.{Span, Next, Link, Total}
use Rattle.audit_jobs.specs.Findings.{NamesPart}

pub names_part : (net : Net) (arriving : ℕ → ℕ → ℕ) (sheet : Sheet) (why : AuditWhy) → IsWhy net arriving sheet why → NamesPart net why
names_part net arriving sheet (Span node row) is = is.least.below
names_part net arriving sheet (Next node row) is = is.1.least.below
names_part net arriving sheet (Link link) is = is.1.below
names_part net arriving sheet Total is = tt

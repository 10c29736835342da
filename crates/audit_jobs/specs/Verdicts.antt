-- The lines that `audit` writes where a sheet is not clean.
use Rattle.std.specs.Prelude.{ℕ, List, [], ◌∷◌, ◌++◌, codes}
use Rattle.std.specs.Fmt.{decimal}
use Rattle.audit.specs.declared.findings.AuditWhy.{AuditWhy}
use Rattle.audit.specs.declared.findings.AuditWhy.TheVariants.{Span, Next, Link, Total}
use Rattle.net_parts.specs.Numbers.{Net}
use Rattle.net_parts.specs.Outline.{link_name_at, node_name_at}

-- why a sheet is not clean: nodes and links by their names, rows from 1
abbrev pub finding_text : Net → AuditWhy → List ℕ
finding_text net (Span node row) = codes "span " ++ node_name_at net node ++ 32 ∷ decimal row
finding_text net (Next node row) = codes "next " ++ node_name_at net node ++ 32 ∷ decimal row
finding_text net (Link link) = codes "link " ++ link_name_at net link
finding_text net Total = codes "total"

-- what is written for a sheet that is not clean
abbrev pub unclean_line : Net → AuditWhy → List ℕ
unclean_line net why = codes "rejected " ++ finding_text net why ++ 10 ∷ []

-- What the reason names why a sheet is not clean.
use Rattle.std.specs.Prelude.{◌<◌, length}
use Rattle.audit.specs.declared.findings.AuditWhy.{AuditWhy}
use Rattle.audit.specs.declared.findings.AuditWhy.TheVariants.{Span, Next, Link, Total}
use Rattle.net_parts.specs.Numbers.{Net}

-- the node or link is one of the network
abbrev pub NamesPart : Net → AuditWhy → Type 0
NamesPart net (Span node row) = node < length net.node_names
NamesPart net (Next node row) = node < length net.node_names
NamesPart net (Link link) = link < length net.link_names
NamesPart net Total = Unit {0}

-- What reading a text answers. No public clause names this definition.
use Rattle.std.specs.Prelude.{◌≡◌, ℕ, List, None, Result, Ok, Err, IsUtf8}
use Rattle.toml.specs.Parse.{parse_document}
use Rattle.net_parts.specs.declared.drafts.Draft.{Draft}
use Rattle.net_parts.specs.declared.faults.NetFault.{NetFault}
use Rattle.net_parts.specs.declared.faults.NetFault.TheVariants.{NoMemory, NotToml, Shape, Bound}
use Rattle.net_file.specs.NetworkText.{IsDraftText, HasNoDraft, HasOtherVersion}

-- the draft is that of the text; a fault says why it has none
abbrev pub Drafts : List ℕ → Result Draft NetFault → Type 0
Drafts bytes (Ok draft) = IsDraftText bytes draft
Drafts bytes (Err NoMemory) = Unit {0}
Drafts bytes (Err NotToml) = IsUtf8 bytes → parse_document bytes ≡ None
Drafts bytes (Err (Shape place)) = HasNoDraft bytes place
Drafts bytes (Err (Bound place)) = HasOtherVersion bytes place
Drafts bytes (Err _) = ⊥

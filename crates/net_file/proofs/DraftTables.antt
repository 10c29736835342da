-- The fault of a text whose table stands for no draft.
use Rattle.std.proofs.Common.{◌≡◌, ℕ, List, None, Some, Err}
use Rattle.std.specs.Prelude.{IsUtf8}
use Rattle.toml.specs.Data.{Members}
use Rattle.toml.specs.Parse.{parse_document}
use Rattle.net_tables.specs.Faults.{Misses, Blames}
use Rattle.net_tables.specs.FirstShape.{IsShapeFault}
use Rattle.net_tables.specs.Table.{draft_of}
use Rattle.net_parts.specs.declared.faults.NetFault.{NetFault}
use Rattle.net_parts.specs.declared.faults.NetFault.TheVariants.{NoMemory, Shape}
use Rattle.net_file.specs.Reading.{Drafts}

module _ (bytes : List ℕ) (table : Members) (utf8 : IsUtf8 bytes) (toml : parse_document bytes ≡ Some table) where
  -- what reading the text's table answers where that stands for no draft
  pub Drafts-fault : (fault : NetFault) → Misses fault (draft_of table ≡ None) → Blames fault (λ place. IsShapeFault table place.part place.item place.sub) → Drafts bytes (Err fault)
  Drafts-fault NoMemory none first = tt
  Drafts-fault (Shape place) none first = record { utf8 = utf8; table = table; toml = toml; form = none; first = first }
  Drafts-fault _ none first = absurd first

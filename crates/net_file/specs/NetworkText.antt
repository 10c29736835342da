-- Which network a text stands for, and why a text is refused.
use Rattle.std.specs.Prelude.{◌≡◌, ℕ, ◌⊎◌, List, Some, IsSome, IsUtf8, None}
use Rattle.toml.specs.Data.{Members}
use Rattle.toml.specs.Parse.{parse_document}
use Rattle.net_parts.specs.declared.faults.Place.{Place}
use Rattle.net_parts.specs.declared.faults.Section.TheVariants.{Top}
use Rattle.net_parts.specs.declared.drafts.Draft.{Draft}
use Rattle.net_parts.specs.declared.faults.NetFault.{NetFault}
use Rattle.net_parts.specs.declared.faults.NetFault.TheVariants.{NoMemory, NotToml, Shape, Bound}
use Rattle.net_tables.specs.FirstShape.{IsShapeFault}
use Rattle.net_tables.specs.Table.{draft_of, HasKnownVersion}
use Rattle.net_parts.specs.Numbers.{Net}
use Rattle.road_net.specs.FirstFaults.{IsDraftFault}
use Rattle.road_net.specs.Network.{IsNetworkOf}

-- the draft of a text: it is TOML, and its table stands for the draft and says no version but one that is known
pub record IsDraftText (bytes : List ℕ) (draft : Draft) : Type 0 where
  pub utf8 : IsUtf8 bytes
  pub table : Members
  pub toml : parse_document bytes ≡ Some table
  pub form : draft_of table ≡ Some draft
  pub version : HasKnownVersion table

-- the network of a text is that of its draft
pub record IsNetworkText (bytes : List ℕ) (net : Net) : Type 0 where
  pub draft : Draft
  pub text : IsDraftText bytes draft
  pub network : IsNetworkOf draft net

-- a text that is TOML, and whose table stands for no draft: the table at this place is the first at fault
pub record HasNoDraft (bytes : List ℕ) (place : Place) : Type 0 where
  pub utf8 : IsUtf8 bytes
  pub table : Members
  pub toml : parse_document bytes ≡ Some table
  pub form : draft_of table ≡ None
  pub first : IsShapeFault table place.part place.item place.sub

-- a text that is TOML, and whose table stands for a draft and says another version: this is a bound of the whole table, and
-- comes before those of the draft
pub record HasOtherVersion (bytes : List ℕ) (place : Place) : Type 0 where
  pub utf8 : IsUtf8 bytes
  pub table : Members
  pub toml : parse_document bytes ≡ Some table
  pub form : IsSome (draft_of table)
  pub version : ¬ HasKnownVersion table
  pub first : place ≡ record { part = Top; item = 0; sub = 0 }

-- a text that has a draft, which stands for no network and has this fault
pub record HasNoNetwork (bytes : List ℕ) (fault : NetFault) : Type 0 where
  pub draft : Draft
  pub text : IsDraftText bytes draft
  pub network : (net : Net) → ¬ IsNetworkOf draft net
  pub first : IsDraftFault draft fault

-- Why a text is refused: it is no UTF-8 or no TOML, or its table stands for no draft or says another version, or its draft
-- stands for no network.
abbrev pub IsCause : List ℕ → NetFault → Type 0
IsCause bytes NoMemory = Unit {0}
IsCause bytes NotToml = IsUtf8 bytes → parse_document bytes ≡ None
IsCause bytes (Shape place) = HasNoDraft bytes place
IsCause bytes (Bound place) = HasOtherVersion bytes place ⊎ HasNoNetwork bytes (Bound place)
IsCause bytes fault = HasNoNetwork bytes fault

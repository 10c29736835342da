-- The course of the reader: which element of an array is at fault, and at which place. No public clause names these.
use Rattle.std.specs.Prelude.{◌≡◌, ℕ, List, Option, None, IsSome}
use Rattle.toml.specs.Data.{Data}
use Rattle.foundation.specs.Firsts.{IsFirstAt}
use Rattle.net_tables.specs.FirstShape.{ordinal, IsNodeFault, IsLinkFault}
use Rattle.net_tables.specs.Table.{phase_of, turn_of, conflict_of}
use Rattle.net_parts.specs.declared.faults.Section.TheVariants.{Phase, Turn, Conflict}
use Rattle.net_parts.specs.declared.faults.Place.{Place}

-- The elements of an array in the table of this item: the first that f does not read is at fault, by its number, at the named
-- place.
pub record IsFaultAmong {Y : Type 0} (f : Data → Option Y) (at_fault : ℕ → ℕ → Data → Place → Type 0) (item : ℕ)
    (ds : List Data) (named : Place) : Type 0 where
  pub index : ℕ
  pub first : IsFirstAt (λ d. IsSome (f d)) (λ d. at_fault item (ordinal index) d named) ds index

-- the node with this number is at fault, or one of its phases
abbrev pub IsNodeAtFault : Option ℕ → ℕ → ℕ → Data → Place → Type 0
IsNodeAtFault version item number d named = (named.item ≡ number) × IsNodeFault version d named.part named.sub

-- the link with this number is at fault, or one of its turns
abbrev pub IsLinkAtFault : Option ℕ → ℕ → ℕ → Data → Place → Type 0
IsLinkAtFault version item number d named = (named.item ≡ number) × IsLinkFault version d named.part named.sub

-- the phase with this number, of the node with this item, is at fault
abbrev pub IsPhaseAtFault : Option ℕ → ℕ → ℕ → Data → Place → Type 0
IsPhaseAtFault version item number d named =
    (named ≡ record { part = Phase; item = item; sub = number }) × (phase_of version d ≡ None)

-- the turn with this number, of the link with this item, is at fault
abbrev pub IsTurnAtFault : Option ℕ → ℕ → ℕ → Data → Place → Type 0
IsTurnAtFault version item number d named =
    (named ≡ record { part = Turn; item = item; sub = number }) × (turn_of d ≡ None)

-- the conflict with this number is at fault
abbrev pub IsConflictAtFault : Option ℕ → ℕ → ℕ → Data → Place → Type 0
IsConflictAtFault version item number d named =
    (named ≡ record { part = Conflict; item = number; sub = 0 }) × (conflict_of d ≡ None)

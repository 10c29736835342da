-- Why a table stands for no draft: the first table at fault, in the order of docs/FORMATS.md, "Places and faults". Of each
-- table its own form comes before the tables within it.
use Rattle.std.specs.Prelude.{◌≡◌, ℕ, ◌+◌, ◌-◌, ◌^◌, min, List, Option, None, IsSome, IsSomeAnd}
use Rattle.toml.specs.Data.{Data, Members}
use Rattle.foundation.specs.Firsts.{IsFirstAt}
use Rattle.foundation.specs.Options.{each}
use Rattle.net_tables.specs.Table.{TopForm, top_form, run_of, node_form, node_of, phase_of, link_own, link_of, turn_of, conflict_of}
use Rattle.net_parts.specs.declared.faults.Section.{Section}
use Rattle.net_parts.specs.declared.faults.Section.TheVariants.{Top, Run, Node, Phase, Link, Turn, Conflict}

-- the number of the element at an index, counted from 1; a number past the greatest u32 stands as that one
abbrev pub ordinal : ℕ → ℕ
ordinal index = min (index + 1) (2 ^ 32 - 1)

-- This holds of an index, from 0, that belongs to the number. A list here may be longer than the numbers go, and many
-- elements then share the greatest; `FromOne` is for lists whose elements have numbers of their own.
pub record FromOrdinal (place : ℕ → Type 0) (number : ℕ) : Type 0 where
  pub index : ℕ
  pub is : number ≡ ordinal index
  pub at : place index

-- P holds of the element with this number, and f reads all before it
abbrev pub IsAfterRead : {X Y : Type 0} → (X → Option Y) → (X → Type 0) → List X → ℕ → Type 0
IsAfterRead f P xs number = FromOrdinal (IsFirstAt (λ x. IsSome (f x)) P xs) number

-- f does not read the element with this number, and reads all before it
abbrev pub IsFirstUnread : {X Y : Type 0} → (X → Option Y) → List X → ℕ → Type 0
IsFirstUnread f = IsAfterRead f (λ x. f x ≡ None)

-- the first fault within a node: of its own form, or else of its first phase that is not read
abbrev pub IsNodeFault : Option ℕ → Data → Section → ℕ → Type 0
IsNodeFault version d Node sub = (sub ≡ 0) × (node_form d ≡ None)
IsNodeFault version d Phase sub = IsSomeAnd (node_form d) (λ node. IsFirstUnread (phase_of version) node.phases sub)
IsNodeFault version d _ sub = ⊥

-- the first fault within a link: of its own form, or else of its first turn that is not read
abbrev pub IsLinkFault : Option ℕ → Data → Section → ℕ → Type 0
IsLinkFault version d Link sub = (sub ≡ 0) × (link_own version d ≡ None)
IsLinkFault version d Turn sub = IsSomeAnd (link_own version d) (λ link. IsFirstUnread turn_of link.0.turns sub)
IsLinkFault version d _ sub = ⊥

-- the first fault of the tables within that of the whole file: the run, then the nodes, the links and the conflicts
abbrev pub IsFaultWithin : TopForm → Section → ℕ → ℕ → Type 0
IsFaultWithin top Top item sub = ⊥
IsFaultWithin top Run item sub = (item ≡ 0) × (sub ≡ 0) × (run_of top.run ≡ None)
IsFaultWithin top Node item sub =
    IsSome (run_of top.run) × IsAfterRead (node_of top.version) (λ d. IsNodeFault top.version d Node sub) top.nodes item
IsFaultWithin top Phase item sub =
    IsSome (run_of top.run)
    × IsAfterRead (node_of top.version) (λ d. IsNodeFault top.version d Phase sub) top.nodes item
IsFaultWithin top Link item sub =
    IsSome (run_of top.run) × IsSome (each (node_of top.version) top.nodes)
    × IsAfterRead (link_of top.version) (λ d. IsLinkFault top.version d Link sub) top.links item
IsFaultWithin top Turn item sub =
    IsSome (run_of top.run) × IsSome (each (node_of top.version) top.nodes)
    × IsAfterRead (link_of top.version) (λ d. IsLinkFault top.version d Turn sub) top.links item
IsFaultWithin top Conflict item sub =
    IsSome (run_of top.run) × IsSome (each (node_of top.version) top.nodes)
    × IsSome (each (link_of top.version) top.links)
    × (sub ≡ 0) × IsFirstUnread conflict_of top.conflicts item

-- The first fault of the table of the whole file, at the place with this section, item and sub: of its own form, or else of
-- the tables within it.
abbrev pub IsShapeFault : Members → Section → ℕ → ℕ → Type 0
IsShapeFault ms Top item sub = (item ≡ 0) × (sub ≡ 0) × (top_form ms ≡ None)
IsShapeFault ms part item sub = IsSomeAnd (top_form ms) (λ top. IsFaultWithin top part item sub)

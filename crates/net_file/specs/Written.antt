-- What is written of a draft.
use Rattle.std.specs.Prelude.{◌≡◌, ℕ, ◌^◌, ◌<◌, ◌≤◌, ◌==◌, ◌⊎◌, Bool, true, false, codes, pos, List, [], All, Option, Some, None, option_map, IfSome, IsUtf8}
use Rattle.toml.specs.Data.{Data, Items, no_items, Members, no_members, integer, boolean, string, array, table, as_table, depth, items_depth, members_depth, get_member, as_str}
use Rattle.toml.specs.Parse.{parse_document}
use Rattle.foundation.specs.Options.{◌>>=◌, each}
use Rattle.net_tables.specs.Table.{list_of, run_of, draft_of, HasKnownVersion}
use Rattle.net_parts.specs.declared.drafts.Run.{Run}
use Rattle.net_parts.specs.declared.drafts.Draft.{Draft}
use Rattle.net_parts.specs.declared.drafts.DraftNode.{DraftNode}
use Rattle.net_parts.specs.declared.drafts.DraftPhase.{DraftPhase}
use Rattle.net_parts.specs.declared.drafts.DraftLink.{DraftLink}
use Rattle.net_parts.specs.declared.drafts.DraftYield.{DraftYield}
use Rattle.net_parts.specs.declared.roads.Walk.{Walk}
use Rattle.net_file.specs.Members.{with_member, with_optional}

-- a phase can be in a file of this version: version 3, and version 2 where it names no further link
abbrev pub SaysPhase : ℕ → DraftPhase → Type 0
SaysPhase version p = (version ≡ 3) ⊎ ((version ≡ 2) × (p.also ≡ []))

-- a node can be in a file of this version, with each of its phases: its ring may be free in version 3 and in no other
pub record SaysNode (version : ℕ) (n : DraftNode) : Type 0 where
  pub phases : All (SaysPhase version) n.phases
  pub free_ring : n.free_ring ≡ (version == 3)

-- a link can be in a file of this version: in version 3, and in version 2 where it gives way to none and has no walk
abbrev pub SaysLink : ℕ → DraftLink → Type 0
SaysLink version l = (version ≡ 3) ⊎ ((version ≡ 2) × (l.yields ≡ None) × (l.walk ≡ None))

-- a draft can be in a file of this version: its counts may be those of a great network in version 3 and in no other
pub record Says (version : ℕ) (d : Draft) : Type 0 where
  pub nodes : All (SaysNode version) d.nodes
  pub links : All (SaysLink version) d.links
  pub great : d.great ≡ (version == 3)

-- what can be in every file
abbrev pub Always : {X : Type 0} → ℕ → X → Type 0
Always version x = Unit {0}

-- the data is read as this, in each version in which that can be, and its depth is at most `deep`
pub record IsDataOf {X : Type 0} (f : ℕ → Data → Option X) (says : ℕ → X → Type 0) (deep : ℕ) (d : Data)
    (x : X) : Type 0 where
  pub read : (version : ℕ) → says version x → f version d ≡ Some x
  pub depth : depth d ≤ deep

-- a table that was empty is filled so that it is read as this
abbrev pub IsFilledWith : {X : Type 0} → (ℕ → Data → Option X) → (ℕ → X → Type 0) → ℕ → X → Members → Members → Type 0
IsFilledWith f says deep x old new = old ≡ no_members → IsDataOf f says deep (table new) x

-- the items of an array are read as these, in each version in which these can be, and their depth is at most `deep`
pub record AreItemsOf {X : Type 0} (f : ℕ → Data → Option X) (says : ℕ → X → Type 0) (deep : ℕ) (ds : Items)
    (xs : List X) : Type 0 where
  pub read : (version : ℕ) → All (says version) xs → each (f version) (list_of ds) ≡ Some xs
  pub depth : items_depth ds ≤ deep

-- the text that data is, in every version
abbrev pub text_in : ℕ → Data → Option (List ℕ)
text_in version d = as_str d

-- a number was put at a key, and is a u32
pub record HasNumber (key : List ℕ) (number : ℕ) (old new : Members) : Type 0 where
  pub is : new ≡ with_member key (integer (pos number)) old
  pub fits : number < 2 ^ 32

-- a number was put at a key where there is one, and is a u32
pub record HasNumberIf (key : List ℕ) (number : Option ℕ) (old new : Members) : Type 0 where
  pub is : new ≡ with_optional key (option_map (λ n. integer (pos n)) number) old
  pub fits : IfSome number (λ n. n < 2 ^ 32)

-- a text was put at a key where there is one
abbrev pub HasTextIf : List ℕ → Option (List ℕ) → Members → Members → Type 0
HasTextIf key text old new = new ≡ with_optional key (option_map string text) old

-- what is written of a truth value that is false where it is absent
abbrev pub flag_data : Bool → Option Data
flag_data false = None
flag_data true = Some (boolean true)

-- a truth value was put at a key where it is true
abbrev pub HasFlagIfTrue : List ℕ → Bool → Members → Members → Type 0
HasFlagIfTrue key flag old new = new ≡ with_optional key (flag_data flag) old

-- data that is read as this was put at a key
pub record HasData {X : Type 0} (f : ℕ → Data → Option X) (says : ℕ → X → Type 0) (deep : ℕ) (key : List ℕ) (x : X)
    (old new : Members) : Type 0 where
  pub data_of : Data
  pub reads : IsDataOf f says deep data_of x
  pub is : new ≡ with_member key data_of old

-- an array of these was put at a key
pub record HasItems {X : Type 0} (f : ℕ → Data → Option X) (says : ℕ → X → Type 0) (deep : ℕ) (key : List ℕ)
    (xs : List X) (old new : Members) : Type 0 where
  pub items : Items
  pub are : AreItemsOf f says deep items xs
  pub is : new ≡ with_member key (array items) old

-- the items of an array that may be absent
abbrev pub items_if : Option Items → Items
items_if None = no_items
items_if (Some ds) = ds

-- an array of these was put at a key, or none where there are none
pub record HasItemsIfAny {X : Type 0} (f : ℕ → Data → Option X) (says : ℕ → X → Type 0) (deep : ℕ) (key : List ℕ)
    (xs : List X) (old new : Members) : Type 0 where
  pub items : Option Items
  pub are : AreItemsOf f says deep (items_if items) xs
  pub none : xs ≡ [] → items ≡ None
  pub is : new ≡ with_optional key (option_map array items) old

-- the members with what stands of a yield, the names of whose links are these items
abbrev pub with_yields : Items → Option DraftYield → Members → Members
with_yields ds None ms = ms
with_yields ds (Some given) ms =
    with_member (codes "yield_sat") (integer (pos given.sat)) (with_member (codes "yields") (array ds) ms)

-- the links to which a link gives way were put, and its discharge then, where there are any
pub record HasYields (given : Option DraftYield) (old new : Members) : Type 0 where
  pub items : Items
  pub are : IfSome given (λ g. AreItemsOf text_in Always 0 items g.links)
  pub depth : items_depth items ≤ 0
  pub is : new ≡ with_yields items given old
  pub fits : IfSome given (λ g. g.sat < 2 ^ 32)

-- the members with what stands of a walk
abbrev pub with_walk : Option Walk → Members → Members
with_walk None ms = ms
with_walk (Some walk) ms =
    with_member (codes "cross") (integer (pos walk.cross)) (with_member (codes "walk") (integer (pos walk.seconds)) ms)

-- a walk was put, where there is one
pub record HasWalk (walk : Option Walk) (old new : Members) : Type 0 where
  pub is : new ≡ with_walk walk old
  pub fits : IfSome walk (λ w. (w.seconds < 2 ^ 32) × (w.cross < 2 ^ 32))

-- the run that a table stands for
abbrev pub run_in : ℕ → Data → Option Run
run_in version d = as_table d >>= run_of

-- The members of the whole file: they stand for the draft, say this version, and their depth is at most `deep`.
pub record AreMembersOf (deep version : ℕ) (ms : Members) (draft : Draft) : Type 0 where
  pub form : draft_of ms ≡ Some draft
  pub said : get_member (codes "version") ms ≡ Some (integer (pos version))
  pub known : HasKnownVersion ms
  pub depth : members_depth ms ≤ deep

-- the text is that of the members, which are read again where they are not too deep for that
pub record IsPrinted (bytes : List ℕ) (ms : Members) : Type 0 where
  pub utf8 : IsUtf8 bytes
  pub reads_back : members_depth ms ≤ 80 → parse_document bytes ≡ Some ms

-- The text is a network file of this version whose table stands for the draft.
pub record IsTextOfDraft (version : ℕ) (bytes : List ℕ) (draft : Draft) : Type 0 where
  pub utf8 : IsUtf8 bytes
  pub table : Members
  pub toml : parse_document bytes ≡ Some table
  pub form : draft_of table ≡ Some draft
  pub said : get_member (codes "version") table ≡ Some (integer (pos version))
  pub known : HasKnownVersion table

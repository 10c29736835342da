-- What the steps from a draft to a network answer. No public clause names these.
use Rattle.std.specs.Prelude.{◌≡◌, ℕ, ◌≤◌, IfSome, List, Option, Some, Result, Ok, Err}
use Rattle.foundation.specs.Firsts.{FromOne}
use Rattle.net_parts.specs.declared.faults.Section.{Section}
use Rattle.net_parts.specs.declared.faults.Place.{Place}
use Rattle.net_parts.specs.declared.faults.NetFault.{NetFault}
use Rattle.net_parts.specs.declared.faults.NetFault.TheVariants.{NoMemory, Bound, Twice, Unknown}
use Rattle.net_parts.specs.Bounds.{IsActStep}
use Rattle.net_parts.specs.declared.drafts.Run.{Run}
use Rattle.net_parts.specs.FirstFaults.{IsFirstTwice}
use Rattle.net_parts.specs.Numbers.{AreDistinct}

-- the fault is `Bound`, at a place where `why` holds
abbrev pub IsBoundAt : (Place → Type 0) → NetFault → Type 0
IsBoundAt why (Bound place) = why place
IsBoundAt why _ = ⊥

-- the fault is `Twice`, at a place where `why` holds, or out of memory
abbrev pub IsTwiceAt : (Place → Type 0) → NetFault → Type 0
IsTwiceAt why NoMemory = Unit {0}
IsTwiceAt why (Twice place) = why place
IsTwiceAt why _ = ⊥

-- the fault is `Unknown`, at a place where `why` holds, or out of memory
abbrev pub IsUnknownAt : (Place → Type 0) → NetFault → Type 0
IsUnknownAt why NoMemory = Unit {0}
IsUnknownAt why (Unknown place) = why place
IsUnknownAt why _ = ⊥

-- what a run has beside the numbers that each has is within its bounds
pub record HasOptions (run : Run) : Type 0 where
  pub age : IfSome run.age (λ age. (1 ≤ age) × (age ≤ 3600))
  pub hold : IfSome run.hold (λ hold. (1 ≤ hold) × (hold ≤ 20))
  pub recall : IfSome run.recall (λ recall. (1 ≤ recall) × (recall ≤ 3600))
  pub act_step : IfSome run.act_step (IsActStep run.step)
  pub rate : IfSome run.rate (λ rate. (1 ≤ rate) × (rate ≤ 1000))

-- a test of bounds answers Ok where the fact holds, and otherwise names a place where `why` holds
abbrev pub Checks : Type 0 → (Place → Type 0) → Result (Unit {0}) NetFault → Type 0
Checks fact why (Ok _) = fact
Checks fact why (Err fault) = IsBoundAt why fault

-- names were added in order, where no two are the same; otherwise the first that comes again is named, at its place
abbrev pub AreAdded : Section → List (List ℕ) → List (List ℕ) → Result (Unit {0}) NetFault → Type 0
AreAdded part names new (Ok _) = (new ≡ names) × AreDistinct names
AreAdded part names new (Err fault) =
    IsTwiceAt (λ place. (place.part ≡ part) × (place.sub ≡ 0) × FromOne (IsFirstTwice names) place.item) fault

-- what was made, seen by `view`, is what the names stand for; otherwise a place is named where `why` holds
abbrev pub Makes : {X Y : Type 0} → (X → Y) → Result X NetFault → Option Y → (Place → Type 0) → Type 0
Makes view (Ok x) meaning why = meaning ≡ Some (view x)
Makes view (Err fault) meaning why = IsUnknownAt why fault

-- What leaves the links of a phase, link by link, and what of it a platoon has.
use Rattle.std.specs.Prelude.{◌≤◌, ℕ, List, All, length, slice_range}
use Rattle.clusters.specs.declared.vehicle_groups.Part.{Part}

-- what a stream brings from this second on, before the second `end`
abbrev pub part_of : ℕ → ℕ → Part → Part
part_of first end s = record { link = s.link; amounts = slice_range s.amounts first end }

-- each stream has an amount for each second before `end`. No public clause names it.
abbrev pub AreAsLong : ℕ → List Part → Type 0
AreAsLong end streams = All (λ s. end ≤ length s.amounts) streams

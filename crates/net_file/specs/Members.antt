-- The members of a table, with one more.
use Rattle.std.specs.Prelude.{ℕ, List, Option, Some, None}
use Rattle.std.specs.Ordering.{nat_cmp, match_ordering}
use Rattle.std.specs.Cmp.Lexicographic.{slice_cmp}
use Rattle.toml.specs.Data.{Data, Members, no_members, member}

-- the members with this at a key, in the order of the keys
abbrev pub with_member : List ℕ → Data → Members → Members
with_member key d no_members = member key d no_members
with_member key d (member other e ms) =
    match_ordering (slice_cmp nat_cmp key other) (member key d (member other e ms)) (member other d ms)
    (member other e (with_member key d ms))

-- the members with this at a key, where there is something to put there
abbrev pub with_optional : List ℕ → Option Data → Members → Members
with_optional key None ms = ms
with_optional key (Some d) ms = with_member key d ms

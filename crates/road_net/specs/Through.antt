-- The nodes at which a link may stay green through a change of phases.
use Rattle.std.specs.Prelude.{ℕ, Bool, List}
use Rattle.std.specs.List.{list_any}
use Rattle.std.specs.Option.{is_none}
use Rattle.net_parts.specs.Numbers.{Net}
use Rattle.net_parts.specs.Outline.{also_at, link_at}

-- whether a link has no walk, so that it may stay green through a change
abbrev pub may_stay : Net → ℕ → Bool
may_stay net l = is_none (link_at net l).walk

-- whether one of these links has no walk
abbrev pub names_staying : Net → List ℕ → Bool
names_staying net links = list_any (may_stay net) links

-- Whether a node is *through*: a phase of it names a further link that has no walk. Such a link has two greens, its home and that phase,
-- and may stay green through a change between the two.
abbrev pub is_through : Net → ℕ → Bool
is_through net node = list_any (names_staying net) (also_at net node)

-- The ends of a network's links, at boards whose forecasts are read beside the writer.
use Rattle.std.specs.Prelude.{◌≡◌, ℕ, List, Option, Some, None, map}
use Rattle.net_parts.specs.Numbers.{Net}
use Rattle.net_parts.specs.declared.roads.Link.{Link}
use Rattle.snap_boards.specs.declared.ends.Ends.{Ends}

-- between two nodes the one publishes and the other reads
abbrev pub ends_between : Option ℕ → Option ℕ → Option Ends
ends_between (Some writer) (Some reader) = Some (record { writer = writer; reader = reader })
ends_between (Some writer) None = None
ends_between None to = None

-- of a link: the node that it comes from, and the one that it ends at; none where it comes from outside or leaves the network
abbrev pub ends_of : Link → Option Ends
ends_of link = ends_between link.from link.to

-- these are the ends of the network's links
abbrev pub AreEndsOf : Net → List (Option Ends) → Type 0
AreEndsOf net ends = ends ≡ map ends_of net.links

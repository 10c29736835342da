use Rattle.std.proofs.Common.{◌≡◌, map}
use Rattle.std.specs.List.{range_with_len}
use Rattle.net_file.specs.ByNames as spec
use Rattle.net_parts.specs.Parts.{net_of}
use Rattle.net_file.proofs.by_names.links_by_names.Given as goal

-- the links so far
abbrev pub invariant-loop-l : goal.invariant-loop-l
invariant-loop-l l = l.links.items ≡ map (spec.link_by_names (net_of l.parts)) (range_with_len 0 l.l)

use Rattle.std.proofs.Common.{◌≡◌, map, take}
use Rattle.net_parts.specs.Numbers.{AreDistinct}
use Rattle.net_build.proofs.numbering.add_node_names.Given as goal

-- the names so far, no two of them the same
abbrev pub invariant-loop-index : goal.invariant-loop-index
invariant-loop-index l = record { same : l.names ≡ map (λ x. x.name) (take l.index l.nodes); differ : AreDistinct l.names }

use Rattle.std.proofs.Common.{All, take}
use Rattle.net_parts.specs.Bounds.{IsBoundedLink}
use Rattle.net_build.proofs.bounds.check_links.Given as goal

-- the links so far are within their bounds
abbrev pub invariant-loop-index : goal.invariant-loop-index
invariant-loop-index l = All IsBoundedLink (take l.index l.links)

use Rattle.std.proofs.Common.{◌≡◌, ◌+◌, ◌==◌, take, sum_by, count_by}
use Rattle.road_net.proofs.overlaps.are_all.Given as goal

-- what is left, and how often the lists so far name the link
abbrev pub invariant-loop-links : goal.invariant-loop-links
invariant-loop-links s = s.rest + sum_by (λ links. count_by (λ m. m == s.l) links) (take s.links-index s.lists) ≡ s.count

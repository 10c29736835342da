-- The ends of a network's links are two of its nodes.
use Rattle.std.proofs.Common.{◌≡◌, ◌≢◌, ℕ, suc, ◌+◌, ◌<◌, List, [], ◌∷◌, ◌++◌, length, map, take, get_or, ap, sym, ◌∙◌, arith}
use Rattle.std.specs.Prelude.{Option, Some, None, All, IfSome}
use Rattle.std.proofs.Math.Seq.{take-suc}
use Rattle.std.proofs.lemmas.List.{length-map, map-append}
use Rattle.std.proofs.lemmas.List.Elements.{All-cons, All-nil, All-tail}
use Rattle.net_parts.specs.Numbers.{Net}
use Rattle.net_parts.specs.Outline.{IsLink}
use Rattle.net_parts.specs.declared.roads.Link.{Link}
use Rattle.road_net.specs.Joins.{HasEnds}
use Rattle.road_net.specs.Network.{IsNetwork}
use Rattle.snap_boards.specs.declared.ends.Ends.{Ends}
use Rattle.snap_boards.specs.Boards.{AreEnds, AreAllEnds}
use Rattle.net_threads.specs.Ends.{ends_between, ends_of}

are-ends : (nodes : ℕ) (from to : Option ℕ) → IfSome from (λ n. n < nodes) → IfSome to (λ n. n < nodes) → from ≢ to → IfSome (ends_between from to) (AreEnds nodes)
are-ends nodes (Some writer) (Some reader) comes ends apart = record { writer = comes; reader = ends; apart = λ same. apart (ap (λ (n : ℕ). Some n) same) }
are-ends nodes (Some writer) None comes ends apart = tt
are-ends nodes None to comes ends apart = tt

pub all-ends : (nodes : ℕ) (links : List Link) → All (IsLink nodes) links → All HasEnds links → AreAllEnds nodes (map ends_of links)
all-ends nodes [] bounds joins = All-nil (λ (e : Option Ends). IfSome e (AreEnds nodes))
all-ends nodes (l ∷ ls) bounds joins =
    let b : IsLink nodes l = bounds 0 l (omega arith) in
    let j : HasEnds l = joins 0 l (omega arith) in
    All-cons (λ (e : Option Ends). IfSome e (AreEnds nodes)) (ends_of l) (map ends_of ls) (are-ends nodes l.from l.to b.from b.to j) (all-ends nodes ls (All-tail (IsLink nodes) l ls bounds) (All-tail HasEnds l ls joins))

-- the ends of one link more
pub ends-more : (links : List Link) (k : ℕ) (d : Link) → k < length links → map ends_of (take k links) ++ ends_of (get_or links k d) ∷ [] ≡ map ends_of (take (k + 1) links)
ends-more links k d inside = let plus : suc k ≡ k + 1 = omega arith in sym (map-append ends_of (take k links) (get_or links k d ∷ [])) ∙ ap (map ends_of) (sym (take-suc links k d inside) ∙ ap (λ n. take n links) plus)

-- there is one of the ends for each link in a list that was made of them
pub ends-count : (net : Net) (ends made : List (Option Ends)) → IsNetwork net → ends ≡ made → made ≡ map ends_of net.links → length ends ≡ length net.link_names
ends-count net ends made network same are = ap length (same ∙ are) ∙ length-map net.links ends_of ∙ network.outline.road_count

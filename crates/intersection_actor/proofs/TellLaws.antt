-- In which order a node tells its links.
use Rattle.std.proofs.Common.{◌≡◌, ℕ, zero, suc, ◌+◌, ◌<◌, ◌≤◌, nat_le, List, [], ◌∷◌, All, Option, Some, None, find, get_or, is_some, length, refl, sym, ap, ◌∙◌, arith}
use Rattle.std.specs.Prelude.{AllPairs, slice_get}
use Rattle.std.specs.List.Sorted.{IsStrictlyIncreasing}
use Rattle.std.proofs.lemmas.Bool.{cond_both}
use Rattle.std.proofs.lemmas.Bool.Decides.{nat_tests}
use Rattle.std.proofs.lemmas.List.Kept.{AllPairs-filter, AllPairs-from_increasing}
use Rattle.std.proofs.lemmas.Option.{get_or_from_slice_get, slice_get_within}
use Rattle.net_parts.specs.Numbers.{Net}
use Rattle.net_parts.specs.Outline.{link_at}
use Rattle.road_net.specs.Network.{exit_links, told_links}
use Rattle.intersection_actor.specs.Acting.{telling, tells_from, told_at}
use Rattle.intersection_actor.specs.declared.records.Want.TheVariants.{Publish}

-- where all reach a number, the first of them is the first that reaches it
from-low : (n : ℕ) (xs : List ℕ) → All (λ y. n ≤ y) xs → find (λ l. nat_le n l) xs ≡ slice_get xs 0
from-low n [] h = refl
from-low n (y ∷ ys) h =
    let here : n ≤ y = h 0 0 (omega arith) in
    cond_both (nat_le n y) (Some y) (find (λ l. nat_le n l) ys) (λ r. r ≡ Some y) (λ yes. refl) (λ no. let gone : ⊥ = grind (arith, nat_tests) in absurd gone)

-- in rising numbers, the first after the one at a place is at the next place
behind : (xs : List ℕ) (k link : ℕ) → AllPairs (λ x y. x < y) xs → slice_get xs k ≡ Some link → find (λ l. nat_le (link + 1) l) xs ≡ slice_get xs (suc k)
behind [] k link h e = let impossible : find (λ l. nat_le (link + 1) l) [] ≡ slice_get [] (suc k) = refl in impossible
behind (x ∷ xs) zero link h e =
    let same : x ≡ link = cc in
    let low : find (λ l. nat_le (link + 1) l) xs ≡ slice_get xs 0 = from-low (link + 1) xs (λ j d lt. omega (arith, h 0 (suc j) d (omega arith) (omega arith))) in
    cond_both (nat_le (link + 1) x) (Some x) (find (λ l. nat_le (link + 1) l) xs) (λ r. r ≡ slice_get xs 0) (λ yes. let gone : ⊥ = grind (arith, nat_tests) in absurd gone) (λ no. low)
behind (x ∷ xs) (suc k) link h e =
    let there : get_or xs k 0 ≡ link = get_or_from_slice_get xs k link 0 e in
    let within : k < length xs = slice_get_within xs k link e in
    let above : x < get_or xs k 0 = h 0 (suc k) 0 (omega arith) (omega arith) in
    cond_both (nat_le (link + 1) x) (Some x) (find (λ l. nat_le (link + 1) l) xs) (λ r. r ≡ slice_get xs (suc k)) (λ yes. let gone : ⊥ = grind (arith, nat_tests) in absurd gone)
    (λ no. behind xs k link (λ i j d lt inside. h (suc i) (suc j) d (omega arith) (omega arith)) e)

told-some : (o : Option ℕ) (link : ℕ) → telling o ≡ Publish link → o ≡ Some link
told-some None link e = let impossible : None ≡ Some link = cc in impossible
told-some (Some l) link e = let same : l ≡ link = cc in ap Some same

-- a node tells the first of its links first
pub told-first : (net : Net) (node : ℕ) → tells_from net node 0 ≡ told_at net node 0
told-first net node = ap telling (from-low 0 (told_links net node) (λ k d lt. omega arith))

-- and after each the next one
pub told-next : (net : Net) (node k link : ℕ) → IsStrictlyIncreasing (exit_links net node) → Publish link ≡ told_at net node k → tells_from net node (link + 1) ≡ told_at net node (k + 1)
told-next net node k link rising e =
    let told : AllPairs (λ x y. x < y) (told_links net node) =
    AllPairs-filter (λ x y. x < y) (λ l. is_some (link_at net l).to) (exit_links net node) (AllPairs-from_increasing (exit_links net node) rising) in
    let same : suc k ≡ k + 1 = omega arith in
    ap telling (behind (told_links net node) k link told (told-some (slice_get (told_links net node) k) link (sym e))) ∙ ap (told_at net node) same

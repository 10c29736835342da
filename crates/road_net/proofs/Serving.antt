-- Where the phases of a network name its links.
use Rattle.std.proofs.Common.{◌≡◌, ◌≢◌, ℕ, suc, ◌+◌, ◌<◌, ◌≤◌, Bool, true, false, cond, ◌||◌, ◌==◌, List, [], ◌∷◌, length, get_or, take, map, sum_by, count_by, position, Option, Some, None, IsSome, IfSome, Contains, unwrap_or, refl, ap, ◌∙◌, sym, subst, inl, inr, arith, length-take}
use Rattle.std.specs.List.{concat, list_any}
use Rattle.std.proofs.lemmas.Bool.{cases_lt, false≢true}
use Rattle.std.proofs.lemmas.Bool.Decides.{eqb_tells}
use Rattle.std.proofs.lemmas.List.{get_or-take, get_or_default}
use Rattle.std.proofs.lemmas.List.Quantifiers.{position-Some}
use Rattle.std.proofs.lemmas.List.Sums.{sum_by-append, sum_by-cons, sum_by_more_le, get_or-le-sum_by}
use Rattle.net_parts.specs.Numbers.{has_link, phase_of}
use Rattle.road_net.specs.Joins.{times_named, IsPhased}

-- two places of a list count in its sum
two_within : {X : Type 0} (f : X → ℕ) (xs : List X) (i j : ℕ) (d : X) → i < j → j < length xs → f (get_or xs i d) + f (get_or xs j d) ≤ sum_by f xs
two_within f xs i j d less h =
    let first : f (get_or (take j xs) i d) ≤ sum_by f (take j xs) = get_or-le-sum_by f (take j xs) i d (omega (arith, length-take j xs)) in
    let same : f (get_or (take j xs) i d) ≡ f (get_or xs i d) = ap f (get_or-take j xs i d less) in
    omega (arith, first, same, sum_by_more_le f xs j d h)

pub two_apart : {X : Type 0} (f : X → ℕ) (xs : List X) (i j : ℕ) (d : X) → i ≢ j → i < length xs → j < length xs → f (get_or xs i d) + f (get_or xs j d) ≤ sum_by f xs
two_apart f xs i j d other h g = elim (cases_lt i j) [
  | inl less ↦ two_within f xs i j d less g
  | inr more ↦ omega (arith, two_within f xs j i d (omega arith) h)
]

one_passes : (b : Bool) (n : ℕ) → b ≡ true → cond b 1 0 ≤ n → 1 ≤ n
one_passes true n is h = h
one_passes false n is h = absurd (false≢true is)

-- some element passes, where any does
pub list_any-found : (p : ℕ → Bool) (xs : List ℕ) → list_any p xs ≡ true → (i : ℕ) × (i < length xs) × (p (get_or xs i 0) ≡ true)
list_any-found p [] any = absurd (false≢true any)
list_any-found p (x ∷ xs) any = by (p x) refl any (list_any-found p xs)
  where
    by : (b : Bool) → p x ≡ b → (b || list_any p xs) ≡ true → (list_any p xs ≡ true → (i : ℕ) × (i < length xs) × (p (get_or xs i 0) ≡ true)) → (i : ℕ) × (i < suc (length xs)) × (p (get_or (x ∷ xs) i 0) ≡ true)
    by true is h rest = (0, omega arith, is)
    by false is h rest = let (i, within, passes) = rest h in (suc i, omega arith, passes)

module _ (p : ℕ → Bool) where
  abbrev in_lists : List (List ℕ) → ℕ
  in_lists xs = sum_by (λ ys. count_by p ys) xs

  count-concat : (xs : List (List ℕ)) → count_by p (concat xs) ≡ in_lists xs
  count-concat [] = refl
  count-concat (x ∷ xs) = sum_by-append (λ y. cond (p y) 1 0) x (concat xs) ∙ ap (λ n. count_by p x + n) (count-concat xs) ∙ sym (sum_by-cons (λ ys. count_by p ys) x xs)

  pub count-named : (xs : List (List (List ℕ))) → count_by p (concat (map concat xs)) ≡ sum_by in_lists xs
  count-named [] = refl
  count-named (x ∷ xs) =
      sum_by-append (λ y. cond (p y) 1 0) (concat x) (concat (map concat xs)) ∙ ap (λ n. count_by p (concat x) + n) (count-named xs)
      ∙ ap (λ n. n + sum_by in_lists xs) (count-concat x) ∙ sym (sum_by-cons in_lists x xs)

  -- an element that passes counts
  count-at : (xs : List ℕ) (i : ℕ) → i < length xs → p (get_or xs i 0) ≡ true → 1 ≤ count_by p xs
  count-at xs i h is = one_passes (p (get_or xs i 0)) _ is (get_or-le-sum_by (λ y. cond (p y) 1 0) xs i 0 h)

  pub count-any : (xs : List ℕ) → list_any p xs ≡ true → 1 ≤ count_by p xs
  count-any xs any = let (i, h, is) = list_any-found p xs any in count-at xs i h is

  -- in a list of a list of lists
  pub count-in : (xs : List (List ℕ)) (k : ℕ) → k < length xs → 1 ≤ count_by p (get_or xs k []) → 1 ≤ in_lists xs
  count-in xs k h some = omega (arith, get_or-le-sum_by (λ ys. count_by p ys) xs k [] h)

pub same_link : (a b : ℕ) → a ≡ b → (a == b) ≡ true
same_link a b same = elim (eqb_tells a b) [ inl e ↦ e.0 | inr q ↦ absurd (q.1 same) ]

pub is_link : (a b : ℕ) → (a == b) ≡ true → a ≡ b
is_link a b is = elim (eqb_tells a b) [ inl e ↦ e.1 | inr q ↦ absurd (false≢true (sym q.0 ∙ is)) ]

some_of : (o : Option ℕ) → IsSome o → (k : ℕ) × (o ≡ Some k)
some_of None h = absurd (false≢true h)
some_of (Some k) h = (k, refl)

module _ (phase_links : List (List (List ℕ))) (link : ℕ) where
  abbrev it : ℕ → Bool
  it x = x == link

  at_most_once : (to : Option ℕ) → IsPhased phase_links link to → times_named phase_links link ≤ 1
  at_most_once None never = omega (arith, never)
  at_most_once (Some n) (once, found) = omega (arith, once)

  -- a link that a phase names ends at the node of the phase, and has this phase
  pub named-here : (n k i : ℕ) → n < length phase_links → k < length (get_or phase_links n []) → i < length (get_or (get_or phase_links n []) k []) → get_or (get_or (get_or phase_links n []) k []) i 0 ≡ link
      → (to : Option ℕ) → IfSome to (λ m. m < length phase_links) → IsPhased phase_links link to → (to ≡ Some n) × (phase_of phase_links link to ≡ k)
  named-here n k i in_nodes in_phases in_links same None within never =
      let here = count-at it (get_or (get_or phase_links n []) k []) i in_links (same_link _ _ same) in
      let node = count-in it (get_or phase_links n []) k in_phases here in
      absurd (omega (arith, never, count-named it phase_links, get_or-le-sum_by (in_lists it) phase_links n [] in_nodes))
  named-here n k i in_nodes in_phases in_links same (Some m) within (once, found) =
      let here = count-at it (get_or (get_or phase_links n []) k []) i in_links (same_link _ _ same) in
      let node = count-in it (get_or phase_links n []) k in_phases here in
      let (j, is) = some_of (position (has_link link) (get_or phase_links m [])) found in
      let (in_its, has, _) = position-Some (has_link link) (get_or phase_links m []) j [] is in
      let there = count-any it (get_or (get_or phase_links m []) j []) has in
      let its = count-in it (get_or phase_links m []) j in_its there in
      let one_node : m ≡ n = elim (eqb_tells m n) [
        | inl e ↦ e.1
        | inr q ↦ absurd (omega (arith, once, here, node, there, its, count-named it phase_links, two_apart (in_lists it) phase_links m n [] q.1 within in_nodes))
      ] in
      let is_here = subst (λ q. position (has_link link) (get_or phase_links q []) ≡ Some j) one_node is in
      let (in_own, has_own, _) = position-Some (has_link link) (get_or phase_links n []) j [] is_here in
      let own = count-any it (get_or (get_or phase_links n []) j []) has_own in
      let one_phase : j ≡ k = elim (eqb_tells j k) [
        | inl e ↦ e.1
        | inr q ↦ absurd (omega (arith, once, here, own, count-named it phase_links, get_or-le-sum_by (in_lists it) phase_links n [] in_nodes, two_apart (λ ys. count_by it ys) (get_or phase_links n []) j k [] q.1 in_own in_phases))
      ] in
      (ap Some one_node, ap (λ o. unwrap_or o 0) is ∙ one_phase)

  -- a link that ends at a node is named in its phase there
  pub named-there : (n : ℕ) → IsPhased phase_links link (Some n) → (phase_of phase_links link (Some n) < length (get_or phase_links n [])) × Contains (get_or (get_or phase_links n []) (phase_of phase_links link (Some n)) []) link
  named-there n (once, found) =
      let (j, is) = some_of (position (has_link link) (get_or phase_links n [])) found in
      let (in_own, has_own, _) = position-Some (has_link link) (get_or phase_links n []) j [] is in
      let (i, within, at) = list_any-found it (get_or (get_or phase_links n []) j []) has_own in
      let phase : phase_of phase_links link (Some n) ≡ j = ap (λ o. unwrap_or o 0) is in
      let there : Contains (get_or (get_or phase_links n []) j []) link = (i, within, get_or_default (get_or (get_or phase_links n []) j []) i link 0 within ∙ is_link _ _ at) in
      (rw phase in_own, rw phase there)

  -- it is named once there
  pub named-once : (n k i j : ℕ) → n < length phase_links → k < length (get_or phase_links n []) → i < j → j < length (get_or (get_or phase_links n []) k []) → get_or (get_or (get_or phase_links n []) k []) i 0 ≡ link → get_or (get_or (get_or phase_links n []) k []) j 0 ≡ link
      → (to : Option ℕ) → IsPhased phase_links link to → ⊥
  named-once n k i j in_nodes in_phases less in_links first second to phased =
      let list : List ℕ = get_or (get_or phase_links n []) k [] in
      let both = two_within (λ y. cond (it y) 1 0) list i j 0 less in_links in
      let one : ◌≡◌ {A = ℕ} (cond (it (get_or list i 0)) 1 0) 1 = ap (λ b. cond b 1 0) (same_link _ _ first) in
      let other : ◌≡◌ {A = ℕ} (cond (it (get_or list j 0)) 1 0) 1 = ap (λ b. cond b 1 0) (same_link _ _ second) in
      let twice : 2 ≤ count_by it list = omega (arith, both, one, other) in
      let node = get_or-le-sum_by (λ ys. count_by it ys) (get_or phase_links n []) k [] in_phases in
      let all = get_or-le-sum_by (in_lists it) phase_links n [] in_nodes in
      absurd (omega (arith, twice, node, all, count-named it phase_links, at_most_once to phased))

-- The parts of a split.
use Rattle.std.proofs.Common.{◌≡◌, ◌≢◌, ℕ, zero, suc, ◌+◌, ◌-◌, ◌*◌, ◌/◌, ◌<◌, ◌≤◌, true, false, eqb, List, length, get_or, take, drop, sum_by, Option, Some, None, IsSome, All, AllPairs, refl, ap, ◌∙◌, sym, subst, inl, inr, add-one, arith, lit<}
use Rattle.std.specs.Option.{option_map_or}
use Rattle.std.proofs.Math.Nat.{mul-div_cancel, mul-div-le, mul-le-mul_left}
use Rattle.std.proofs.lemmas.Nat.{le-div}
use Rattle.std.proofs.lemmas.Bool.{false≢true, cases_lt}
use Rattle.std.proofs.lemmas.Bool.Decides.{eqb_tells}
use Rattle.std.proofs.lemmas.List.{get_or_default, get_or-drop, length-drop, take_all}
use Rattle.std.proofs.lemmas.List.Sums.{sum_by_more}
use Rattle.net_parts.specs.declared.roads.Link.{Link}
use Rattle.net_parts.specs.declared.roads.Turn.{Turn}
use Rattle.road_net.specs.Joins.{share_of, shares_to, part, split_of, HasShares}
use Rattle.foundation.proofs.PositionLaws.{position-first, position-none}

eqb-same : (a b : ℕ) → a ≡ b → eqb a b ≡ true
eqb-same a b same = elim (eqb_tells a b) [ inl p ↦ p.0 | inr q ↦ absurd (q.1 same) ]

eqb-other : (a b : ℕ) → a ≢ b → eqb a b ≡ false
eqb-other a b other = elim (eqb_tells a b) [ inl p ↦ absurd (other p.1) | inr q ↦ q.0 ]

module _ (turns : List Turn) where
  -- the shares with one more turn
  pub shares-more : (k : ℕ) (d : Turn) → k < length turns → shares_to turns (k + 1) ≡ shares_to turns k + (get_or turns k d).share
  shares-more k d h = sum_by_more share_of turns k d h

  -- the exit of the turn k, which no earlier turn has
  pub split-found : (amount exit k : ℕ) (d : Turn) → k < length turns → (get_or turns k d).exit ≡ exit → ((j : ℕ) → j < k → (get_or turns j d).exit ≢ exit) → split_of turns amount exit ≡ part turns amount k
  split-found amount exit k d h here before =
      ap (λ o. option_map_or (part turns amount) o 0)
      (position-first (λ t. eqb t.exit exit) turns d k h (λ j b. eqb-other (get_or turns j d).exit exit (before j b)) (eqb-same (get_or turns k d).exit exit here))

  -- an exit that no turn has
  pub split-none : (amount exit : ℕ) (d : Turn) → ((j : ℕ) → j < length turns → (get_or turns j d).exit ≢ exit) → split_of turns amount exit ≡ 0
  split-none amount exit d none =
      ap (λ o. option_map_or (part turns amount) o 0) (position-none (λ t. eqb t.exit exit) turns d (λ j b. eqb-other (get_or turns j d).exit exit (none j b)))

div-le : (m n k : ℕ) → 0 < k → m ≤ n → m / k ≤ n / k
div-le m n k some h = le-div (m / k) n k some (omega (arith, mul-div-le m k))

added : (s f a b : ℕ) → s ≡ a → f ≡ b - a → a ≤ b → s + f ≡ b
added s f a b before here rises = omega arith

module _ (turns : List Turn) (amount : ℕ) (differ : AllPairs (λ s t. s.exit ≢ t.exit) turns) where
  abbrev of_turn : Turn → ℕ
  of_turn t = split_of turns amount t.exit

  -- the parts of the first turns, with one more
  parts-more : (k : ℕ) → k < length turns → sum_by of_turn (take k turns) ≡ amount * shares_to turns k / 1000 → sum_by of_turn (take (k + 1) turns) ≡ amount * shares_to turns (k + 1) / 1000
  parts-more k h before =
      let d : Turn = record { exit = 0; share = 0 } in
      let at = split-found turns amount (get_or turns k d).exit k d h refl (λ j b. differ j k d b h) in
      let rises : amount * shares_to turns k ≤ amount * shares_to turns (k + 1) = mul-le-mul_left amount (omega (arith, shares-more turns k d h)) in
      sum_by_more of_turn turns k d h ∙ added _ _ _ _ before at (div-le _ _ 1000 (lit< tt) rises)

  -- the parts of the first k turns
  parts-before : (k : ℕ) → k ≤ length turns → sum_by of_turn (take k turns) ≡ amount * shares_to turns k / 1000
  parts-before zero h = omega arith
  parts-before (suc k) h = subst (λ n. sum_by of_turn (take n turns) ≡ amount * shares_to turns n / 1000) (add-one k) (parts-more k h (parts-before k (omega arith)))

  -- the parts of all turns are the whole amount
  pub parts-whole : sum_by share_of turns ≡ 1000 → sum_by of_turn turns ≡ amount
  parts-whole whole =
      let all = parts-before (length turns) (omega arith) in
      (rw (take_all (length turns) turns (omega arith)) at all) ∙ ap (λ n. amount * n / 1000) whole ∙ mul-div_cancel amount (lit< tt)

-- the parts of the turns of a link that ends at a node are the whole amount
pub parts_of_link : (links : List Link) (turns : List Turn) (amount : ℕ) (to : Option ℕ) → HasShares links turns to → IsSome to → sum_by (λ t. split_of turns amount t.exit) turns ≡ amount
parts_of_link links turns amount None shares some = absurd (false≢true some)
parts_of_link links turns amount (Some node) shares some = parts-whole turns amount shares.differ shares.whole

-- elements whose numbers, by f, differ from each other
module _ {X : Type 0} (f : X → ℕ) where
  -- they differ from one that stands before them
  pub differ-later : (xs : List X) (i : ℕ) (d : X) → AllPairs (λ s t. f s ≢ f t) xs → All (λ t. f t ≢ f (get_or xs i d)) (drop (i + 1) xs)
  differ-later xs i d differ k e h same =
      let inside : i + 1 + k < length xs = omega (arith, length-drop (i + 1) xs) in
      differ i (i + 1 + k) d (omega arith) inside (sym (rw (get_or-drop (i + 1) xs k e, get_or_default xs (i + 1 + k) e d inside) at same))

  differs-here : (xs : List X) (n : ℕ) (x : X) → x ≡ get_or xs n x → All (λ t. f t ≢ f x) (drop (n + 1) xs) → (i j : ℕ) (d : X) → i ≡ n → i < j → j < length xs → f (get_or xs i d) ≢ f (get_or xs j d)
  differs-here xs n x at later i j d here less inside same =
      let far : (n + 1) + (j - (n + 1)) ≡ j = omega arith in
      let other : get_or (drop (n + 1) xs) (j - (n + 1)) d ≡ get_or xs j d = get_or-drop (n + 1) xs (j - (n + 1)) d ∙ ap (λ k. get_or xs k d) far in
      let own : get_or xs i d ≡ x = ap (λ k. get_or xs k d) here ∙ get_or_default xs n d x (omega arith) ∙ sym at in
      later (j - (n + 1)) d (omega (arith, length-drop (n + 1) xs)) (ap f other ∙ sym same ∙ ap f own)

  -- one more that differs from all later ones
  pub differ-more : (xs : List X) (n : ℕ) (x : X) → x ≡ get_or xs n x → ((i j : ℕ) (d : X) → i < n → i < j → j < length xs → f (get_or xs i d) ≢ f (get_or xs j d))
      → All (λ t. f t ≢ f x) (drop (n + 1) xs) → (i j : ℕ) (d : X) → i < n + 1 → i < j → j < length xs → f (get_or xs i d) ≢ f (get_or xs j d)
  differ-more xs n x at before later i j d h less inside = elim (cases_lt i n) [
    | inl earlier ↦ before i j d earlier less inside
    | inr here ↦ differs-here xs n x at later i j d (omega arith) less inside
  ]

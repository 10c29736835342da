-- Which version a link has at a place.
use Rattle.std.proofs.Common.{◌≡◌, ℕ, zero, suc, ◌+◌, ◌-◌, ◌*◌, ◌/◌, ◌%◌, ◌<◌, ◌≤◌, cond, Bool, false, List, [], ◌∷◌, ◌++◌, Option, Some, None, length, take, get_or, filter, refl, sym, ap, ◌∙◌, inl, inr, arith, ne_eqb, eq-eqb, length-append, is_some, eqb}
use Rattle.std.specs.Prelude.{count_by, IsSome, ◌⊎◌}
use Rattle.std.specs.List.{range_with_len}
use Rattle.std.proofs.lemmas.Bool.{cases_eq, cases_Bool}
use Rattle.std.proofs.lemmas.List.{take_more}
use Rattle.std.proofs.lemmas.List.Sums.{length-filter, sum_by-append, sum_by-cons}
use Rattle.std.proofs.lemmas.Nat.{mod-mul-add, div-mul-add}
use Rattle.histories.specs.declared.steps.BoardStep.{BoardStep}
use Rattle.histories.specs.declared.steps.BoardStep.TheVariants.{Read, Publish}
use Rattle.net_parts.specs.Numbers.{Net}
use Rattle.net_parts.specs.Outline.{link_at}
use Rattle.road_net.specs.Network.{IsNetwork}
use Rattle.histories.specs.Histories.{count, HasRounds, IsLawful, IsOfRound, round_at, step_at, version_at}
use Rattle.histories.specs.Steps.{board_steps, is_publish_of, step_if}
use Rattle.histories.proofs.Players.{are-steps}
use Rattle.histories.proofs.StepLaws.{steps-beyond}
use Rattle.histories.proofs.Counts.{count-append, count-one, count-else}
use Rattle.histories.proofs.Lists.{filter-yes, filter-no}
use Rattle.histories.proofs.Prefixes.{in-round}

range-append : (s a b : ℕ) → range_with_len s (a + b) ≡ range_with_len s a ++ range_with_len (s + a) b
range-append s zero b = ap (range_with_len s) (let e : 0 + b ≡ b = omega arith in e) ∙ ap (λ t. range_with_len t b) (let e : s ≡ s + 0 = omega arith in e)
range-append s (suc a) b = ap (range_with_len s) (let e : suc a + b ≡ suc (a + b) = omega arith in e) ∙ ap (λ l. s ∷ l) (range-append (s + 1) a b) ∙ ap (λ t. (s ∷ range_with_len (s + 1) a) ++ range_with_len t b) (let e : s + 1 + a ≡ s + suc a = omega arith in e)

-- how many numbers of a range pass a test
pub passing : (ℕ → Bool) → ℕ → ℕ → ℕ
passing p s n = count_by p (range_with_len s n)

passing-append : (p : ℕ → Bool) (s a b : ℕ) → passing p s (a + b) ≡ passing p s a + passing p (s + a) b
unfolding passing
passing-append p s a b = ap (count_by p) (range-append s a b) ∙ sum_by-append (λ x. cond (p x) 1 0) (range_with_len s a) (range_with_len (s + a) b)

passing-one : (p : ℕ → Bool) (s : ℕ) → passing p s 1 ≡ cond (p s) 1 0
unfolding passing
passing-one p s = sum_by-cons (λ x. cond (p x) 1 0) s [] ∙ (let e : cond (p s) 1 0 + 0 ≡ cond (p s) 1 0 = omega arith in e)

passing-none : (p : ℕ → Bool) (s : ℕ) → passing p s 0 ≡ 0
unfolding passing
passing-none p s = refl

version-none : (steps : ℕ → List BoardStep) (h : List ℕ) (link : ℕ) → version_at steps h link 0 ≡ 0
version-none steps h link = refl

pub version-more : (steps : ℕ → List BoardStep) (h : List ℕ) (link i : ℕ) → version_at steps h link (i + 1) ≡ version_at steps h link i + cond (is_publish_of link (step_at steps h i)) 1 0
unfolding passing
version-more steps h link i = passing-append (λ k. is_publish_of link (step_at steps h k)) 0 i 1 ∙ ap (λ n. version_at steps h link i + n) (ap (λ s. passing (λ k. is_publish_of link (step_at steps h k)) s 1) (let e : 0 + i ≡ i = omega arith in e) ∙ passing-one (λ k. is_publish_of link (step_at steps h k)) i)

-- versions never fall
pub version-rises : (steps : ℕ → List BoardStep) (h : List ℕ) (link early late : ℕ) → early ≤ late → version_at steps h link early ≤ version_at steps h link late
unfolding passing
version-rises steps h link early late order =
    let e : late ≡ early + (late - early) = omega arith in
    let whole = passing-append (λ k. is_publish_of link (step_at steps h k)) 0 early (late - early) in
    omega (arith, ap (version_at steps h link) e, whole)

plus-none : (k : ℕ) → k + 0 ≡ k
plus-none k = omega arith

-- where no number passes, none is counted
none-pass : (p : ℕ → Bool) (s n : ℕ) → ((k : ℕ) → k < n → p (s + k) ≡ false) → passing p s n ≡ 0
none-pass p s zero none = passing-none p s
none-pass p s (suc n) none =
    let whole = passing-append p s n 1 in
    let last : passing p (s + n) 1 ≡ 0 = passing-one p (s + n) ∙ ap (λ b. cond b 1 0) (none n (omega arith)) in
    omega (arith, ap (passing p s) (let e : suc n ≡ n + 1 = omega arith in e), whole, none-pass p s n (λ k less. none k (omega arith)), last)

-- of a list and its places as many pass
passing-list : (p : BoardStep → Bool) (f : ℕ → Bool) (xs : List BoardStep) (s : ℕ) → ((before : List BoardStep) (x : BoardStep) (after : List BoardStep) → xs ≡ before ++ x ∷ after → f (s + length before) ≡ p x) → passing f s (length xs) ≡ count_by p xs
unfolding passing
passing-list p f [] s agree = refl
passing-list p f (x ∷ xs) s agree =
    sum_by-cons (λ k. cond (f k) 1 0) s (range_with_len (s + 1) (length xs))
    ∙ ap (λ b. cond b 1 0 + count_by f (range_with_len (s + 1) (length xs))) (ap f (let e : s ≡ s + 0 = omega arith in e) ∙ agree [] x xs refl)
    ∙ ap (λ n. cond (p x) 1 0 + n) (passing-list p f xs (s + 1) (λ before y after e. ap f (shift s (length before)) ∙ agree (x ∷ before) y after (ap (λ l. x ∷ l) e)))
    ∙ sym (sum_by-cons (λ y. cond (p y) 1 0) x xs)
  where
    shift : (s n : ℕ) → (s + 1) + n ≡ s + suc n
    shift s n = omega arith

get-cut : (before : List BoardStep) (x d : BoardStep) (after : List BoardStep) → get_or (before ++ x ∷ after) (length before) d ≡ x
get-cut [] x d after = refl
get-cut (y ∷ ys) x d after = get-cut ys x d after

-- where none passes a test, none that is found does
head-fails : (p : BoardStep → Bool) (x : BoardStep) (xs : List BoardStep) → filter p (x ∷ xs) ≡ [] → p x ≡ false
head-fails p x xs none = elim (cases_Bool (p x)) [
  | inl passes ↦ absurd (let f : x ∷ filter p xs ≡ [] = sym (filter-yes p x xs passes) ∙ none in cc)
  | inr fails ↦ fails
]

pub none-found : (p : BoardStep → Bool) (xs : List BoardStep) (k : ℕ) (d : BoardStep) → filter p xs ≡ [] → p d ≡ false → p (get_or xs k d) ≡ false
none-found p [] k d none e = e
none-found p (x ∷ xs) zero d none e = head-fails p x xs none
none-found p (x ∷ xs) (suc k) d none e = none-found p xs k d (sym (filter-no p x xs (head-fails p x xs none)) ∙ none) e

module _ (steps : ℕ → List BoardStep) (link f : ℕ) (others : (n : ℕ) → (n ≡ f → ⊥) → filter (is_publish_of link) (steps n) ≡ []) (once : filter (is_publish_of link) (steps f) ≡ Publish link ∷ []) where
  abbrev pub test : ℕ → Bool
  test j = is_publish_of link (get_or (steps f) (j % length (steps f)) (Read 0))

  -- how many Publishes of the link are among the first steps of its publisher, by their count
  abbrev pub made : ℕ → ℕ
  made c = passing test 0 c

  one : count_by (is_publish_of link) (steps f) ≡ 1
  one = sym (length-filter (is_publish_of link) (steps f)) ∙ ap length once

  -- a round of the publisher has one
  made-round : (r : ℕ) → made (r * length (steps f)) ≡ r
  made-round zero = ap made (let e : 0 * length (steps f) ≡ 0 = omega arith in e) ∙ passing-none test 0
  made-round (suc r) =
      let w : ℕ = length (steps f) in
      let round : passing test (r * w) w ≡ count_by (is_publish_of link) (steps f) = passing-list (is_publish_of link) test (steps f) (r * w) (λ before x after s. ap (is_publish_of link) (ap (λ k. get_or (steps f) k (Read 0)) (mod-mul-add r w (length before) (inside before x after s)) ∙ ap (λ l. get_or l (length before) (Read 0)) s ∙ get-cut before x (Read 0) after)) in
      let whole : made (r * w + w) ≡ made (r * w) + passing test (0 + r * w) w = passing-append test 0 (r * w) w in
      let from : passing test (0 + r * w) w ≡ passing test (r * w) w = ap (λ s. passing test s w) (let e : 0 + r * w ≡ r * w = omega arith in e) in
      let h = made-round r in
      ap made (suc-mul r w) ∙ (let z : made (r * w + w) ≡ suc r = omega (arith, whole, from, round, one, h) in z)
    where
      inside : (before : List BoardStep) (x : BoardStep) (after : List BoardStep) → steps f ≡ before ++ x ∷ after → length before < length (steps f)
      inside before x after s = omega (arith, ap length s, length-append before (x ∷ after))

      suc-mul : (r w : ℕ) → suc r * w ≡ r * w + w
      suc-mul r w = omega arith

  -- so within a round it is the round's number, or one more
  pub made-within : (r c : ℕ) → r * length (steps f) ≤ c → c ≤ r * length (steps f) + length (steps f) → (r ≤ made c) × (made c ≤ r + 1)
  made-within r c least most = (rise r c least, upper)
    where
      rise : (r c : ℕ) → r * length (steps f) ≤ c → r ≤ made c
      rise r c least =
          let more : ℕ = c - r * length (steps f) in
          let e : c ≡ r * length (steps f) + more = omega arith in
          let whole : made (r * length (steps f) + more) ≡ made (r * length (steps f)) + passing test (0 + r * length (steps f)) more = passing-append test 0 (r * length (steps f)) more in
          omega (arith, ap made e, whole, made-round r)

      upper : made c ≤ r + 1
      upper =
          let w : ℕ = length (steps f) in
          let more : ℕ = (r * w + w) - c in
          let e : r * w + w ≡ c + more = omega arith in
          let whole : made (c + more) ≡ made c + passing test (0 + c) more = passing-append test 0 c more in
          let next : suc r * w ≡ r * w + w = suc-mul r w in
          omega (arith, ap made (next ∙ e), whole, made-round (suc r))
        where
          suc-mul : (r w : ℕ) → suc r * w ≡ r * w + w
          suc-mul r w = omega arith

  -- and before the first step of a round that is one of these, it is the round's number
  pub made-before : (k : ℕ) → k ≤ length (steps f) → ((j : ℕ) → j < k → is_publish_of link (get_or (steps f) j (Read 0)) ≡ false) → (r c : ℕ) → r * length (steps f) ≤ c → c ≤ r * length (steps f) + k → made c ≡ r
  made-before k inside none r c least most =
      let w : ℕ = length (steps f) in
      let more : ℕ = c - r * w in
      let e : c ≡ r * w + more = omega arith in
      let whole : made (r * w + more) ≡ made (r * w) + passing test (0 + r * w) more = passing-append test 0 (r * w) more in
      let quiet : passing test (0 + r * w) more ≡ 0 = none-pass test (0 + r * w) more (λ j less.
      ap (λ i. is_publish_of link (get_or (steps f) (i % length (steps f)) (Read 0))) (let s : 0 + r * w + j ≡ r * w + j = omega arith in s)
      ∙ ap (λ i. is_publish_of link (get_or (steps f) i (Read 0))) (mod-mul-add r w j (omega arith)) ∙ none j (omega arith)) in
      omega (arith, ap made e, whole, quiet, made-round r)

  -- the version at a place: what its publisher has made by then
  pub version-is : (h : List ℕ) (i : ℕ) → i ≤ length h → version_at steps h link i ≡ made (count f (take i h))
  version-is h zero inside = version-none steps h link ∙ sym (passing-none test 0)
  version-is h (suc i) inside =
      let n : ℕ = get_or h i 0 in
      let more : version_at steps h link (i + 1) ≡ version_at steps h link i + cond (is_publish_of link (step_at steps h i)) 1 0 = version-more steps h link i in
      let taken : take (i + 1) h ≡ take i h ++ n ∷ [] = take_more h i 0 (omega arith) in
      let before : version_at steps h link i ≡ made (count f (take i h)) = version-is h i (omega arith) in
      ap (version_at steps h link) (one-more i) ∙ more ∙ ap (λ v. v + cond (is_publish_of link (step_at steps h i)) 1 0) before ∙ case n refl (cases_eq n f) ∙ ap (λ l. made (count f l)) (sym taken) ∙ ap (λ k. made (count f (take k h))) (sym (one-more i))
    where
      one-more : (i : ℕ) → suc i ≡ i + 1
      one-more i = omega arith

      case : (n : ℕ) → get_or h i 0 ≡ n → (n ≡ f) ⊎ (n ≡ f → ⊥) → made (count f (take i h)) + cond (is_publish_of link (step_at steps h i)) 1 0 ≡ made (count f (take i h ++ get_or h i 0 ∷ []))
      case n is (inl here) =
          let same : get_or h i 0 ≡ f = is ∙ here in
          let step : is_publish_of link (step_at steps h i) ≡ test (count f (take i h)) = ap (λ k. is_publish_of link (get_or (steps k) (count k (take i h) % length (steps k)) (Read 0))) same in
          let c : ℕ = count f (take i h) in
          let whole : made (c + 1) ≡ made c + passing test (0 + c) 1 = passing-append test 0 c 1 in
          let last : passing test (0 + c) 1 ≡ cond (test c) 1 0 = ap (λ s. passing test s 1) (let e : 0 + c ≡ c = omega arith in e) ∙ passing-one test c in
          let counted : count f (take i h ++ get_or h i 0 ∷ []) ≡ c + 1 = count-append f (take i h) (get_or h i 0 ∷ []) ∙ ap (λ k. c + count f (k ∷ [])) same ∙ ap (λ k. c + k) (count-one f) in
          ap (λ b. made c + cond b 1 0) step ∙ sym (whole ∙ ap (λ k. made c + k) last) ∙ ap made (sym counted)
      case n is (inr other) =
          let none : is_publish_of link (step_at steps h i) ≡ false = none-found (is_publish_of link) (steps (get_or h i 0)) (count (get_or h i 0) (take i h) % length (steps (get_or h i 0))) (Read 0) (others (get_or h i 0) (λ e. other (sym is ∙ e))) refl in
          let counted : count f (take i h ++ get_or h i 0 ∷ []) ≡ count f (take i h) + 0 = count-append f (take i h) (get_or h i 0 ∷ []) ∙ ap (λ k. count f (take i h) + k) (count-else (get_or h i 0) f [] (λ e. other (sym is ∙ e))) in
          ap (λ b. made (count f (take i h)) + cond b 1 0) none ∙ plus-none (made (count f (take i h))) ∙ ap made (sym (counted ∙ plus-none (count f (take i h))))

  module _ (nodes : ℕ) (beyond : (n : ℕ) → nodes ≤ n → steps n ≡ []) where
    -- in a lawful history the version of a link at a place is the place's round, or one more
    pub version-in-round : (rounds : ℕ) (h : List ℕ) → HasRounds steps rounds h → (i : ℕ) → i < length h → (round_at steps h i ≤ version_at steps h link i) × (version_at steps h link i ≤ round_at steps h i + 1)
    version-in-round rounds h all i inside =
        let (r, at) = in-round steps nodes beyond rounds h all i inside in
        let n : ℕ = get_or h i 0 in
        let w : ℕ = length (steps n) in
        let more : ℕ = count n (take i h) - r * w in
        let own = at.own in
        let least = at.least n in
        let shape : count n (take i h) ≡ r * w + more = omega arith in
        let round : round_at steps h i ≡ r = ap (λ k. k / w) shape ∙ div-mul-add r w more (omega arith) in
        let bounds = made-within r (count f (take i h)) (at.least f) (at.most f) in
        let version = version-is h i (omega arith) in
        (omega (arith, round, bounds.0, version), omega (arith, round, bounds.1, version))

-- of a network
module _ (net : Net) (network : IsNetwork net) (link : ℕ) where
  module _ (f t : ℕ) (from : (link_at net link).from ≡ Some f) (to : (link_at net link).to ≡ Some t) where
    -- its publisher publishes on it, and no other node
    pub publishes : (n : ℕ) → filter (is_publish_of link) (board_steps net n) ≡ cond (eqb f n) (Publish link ∷ []) []
    publishes n =
        ((are-steps net network).players link).publishes n
        ∙ ap (λ (o : Option ℕ). cond (is_some o) (step_if (link_at net link).from n (Publish link)) []) to
        ∙ ap (λ (o : Option ℕ). step_if o n (Publish link)) from

    version-of-round : (h : List ℕ) (place : ℕ) → IsLawful net h → place < length h → IsOfRound (board_steps net) h link place
    version-of-round h place all inside = version-in-round (board_steps net) link f
        (λ n other. publishes n ∙ ap (λ b. cond b (Publish link ∷ []) []) (ne_eqb f n (λ e. other (sym e))))
        (publishes f ∙ ap (λ b. cond b (Publish link ∷ []) []) (eq-eqb f f refl))
        (length net.node_names) (λ n past. steps-beyond net network n past) net.run.rounds h all place inside

  pub version-law : (h : List ℕ) (place : ℕ) → IsLawful net h → place < length h → IsSome (link_at net link).from → IsSome (link_at net link).to → IsOfRound (board_steps net) h link place
  version-law h place all inside from to = by (link_at net link).from (link_at net link).to refl refl from to
    where
      by : (a b : Option ℕ) → (link_at net link).from ≡ a → (link_at net link).to ≡ b → IsSome a → IsSome b → IsOfRound (board_steps net) h link place
      by (Some f) (Some t) p q some end = version-of-round f t p q h place all inside
      by None b p q some end = absurd (cc)
      by (Some f) None p q some end = absurd (cc)

-- The beginnings of a lawful history are under way.
use Rattle.std.proofs.Common.{◌≡◌, ℕ, zero, suc, ◌+◌, ◌*◌, ◌<◌, ◌≤◌, List, [], ◌∷◌, ◌++◌, length, take, drop, get_or, refl, sym, ap, ◌∙◌, subst, inl, inr, arith}
use Rattle.std.specs.Prelude.{◌⊎◌}
use Rattle.std.proofs.lemmas.Bool.{cases_lt}
use Rattle.std.proofs.lemmas.List.{take_more}
use Rattle.histories.specs.declared.steps.BoardStep.{BoardStep}
use Rattle.histories.specs.Histories.{count, HasRounds, IsUnderWay}
use Rattle.histories.proofs.Counts.{count-append}
use Rattle.histories.proofs.Rounds.{next, begun, over-at-once, within-more, step-more, round-more, rounds-count}
use Rattle.histories.proofs.HowFar.{cut-here}

module _ (steps : ℕ → List BoardStep) (nodes : ℕ) (beyond : (n : ℕ) → nodes ≤ n → steps n ≡ []) where
  -- a node below a number has fewer than it may, or each has as many
  fewer-or-full : (f : ℕ → ℕ) → ((n : ℕ) → f n ≤ length (steps n)) → (k : ℕ) → ((n : ℕ) × (f n < length (steps n))) ⊎ ((n : ℕ) → n < k → f n ≡ length (steps n))
  fewer-or-full f within zero = inr (λ n less. absurd (omega arith))
  fewer-or-full f within (suc k) = elim (fewer-or-full f within k) [
    | inl found ↦ inl found
    | inr full ↦ elim (cases_lt (f k) (length (steps k))) [
      | inl less ↦ inl (k, less)
      | inr more ↦ inr (λ n less. elim (cases_lt n k) [
        | inl below ↦ full n below
        | inr last ↦ (let e : n ≡ k = omega arith in subst (λ m. f m ≡ length (steps m)) (sym e) (let w = within k in omega arith))
      ])
    ]
  ]

  all-full : (f : ℕ → ℕ) → ((n : ℕ) → f n ≤ length (steps n)) → ((n : ℕ) → n < nodes → f n ≡ length (steps n)) → (n : ℕ) → f n ≡ length (steps n)
  all-full f within full n = elim (cases_lt n nodes) [
    | inl below ↦ full n below
    | inr past ↦ (let e : length (steps n) ≡ 0 = ap length (beyond n past) in let w = within n in omega arith)
  ]

  first : (rounds : ℕ) → (done : ℕ) × IsUnderWay steps rounds done []
  first rounds = elim (fewer-or-full (λ n. 0) (λ n. omega arith) nodes) [
    | inl found ↦ (0, begun steps rounds found.0 found.1)
    | inr none ↦ (rounds, over-at-once steps rounds (λ n. empty (steps n) (all-full (λ n. 0) (λ n. omega arith) none n)))
  ]
    where
      empty : (s : List BoardStep) → 0 ≡ length s → s ≡ []
      empty [] e = refl
      empty (x ∷ xs) e = absurd (omega arith)

  -- a history under way, and its next node
  more : (rounds done : ℕ) (h : List ℕ) (way : IsUnderWay steps rounds done h) (n : ℕ) → done < rounds → count n way.part < length (steps n) → (now : ℕ) × IsUnderWay steps rounds now (h ++ n ∷ [])
  more rounds done h way n less room = elim (fewer-or-full (λ m. count m (way.part ++ n ∷ [])) (within-more steps rounds done h way n less room) nodes) [
    | inl found ↦ (done, step-more steps rounds done h way n less room found.0 found.1)
    | inr full ↦ (suc done, round-more steps rounds done h way n less room (all-full (λ m. count m (way.part ++ n ∷ [])) (within-more steps rounds done h way n less room) full))
  ]

  -- each beginning of a lawful history is under way
  pub beginning : (rounds : ℕ) (h : List ℕ) → HasRounds steps rounds h → (i : ℕ) → i ≤ length h → (done : ℕ) × IsUnderWay steps rounds done (take i h)
  beginning rounds h all zero inside = first rounds
  beginning rounds h all (suc i) inside =
      let (done, way) = beginning rounds h all i (omega arith) in
      let n : ℕ = get_or h i 0 in
      let (less, room) = next steps rounds done (take i h) way n (drop (i + 1) h) (subst (HasRounds steps rounds) (cut-here h i (omega arith)) all) in
      let (now, on) = more rounds done (take i h) way n less room in
      let one : suc i ≡ i + 1 = omega arith in
      (now, subst (IsUnderWay steps rounds now) (sym (ap (λ k. take k h) one ∙ take_more h i 0 (omega arith))) on)

  -- of each place: the round, the steps that a node has made, and that it has made no more than in the next round
  pub record IsInRound (rounds : ℕ) (h : List ℕ) (i round : ℕ) : Type 0 where
    pub below : round < rounds
    pub least : (n : ℕ) → round * length (steps n) ≤ count n (take i h)
    pub most : (n : ℕ) → count n (take i h) ≤ round * length (steps n) + length (steps n)
    pub own : count (get_or h i 0) (take i h) < round * length (steps (get_or h i 0)) + length (steps (get_or h i 0))

  pub in-round : (rounds : ℕ) (h : List ℕ) → HasRounds steps rounds h → (i : ℕ) → i < length h → (round : ℕ) × IsInRound rounds h i round
  in-round rounds h all i inside =
      let (done, way) = beginning rounds h all i (omega arith) in
      let n : ℕ = get_or h i 0 in
      let (less, room) = next steps rounds done (take i h) way n (drop (i + 1) h) (subst (HasRounds steps rounds) (cut-here h i inside) all) in
      let counted : (m : ℕ) → count m (take i h) ≡ done * length (steps m) + count m way.part = λ m. ap (count m) way.whole ∙ count-append m way.early way.part ∙ ap (λ k. k + count m way.part) (rounds-count steps done way.early way.rounds_done m) in
      (done, record { below = less; least = λ m. omega (arith, counted m); most = λ m. omega (arith, counted m, way.within m); own = omega (arith, counted n, room) })

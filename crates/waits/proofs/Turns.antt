-- Each unmarked phase has its green within a turn of the ring.
use Rattle.std.proofs.Common.{◌≡◌, ℕ, suc, ◌+◌, ◌<◌, ◌≤◌, true, eqb, leb, ltb, ◌&&◌, IsTrue, List, [], ◌∷◌, length, ap, subst, inl, inr, arith, All}
use Rattle.std.proofs.lemmas.Bool.{and_from, cases_eq, cases_lt, eq-eqb, le-leb, lt-ltb, or_left, or_right}
use Rattle.phase_plan.specs.Phases.{is_unmarked_at, phase_at, IsPhase}
use Rattle.phase_plan.specs.declared.Phase.{Phase}
use Rattle.control_flow.specs.Greens.{IsLawful, covers, end_of, is_green, row_at}
use Rattle.control_flow.specs.declared.greens.Green.{Green}
use Rattle.control_flow.proofs.OrderLaws.{green-lasts}
use Rattle.control_flow.proofs.RowLaws.{lawful-first, lawful-next, lawful-tail}
use Rattle.waits.specs.Waits.{IsGreenBy, IsGreenWithin, AreIntergreensWithin, longest_way, longest_span}
use Rattle.waits.proofs.Ring.{passes-by, turn-by}

-- intergreens, row by row
intergreens-tail : (intergreen : ℕ → ℕ) (row : Green) (rows : List Green) → AreIntergreensWithin intergreen (row ∷ rows) → AreIntergreensWithin intergreen rows
intergreens-tail intergreen row rows intergreens = record {
  next = λ k h.
      let e : suc k + 1 ≡ suc (k + 1) = omega arith in
      subst (λ i. (row_at (row ∷ rows) i).from ≤ (row_at rows k).to + intergreen (row_at rows k).phase) e (intergreens.next (suc k) (omega arith));
}

-- a row of the phase is green in each of its seconds
covered : (row : Green) (rows : List Green) (k x : ℕ) → row.phase ≡ k → row.from ≤ x → x < row.to → IsTrue (is_green (row ∷ rows) k x)
covered row rows k x same low high =
    or_left ((eqb row.phase k) && covers row x) _ (and_from (eqb row.phase k) (covers row x) (eq-eqb row.phase k same) (and_from (leb row.from x) (ltb x row.to) (le-leb row.from x low) (lt-ltb x row.to high)))

-- what is green in later rows is green
later : (row : Green) (rows : List Green) (k from to : ℕ) → IsGreenBy rows k from to → IsGreenBy (row ∷ rows) k from to
later row rows k from to by = record {
  second = by.second;
  after = by.after;
  before = by.before;
  green = or_right ((eqb row.phase k) && covers row by.second) _ by.green;
}

module _ (plan : List Phase) (p : All IsPhase plan) (intergreen : ℕ → ℕ) (k : ℕ) (below : k < length plan) (free : is_unmarked_at plan k ≡ true) where
  -- after a row the phase comes within the longest_way time
  comes : (row : Green) (rows : List Green) (low high : ℕ) → IsLawful plan (row ∷ rows) → AreIntergreensWithin intergreen (row ∷ rows) → (0 < length rows → low ≤ (row_at rows 0).from)
      → row.to + longest_way plan intergreen row.phase k ≤ high → high < end_of (row ∷ rows) → IsGreenBy rows k low high
  comes row [] low high lawful intergreens first room end = absurd (omega (arith, room, end))
  comes row (next ∷ rows) low high lawful intergreens first room end =
      let follows = lawful-next plan row next rows lawful in
      let others = lawful-tail plan row (next ∷ rows) lawful in
      let green = lawful-first plan next rows others in
      let begins = lawful-first plan row (next ∷ rows) lawful in
      let long = green-lasts plan next p green in
      let soon : next.from ≤ row.to + intergreen row.phase = intergreens.next 0 (omega arith) in
      let early : low ≤ next.from = first (omega arith) in
      elim (cases_eq next.phase k) [
        | inl same ↦ record { second = next.from; after = early; before = omega (arith, soon, room); green = covered next rows k next.from same (omega arith) (omega (arith, long)) }
        | inr other ↦
            let way = passes-by (longest_span plan intergreen) plan row.phase next.phase k begins.phase green.phase below other free follows.passed in
            later next rows k low high
            (comes next rows low high others (intergreens-tail intergreen row (next ∷ rows) intergreens) (λ h. let after = (others.order 0 (omega (arith, h))).begins in omega (arith, early, long, after)) (omega (arith, way, soon, room, green.greatest)) end)
      ]

  -- the time from a green of another phase, with that green, is no longer than a turn
  turn-most : (s : ℕ) → s < length plan → (s ≡ k → ⊥) → (phase_at plan s).greatest + longest_way plan intergreen s k ≤ longest_way plan intergreen k k
  turn-most s hs other = omega (arith, turn-by (longest_span plan intergreen) plan s k hs below other)

  intergreen-most : (s : ℕ) → s < length plan → longest_way plan intergreen s k ≤ longest_way plan intergreen k k
  intergreen-most s hs = elim (cases_eq s k) [
    | inl same ↦ (let e : longest_way plan intergreen s k ≡ longest_way plan intergreen k k = ap (λ (j : ℕ). longest_way plan intergreen j k) same in omega (arith, e))
    | inr other ↦ omega (arith, turn-most s hs other)
  ]

  -- what holds of a line of which a row is past
  abbrev AreWithin : List Green → Type 0
  AreWithin rows = IsLawful plan rows → AreIntergreensWithin intergreen rows → IsGreenWithin rows k (longest_way plan intergreen k k)

  behind : (row : Green) (rows : List Green) (second : ℕ) → AreWithin rows → IsLawful plan (row ∷ rows) → AreIntergreensWithin intergreen (row ∷ rows) → second + longest_way plan intergreen k k < end_of (row ∷ rows) → row.to ≤ second
      → IsGreenBy (row ∷ rows) k second (second + longest_way plan intergreen k k)
  behind row [] second others lawful intergreens end past = absurd (omega (arith, end, past))
  behind row (next ∷ rows) second others lawful intergreens end past = elim (cases_lt second next.from) [
    | inl before ↦
        let green = lawful-first plan row (next ∷ rows) lawful in
        later row (next ∷ rows) k second (second + longest_way plan intergreen k k)
        (comes row (next ∷ rows) second (second + longest_way plan intergreen k k) lawful intergreens (λ h. omega (arith, before)) (omega (arith, past, intergreen-most row.phase green.phase)) end)
    | inr begun ↦ later row (next ∷ rows) k second (second + longest_way plan intergreen k k) (others (lawful-tail plan row (next ∷ rows) lawful) (intergreens-tail intergreen row (next ∷ rows) intergreens) second begun end)
  ]

  pub within : (rows : List Green) → AreWithin rows
  within [] lawful intergreens second begun end = absurd (omega (arith, end))
  within (row ∷ rows) lawful intergreens second begun end =
      let green = lawful-first plan row rows lawful in
      elim (cases_lt second row.to) [
        | inl inside ↦ elim (cases_eq row.phase k) [
          | inl same ↦ record { second = second; after = omega arith; before = omega arith; green = covered row rows k second same begun inside }
          | inr other ↦
              let most = turn-most row.phase green.phase other in
              later row rows k second (second + longest_way plan intergreen k k)
              (comes row rows second (second + longest_way plan intergreen k k) lawful intergreens (λ h. let after = (lawful.order 0 (omega (arith, h))).begins in omega (arith, inside, after)) (omega (arith, most, begun, green.greatest)) end)
        ]
        | inr past ↦ behind row rows second (within rows) lawful intergreens end past
      ]

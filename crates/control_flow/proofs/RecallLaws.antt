-- What a plan in which phases are recalled has in common with the plan itself.
use Rattle.std.proofs.Common.{◌≡◌, ℕ, ◌+◌, ◌-◌, ◌<◌, Bool, not, cond, ltb, List, ◌++◌, length, All, sym, ap, subst, ◌∙◌, inl, inr, arith, true≢false}
use Rattle.std.specs.List.{range_with_len}
use Rattle.std.proofs.lemmas.Bool.{and_parts, cases_lt}
use Rattle.std.proofs.lemmas.List.{get_or_past}
use Rattle.std.proofs.lemmas.List.Elements.{All-from_get_or, All-get_or, All-weaker}
use Rattle.std.proofs.lemmas.List.FromFn.{get_or-map-range_with_len, length-map-range_with_len}
use Rattle.phase_plan.specs.Phases.{IsMarkedAt, IsPhase, IsRing, between, no_phase, phase_at}
use Rattle.phase_plan.specs.declared.Phase.{Phase}
use Rattle.switch_rules.specs.Serving.{IsHead}
use Rattle.switch_rules.specs.declared.Head.{Head}
use Rattle.control_flow.specs.Greens.{Follows, IsGreen, IsLawful, no_green, row_at}
use Rattle.control_flow.specs.Recalls.{recalled, without_mark, without_marks}
use Rattle.control_flow.specs.declared.greens.Green.{Green}

module _ (plan : List Phase) (these : ℕ → Bool) where
  pub length-without : length (without_marks plan these) ≡ length plan
  length-without = length-map-range_with_len (without_mark plan these) 0 (length plan)

  pub without-at : (k : ℕ) → k < length plan → phase_at (without_marks plan these) k ≡ without_mark plan these k
  without-at k h = get_or-map-range_with_len (without_mark plan these) 0 (length plan) k k no_phase h (omega arith)

  same-between : (s j : ℕ) → between (without_marks plan these) s j ≡ between plan s j
  same-between s j = ap (λ (n : ℕ). cond (ltb s j) (range_with_len (s + 1) (j - (s + 1))) (range_with_len (s + 1) (n - (s + 1)) ++ range_with_len 0 j)) length-without

  green-still : (row : Green) → IsGreen (without_marks plan these) row → IsGreen plan row
  green-still row green =
      let below : row.phase < length plan = omega (arith, green.phase, length-without) in
      let same = without-at row.phase below in
      record {
        phase = below;
        least = omega (arith, green.least, ap (λ (q : Phase). q.least) same);
        greatest = omega (arith, green.greatest, ap (λ (q : Phase). q.greatest) same);
      }

  marked-still : (k : ℕ) → IsMarkedAt (without_marks plan these) k → IsMarkedAt plan k
  marked-still k marked = elim (cases_lt k (length plan)) [
    | inl below ↦ (and_parts (phase_at plan k).skip (not (these k)) (sym (ap (λ (q : Phase). q.skip) (without-at k below)) ∙ marked)).0
    | inr past ↦
        let none : phase_at (without_marks plan these) k ≡ no_phase = get_or_past (without_marks plan these) k no_phase (omega (arith, past, length-without)) in
        absurd (true≢false (sym marked ∙ ap (λ (q : Phase). q.skip) none))
  ]

  follows-still : (row next : Green) → Follows (without_marks plan these) row next → IsGreen (without_marks plan these) row → Follows plan row next
  follows-still row next follows green =
      let below : row.phase < length plan = omega (arith, green.phase, length-without) in
      let same = without-at row.phase below in
      record {
        passed = All-weaker (IsMarkedAt (without_marks plan these)) (IsMarkedAt plan) marked-still (between plan row.phase next.phase) (subst (All (IsMarkedAt (without_marks plan these))) (same-between row.phase next.phase) follows.passed);
        other = follows.other;
        begins = omega (arith, follows.begins, ap (λ (q : Phase). q.yellow) same, ap (λ (q : Phase). q.clear) same);
      }

  -- what is lawful with fewer marks is lawful
  pub lawful-without : (rows : List Green) → IsLawful (without_marks plan these) rows → IsLawful plan rows
  lawful-without rows lawful = record {
    greens = All-weaker (IsGreen (without_marks plan these)) (IsGreen plan) green-still rows lawful.greens;
    order = λ k h. follows-still (row_at rows k) (row_at rows (k + 1)) (lawful.order k h) (All-get_or (IsGreen (without_marks plan these)) rows k no_green (omega (arith, h)) lawful.greens);
  }

  -- a head of the plan is one of it
  pub head-without : (head : Head) → IsHead plan head → IsHead (without_marks plan these) head
  head-without head h = record {
    phase = omega (arith, h.phase, length-without);
    begun = h.begun;
    within = omega (arith, h.within, ap (λ (q : Phase). q.greatest) (without-at head.phase h.phase));
  }

-- the same of a plan in which phases are recalled
module _ (plan : List Phase) (calls : ℕ → Bool) where
  pub length-recalled : length (recalled plan calls) ≡ length plan
  length-recalled = length-without plan calls

  pub recalled-at : (k : ℕ) → k < length plan → phase_at (recalled plan calls) k ≡ without_mark plan calls k
  recalled-at k h = without-at plan calls k h

  pub lawful-still : (rows : List Green) → IsLawful (recalled plan calls) rows → IsLawful plan rows
  lawful-still rows lawful = lawful-without plan calls rows lawful

  pub head-still : (head : Head) → IsHead plan head → IsHead (recalled plan calls) head
  head-still head h = head-without plan calls head h

-- its phases are within their bounds
pub phases-without : (plan : List Phase) (these : ℕ → Bool) → All IsPhase plan → All IsPhase (without_marks plan these)
phases-without plan these all = All-from_get_or IsPhase (without_marks plan these) no_phase (λ k h. each k (omega (arith, h, length-without plan these)))
  where
    each : (k : ℕ) → k < length plan → IsPhase (phase_at (without_marks plan these) k)
    each k h =
        let q : IsPhase (phase_at plan k) = All-get_or IsPhase plan k no_phase h all in
        let own : IsPhase (without_mark plan these k) = record { least = q.least; greatest = q.greatest; yellow = q.yellow; clear = q.clear; loss = q.loss; wait = q.wait } in
        subst IsPhase (sym (without-at plan these k h)) own

-- with fewer marks a ring is a ring
pub ring-still : (plan : List Phase) (calls : ℕ → Bool) → IsRing plan → IsRing (recalled plan calls)
ring-still plan calls p = record {
  count = (omega (arith, p.count.0, length-recalled plan calls), omega (arith, p.count.1, length-recalled plan calls));
  phases = phases-without plan calls p.phases;
}

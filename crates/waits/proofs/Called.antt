-- A ring that stops at a phase turns as one in which the phase has no mark.
use Rattle.std.proofs.Common.{◌≡◌, ℕ, zero, suc, ◌+◌, ◌≤◌, Bool, true, false, cond, eqb, ltb, not, ◌==◌, List, [], ◌∷◌, length, filter, slice_index_or, refl, sym, ap, subst, ◌∙◌, inl, inr, arith, eqb-true, true≢false}
use Rattle.std.proofs.lemmas.Bool.{and_from, cases_lt, or_parts}
use Rattle.std.proofs.lemmas.List.{get_or_past}
use Rattle.phase_plan.specs.Phases.{IsMarkedAt, IsRing, between, first_up, one_up, no_phase, phase_at}
use Rattle.phase_plan.specs.declared.Phase.{Phase}
use Rattle.phase_plan.proofs.RingLaws.{PassesMarked}
use Rattle.switch_rules.specs.Serving.{IsHead}
use Rattle.switch_rules.specs.declared.Head.{Head}
use Rattle.control_flow.specs.Greens.{IsLawful}
use Rattle.control_flow.specs.Recalls.{without_marks}
use Rattle.control_flow.specs.Timelines.{calls_for, green_after, stops_at, turned, turning}
use Rattle.control_flow.specs.declared.greens.Green.{Green}
use Rattle.control_flow.proofs.RecallLaws.{length-without, phases-without, without-at}
use Rattle.control_flow.proofs.TurningLaws.{passes-called, turned-lawful}
use Rattle.waits.proofs.Recalling.{freed, same-between, same-field}

module _ (plan : List Phase) (these : ℕ → Bool) (stops : ℕ → Bool) where
  same-first : (s : ℕ) → first_up (without_marks plan these) stops s ≡ first_up plan stops s
  same-first s =
      ap (λ (ks : List ℕ). slice_index_or (filter stops ks) 0 (one_up (without_marks plan these) s)) (same-between plan these s s)
      ∙ ap (λ (n : ℕ). slice_index_or (filter stops (between plan s s)) 0 (cond (ltb (s + 1) n) (s + 1) 0)) (length-without plan these)

  same-after : (s to : ℕ) → green_after (without_marks plan these) stops s to ≡ green_after plan stops s to
  same-after s to =
      let k = same-first s in
      let yellow = same-field plan these (λ (p : Phase). p.yellow) (λ p b. refl) s in
      let clear = same-field plan these (λ (p : Phase). p.clear) (λ p b. refl) s in
      let least = ap (λ (j : ℕ). (phase_at (without_marks plan these) j).least) k ∙ same-field plan these (λ (p : Phase). p.least) (λ p b. refl) (first_up plan stops s) in
      λ i. record { phase = k i; from = to + yellow i + clear i; to = to + yellow i + clear i + least i }

  same-turning : (most until s to : ℕ) → turning (without_marks plan these) stops most until s to ≡ turning plan stops most until s to
  same-turning zero until s to = refl
  same-turning (suc most) until s to =
      ap (λ (g : Green). cond (ltb until to) [] (g ∷ turning (without_marks plan these) stops most until g.phase g.to)) (same-after s to)
      ∙ ap (λ (rows : List Green). cond (ltb until to) [] (green_after plan stops s to ∷ rows)) (same-turning most until (green_after plan stops s to).phase (green_after plan stops s to).to)

  same-turned : (head : Head) (to until : ℕ) → turned (without_marks plan these) stops head to until ≡ turned plan stops head to until
  same-turned head to until = ap (λ (rows : List Green). record { phase = head.phase; from = head.since; to = to } ∷ rows) (same-turning (until + 1) until head.phase to)

module _ (plan : List Phase) (p : IsRing plan) (calls : List ℕ) (k : ℕ) (called : calls_for calls k ≡ true) where
  -- no other phase is passed over that is not marked
  passes : PassesMarked (freed plan k) (stops_at plan calls)
  passes j e =
      let marked : IsMarkedAt plan j = passes-called plan calls j e in
      elim (cases_lt j (length plan)) [
        | inl below ↦
            ap (λ (q : Phase). q.skip) (without-at plan (λ i. i == k) j below)
            ∙ and_from (phase_at plan j).skip (not (eqb j k)) marked (ap not (other j (or_parts _ (calls_for calls j) e).1 (eqb j k) refl))
        | inr past ↦ absurd (true≢false (sym marked ∙ ap (λ (q : Phase). q.skip) (get_or_past plan j no_phase past)))
      ]
    where
      other : (j : ℕ) → calls_for calls j ≡ false → (b : Bool) → eqb j k ≡ b → eqb j k ≡ false
      other j silent true same = absurd (true≢false (sym called ∙ ap (calls_for calls) (sym (eqb-true j k same)) ∙ silent))
      other j silent false same = same

  -- so the ring is lawful where the phase has no mark
  pub turned-free : (head : Head) (to until : ℕ) → IsHead plan head → head.at ≤ 104000 → head.since + (phase_at plan head.phase).least ≤ to → to ≤ head.since + (phase_at plan head.phase).greatest
      → head.at ≤ to → IsLawful (freed plan k) (turned plan (stops_at plan calls) head to until)
  turned-free head to until h reach least greatest spent =
      let free : ℕ → Bool = λ i. i == k in
      let low = same-field plan free (λ (q : Phase). q.least) (λ q b. refl) head.phase in
      let high = same-field plan free (λ (q : Phase). q.greatest) (λ q b. refl) head.phase in
      let two : 2 ≤ length (freed plan k) = omega (arith, p.count.0, length-without plan free) in
      subst (IsLawful (freed plan k)) (same-turned plan free (stops_at plan calls) head to until)
      (turned-lawful (freed plan k) (stops_at plan calls) (phases-without plan free p.phases) two passes head to until (omega (arith, h.phase, length-without plan free)) (omega (arith, least, low)) (omega (arith, greatest, high)))

-- The turning of a ring that stops at all unmarked phases, and maybe at others: it is lawful, and ends late enough.
use Rattle.std.proofs.Common.{◌≡◌, ℕ, zero, suc, ◌+◌, ◌-◌, ◌<◌, ◌≤◌, Bool, true, eqb, cond, ltb, List, [], ◌∷◌, ◌++◌, length, All, refl, sym, ap, ◌∙◌, arith, append_assoc}
use Rattle.std.proofs.Math.Bool.{or-false}
use Rattle.std.proofs.lemmas.Bool.{cond_below, cond_above, cond_both, eqb-true, ltb-true, ltb-false, or_parts}
use Rattle.std.proofs.lemmas.List.{nil_from_length}
use Rattle.std.proofs.lemmas.List.Elements.{All-nil, All-cons, All-get_or, All-weaker}
use Rattle.phase_plan.specs.Phases.{IsMarkedAt, IsPhase, IsRing, first_up, no_phase, is_unmarked_at, phase_at}
use Rattle.phase_plan.specs.declared.Phase.{Phase}
use Rattle.phase_plan.proofs.RingLaws.{IsFirstUp, PassesMarked, first-stop, first-up, passes-marked, phase-bounds}
use Rattle.switch_rules.specs.Serving.{IsHead}
use Rattle.switch_rules.specs.declared.Head.{Head}
use Rattle.control_flow.specs.declared.greens.Green.{Green}
use Rattle.control_flow.specs.Greens.{end_of, IsGreen, IsLawful, GoesOn, BeginBy}
use Rattle.control_flow.specs.Timelines.{calls_for, green_after, stops_at, turning, turned}
use Rattle.control_flow.proofs.RowLaws.{lawful-nil, lawful-cons}

-- the phases at which a ring stops that stops at the called ones too

-- it passes over marked phases alone
pub passes-called : (plan : List Phase) (calls : List ℕ) → PassesMarked plan (stops_at plan calls)
passes-called plan calls k e = passes-marked plan k (or_parts (is_unmarked_at plan k) (calls_for calls k) e).0

-- without calls it stops at the unmarked ones
pub none-called : (plan : List Phase) → stops_at plan [] ≡ is_unmarked_at plan
none-called plan = λ i k. or-false (is_unmarked_at plan k) i

pub first-uncalled : (plan : List Phase) (calls : List ℕ) (s : ℕ) → eqb (length calls) 0 ≡ true → first_up plan (is_unmarked_at plan) s ≡ first_up plan (stops_at plan calls) s
first-uncalled plan calls s e =
    ap (λ (stops : ℕ → Bool). first_up plan stops s) (sym (none-called plan))
    ∙ ap (λ (cs : List ℕ). first_up plan (stops_at plan cs) s) (sym (nil_from_length calls (eqb-true (length calls) 0 e)))

-- its next stop is a phase of the plan
pub next-below : (plan : List Phase) (calls : List ℕ) (s k : ℕ) → IsRing plan → s < length plan → k ≡ first_up plan (stops_at plan calls) s → k < length plan
next-below plan calls s k p h is = (let below = (first-up plan (stops_at plan calls) s p (passes-called plan calls) h).below in omega (arith, is, below))

-- what the timelines from a head have in common
pub record IsLineFrom (plan : List Phase) (head : Head) (until : ℕ) (rows : List Green) : Type 0 where
  pub lawful : IsLawful plan rows
  pub begin : GoesOn head rows
  pub end : until < end_of rows

alone : (plan : List Phase) (row : Green) → IsGreen plan row → IsLawful plan (row ∷ [])
alone plan row green = lawful-cons plan row [] green (λ h. absurd (omega arith)) (lawful-nil plan)

-- where the phases are in bounds, two at least
module _ (plan : List Phase) (stops : ℕ → Bool) (all : All IsPhase plan) (two : 2 ≤ length plan) (passes : PassesMarked plan stops) where
  first-of : (s : ℕ) → s < length plan → IsFirstUp (IsMarkedAt plan) plan s (first_up plan stops s)
  first-of s h = first-stop (IsMarkedAt plan) plan stops passes s h two

  -- a green of the ring after a row

  green-of : (s to : ℕ) → s < length plan → IsGreen plan (green_after plan stops s to)
  green-of s to h =
      let below = (first-of s h).below in
      let times = All-get_or IsPhase plan (first_up plan stops s) no_phase below all in
      record { phase = below; least = omega arith; greatest = omega (arith, times.greatest) }

  turning-lawful : (until most : ℕ) (row : Green) → IsGreen plan row → IsLawful plan (row ∷ turning plan stops most until row.phase row.to)
  turning-lawful until zero row green = alone plan row green
  turning-lawful until (suc most) row green =
      let next = green_after plan stops row.phase row.to in
      let up = first-of row.phase green.phase in
      let later = turning-lawful until most next (green-of row.phase row.to green.phase) in
      cond_both (ltb until row.to) [] (next ∷ turning plan stops most until next.phase next.to) (λ rows. IsLawful plan (row ∷ rows))
      (λ e. alone plan row green)
      (λ e. lawful-cons plan row (next ∷ turning plan stops most until next.phase next.to) green (λ h. record { passed = up.passed; other = up.other; begins = omega arith }) later)

  -- and of the ring as it turns from a head
  pub turned-lawful : (head : Head) (to until : ℕ) → head.phase < length plan → head.since + (phase_at plan head.phase).least ≤ to → to ≤ head.since + (phase_at plan head.phase).greatest
      → IsLawful plan (turned plan stops head to until)
  turned-lawful head to until phase least greatest =
      let row : Green = record { phase = head.phase; from = head.since; to = to } in
      let green : IsGreen plan row = record { phase = phase; least = least; greatest = greatest } in
      turning-lawful until (until + 1) row green

module _ (plan : List Phase) (stops : ℕ → Bool) (p : IsRing plan) (passes : PassesMarked plan stops) where
  first-below : (s : ℕ) → s < length plan → first_up plan stops s < length plan
  first-below s h = (first-up plan stops s p passes h).below

  green_after-later : (s to : ℕ) → s < length plan → to + 1 ≤ (green_after plan stops s to).to
  green_after-later s to h = let times = phase-bounds plan (first_up plan stops s) p (first-below s h) in omega (arith, times.least)

  turning-end : (until most : ℕ) (row : Green) → row.phase < length plan → until + 1 ≤ most + row.to → until < end_of (row ∷ turning plan stops most until row.phase row.to)
  turning-end until zero row h enough = omega arith
  turning-end until (suc most) row h enough =
      let next = green_after plan stops row.phase row.to in
      let later = green_after-later row.phase row.to h in
      let others = turning-end until most next (first-below row.phase h) (omega (arith, later)) in
      cond_both (ltb until row.to) [] (next ∷ turning plan stops most until next.phase next.to) (λ rows. until < end_of (row ∷ rows))
      (λ e. ltb-true until row.to e)
      (λ e. others)

  turning-by : (until most s to : ℕ) → s < length plan → BeginBy (until + 20) (turning plan stops most until s to)
  turning-by until zero s to h = All-nil (λ (row : Green). row.from ≤ until + 20)
  turning-by until (suc most) s to h =
      let next = green_after plan stops s to in
      let times = phase-bounds plan s p h in
      let others = turning-by until most next.phase next.to (first-below s h) in
      cond_both (ltb until to) [] (next ∷ turning plan stops most until next.phase next.to) (BeginBy (until + 20))
      (λ e. All-nil (λ (row : Green). row.from ≤ until + 20))
      (λ e.
      let over = ltb-false until to e in
      All-cons (λ (row : Green). row.from ≤ until + 20) next (turning plan stops most until next.phase next.to) (omega (arith, times.yellow, times.clear, over)) others)

  -- enough greens are enough
  turning-enough : (until m n s to : ℕ) → s < length plan → until + 1 ≤ m + to → until + 1 ≤ n + to → turning plan stops m until s to ≡ turning plan stops n until s to
  turning-enough until zero zero s to h a b = refl
  turning-enough until zero (suc n) s to h a b =
      let next = green_after plan stops s to in
      cond_below until to [] (next ∷ turning plan stops n until next.phase next.to) (omega arith)
  turning-enough until (suc m) zero s to h a b =
      let next = green_after plan stops s to in
      sym (cond_below until to [] (next ∷ turning plan stops m until next.phase next.to) (omega arith))
  turning-enough until (suc m) (suc n) s to h a b =
      let next = green_after plan stops s to in
      let later = green_after-later s to h in
      let same = turning-enough until m n next.phase next.to (first-below s h) (omega (arith, later)) (omega (arith, later)) in
      ap (λ (rows : List Green). cond (ltb until to) [] (next ∷ rows)) same

  -- the next green of the ring, where the row does not end after `until`
  turning-step : (until s to : ℕ) → s < length plan → to ≤ until
      → turning plan stops (until + 1 - to) until s to
      ≡ green_after plan stops s to ∷ turning plan stops (until + 1 - (green_after plan stops s to).to) until (green_after plan stops s to).phase (green_after plan stops s to).to
  turning-step until s to below h =
      let next = green_after plan stops s to in
      let m = until + 1 - to in
      let later = green_after-later s to below in
      turning-enough until m (suc m) s to below (omega arith) (omega arith)
      ∙ sym (cond_above until to [] (next ∷ turning plan stops m until next.phase next.to) (next ∷ turning plan stops m until next.phase next.to) h refl)
      ∙ ap (λ (rows : List Green). next ∷ rows) (turning-enough until m (until + 1 - next.to) next.phase next.to (first-below s below) (omega (arith, later)) (omega arith))

  pub turning-more : (until s to : ℕ) (next : Green) (rows whole : List Green) → s < length plan → to ≤ until → next ≡ green_after plan stops s to
      → rows ++ turning plan stops (until + 1 - to) until s to ≡ whole → (rows ++ next ∷ []) ++ turning plan stops (until + 1 - next.to) until next.phase next.to ≡ whole
  turning-more until s to next rows whole below h is so_far =
      append_assoc rows (next ∷ []) (turning plan stops (until + 1 - next.to) until next.phase next.to)
      ∙ ap (λ (g : Green). rows ++ g ∷ turning plan stops (until + 1 - g.to) until g.phase g.to) is
      ∙ ap (λ (rs : List Green). rows ++ rs) (sym (turning-step until s to below h))
      ∙ so_far

  -- the begin of the turning
  pub turned-is : (head : Head) (to until : ℕ) → head.phase < length plan
      → turned plan stops head to until ≡ record { phase = head.phase; from = head.since; to = to } ∷ turning plan stops (until + 1 - to) until head.phase to
  turned-is head to until h =
      let row : Green = record { phase = head.phase; from = head.since; to = to } in
      ap (λ (rows : List Green). row ∷ rows) (turning-enough until (until + 1) (until + 1 - to) head.phase to h (omega arith) (omega arith))

  -- a green of a head that is held up to a second within its bounds
  pub turned-line : (head : Head) (to until : ℕ) → IsHead plan head → head.at ≤ 104000 → head.since + (phase_at plan head.phase).least ≤ to → to ≤ head.since + (phase_at plan head.phase).greatest
      → head.at ≤ to → IsLineFrom plan head until (turned plan stops head to until)
  turned-line head to until h reach least greatest spent =
      let row : Green = record { phase = head.phase; from = head.since; to = to } in
      record {
        lawful = turned-lawful plan stops p.phases p.count.0 passes head to until h.phase least greatest;
        begin = record { some = omega arith; phase = refl; begin = refl; spent = spent };
        end = turning-end until (until + 1) row h.phase (omega arith);
      }

  pub turned-by : (head : Head) (to until n : ℕ) → head.phase < length plan → head.since ≤ n → until + 20 ≤ n → BeginBy n (turned plan stops head to until)
  turned-by head to until n h since last =
      let row : Green = record { phase = head.phase; from = head.since; to = to } in
      let rows = turning plan stops (until + 1) until head.phase to in
      let more = λ (r : Green) (e : r.from ≤ until + 20). let weaker : r.from ≤ n = omega arith in weaker in
      All-cons (λ (r : Green). r.from ≤ n) row rows since (All-weaker (λ (r : Green). r.from ≤ until + 20) (λ (r : Green). r.from ≤ n) more rows (turning-by until (until + 1) head.phase to h))

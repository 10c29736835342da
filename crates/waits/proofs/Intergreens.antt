-- The intergreens of the timelines that controllers make.
use Rattle.std.proofs.Common.{◌≡◌, ℕ, zero, suc, ◌+◌, ◌<◌, ◌≤◌, ◌⊎◌, Bool, ltb, List, [], ◌∷◌, ◌++◌, length, Some, refl, sym, ap, subst, ◌∙◌, inl, inr, arith, All}
use Rattle.std.proofs.lemmas.Bool.{cases_lt, cond_above, cond_below, cond_both}
use Rattle.phase_plan.specs.Phases.{IsRing, is_unmarked_at, passed_numbers, passing, phase_at, IsPhase}
use Rattle.phase_plan.specs.declared.Phase.{Phase}
use Rattle.switch_rules.specs.Serving.{IsHead, earliest_green, head_after}
use Rattle.switch_rules.specs.declared.Head.{Head}
use Rattle.switch_rules.specs.declared.Served.{Served}
use Rattle.control_flow.specs.Greens.{GoesOn, IsLawful, head_at, row_after, row_at, rows_before, spliced}
use Rattle.control_flow.specs.Timelines.{AreServings, begin_after, green_after, last_end, left_for, line_of, shortest_greens, turned, turning}
use Rattle.control_flow.specs.declared.greens.Green.{Green}
use Rattle.control_flow.proofs.OrderLaws.{green-lasts}
use Rattle.control_flow.proofs.RingLaws.{begin_after-passed}
use Rattle.control_flow.proofs.RowLaws.{lawful-first, lawful-tail}
use Rattle.control_flow.proofs.ServingLaws.{IsServingOf-head, IsServingOf-keeps}
use Rattle.control_flow.proofs.MakingLaws.{line_of-line}
use Rattle.control_flow.proofs.SpliceLaws.{IsRowOf, begins-later, row-of-head}
use Rattle.waits.specs.Waits.{BeginSoon, AreIntergreensWithin, longest_intergreen}

module _ (intergreen : ℕ → ℕ) where
  pub intergreens-nil : AreIntergreensWithin intergreen []
  intergreens-nil = record { next = λ k h. absurd (omega (arith, h)) }

  cons-next : (row : Green) (rows : List Green) → (0 < length rows → (row_at rows 0).from ≤ row.to + intergreen row.phase) → AreIntergreensWithin intergreen rows
      → (k : ℕ) → k + 1 < length (row ∷ rows) → (row_at (row ∷ rows) (k + 1)).from ≤ (row_at (row ∷ rows) k).to + intergreen (row_at (row ∷ rows) k).phase
  cons-next row rows first others zero h = first (omega (arith, h))
  cons-next row rows first others (suc k) h =
      let e : suc (k + 1) ≡ suc k + 1 = omega arith in
      subst (λ i. (row_at (row ∷ rows) i).from ≤ (row_at rows k).to + intergreen (row_at rows k).phase) e (others.next k (omega (arith, h)))

  pub intergreens-cons : (row : Green) (rows : List Green) → (0 < length rows → (row_at rows 0).from ≤ row.to + intergreen row.phase) → AreIntergreensWithin intergreen rows → AreIntergreensWithin intergreen (row ∷ rows)
  intergreens-cons row rows first others = record { next = cons-next row rows first others }

  intergreens-alone : (row : Green) → AreIntergreensWithin intergreen (row ∷ [])
  intergreens-alone row = intergreens-cons row [] (λ h. absurd (omega (arith, h))) intergreens-nil

  pub intergreens-tail : (row : Green) (rows : List Green) → AreIntergreensWithin intergreen (row ∷ rows) → AreIntergreensWithin intergreen rows
  intergreens-tail row rows intergreens = record {
    next = λ k h.
        let e : suc k + 1 ≡ suc (k + 1) = omega arith in
        subst (λ i. (row_at (row ∷ rows) i).from ≤ (row_at rows k).to + intergreen (row_at rows k).phase) e (intergreens.next (suc k) (omega (arith, h)));
  }

-- intergreens within equal bounds
pub intergreens-same : (some other : ℕ → ℕ) → ((k : ℕ) → some k ≡ other k) → (rows : List Green) → AreIntergreensWithin some rows → AreIntergreensWithin other rows
intergreens-same some other same rows within = record { next = λ i h. omega (arith, within.next i h, same (row_at rows i).phase) }

-- the ring turns with yellow and all-red alone

module _ (plan : List Phase) (look : ℕ) where
  turning-intergreens : (stops : ℕ → Bool) (until most : ℕ) (row : Green) → AreIntergreensWithin (longest_intergreen plan look) (row ∷ turning plan stops most until row.phase row.to)
  turning-intergreens stops until zero row = intergreens-alone (longest_intergreen plan look) row
  turning-intergreens stops until (suc most) row =
      let next = green_after plan stops row.phase row.to in
      let rows = next ∷ turning plan stops most until next.phase next.to in
      cond_both (ltb until row.to) [] rows (λ rs. AreIntergreensWithin (longest_intergreen plan look) (row ∷ rs))
      (λ e. intergreens-alone (longest_intergreen plan look) row)
      (λ e. intergreens-cons (longest_intergreen plan look) row rows (λ h. omega arith) (turning-intergreens stops until most next))

  pub turned-intergreens : (stops : ℕ → Bool) (head : Head) (to until : ℕ) → AreIntergreensWithin (longest_intergreen plan look) (turned plan stops head to until)
  turned-intergreens stops head to until = turning-intergreens stops until (until + 1) (record { phase = head.phase; from = head.since; to = to })

  -- the ring passes to a green that begins as early as it can, or soon after the row
  shortest-intergreens : (ks : List ℕ) (row : Green) (b : ℕ) (rows : List Green) → (0 < length rows → (row_at rows 0).from ≡ b)
      → (b ≤ begin_after plan (row.to + (phase_at plan row.phase).yellow + (phase_at plan row.phase).clear) ks) ⊎ (b ≤ row.to + look) → AreIntergreensWithin (longest_intergreen plan look) rows
      → AreIntergreensWithin (longest_intergreen plan look) (row ∷ shortest_greens plan (row.to + (phase_at plan row.phase).yellow + (phase_at plan row.phase).clear) ks ++ rows)
  shortest-intergreens [] row b rows begins soon others =
      intergreens-cons (longest_intergreen plan look) row rows (λ h. elim soon [ inl tight ↦ omega (arith, begins h, tight) | inr near ↦ omega (arith, begins h, near) ]) others
  shortest-intergreens (k ∷ ks) row b rows begins soon others =
      let from = row.to + (phase_at plan row.phase).yellow + (phase_at plan row.phase).clear in
      let first : Green = record { phase = k; from = from; to = from + (phase_at plan k).least } in
      let same : from + passing (phase_at plan k) ≡ first.to + (phase_at plan k).yellow + (phase_at plan k).clear = omega arith in
      let next : (b ≤ begin_after plan (first.to + (phase_at plan k).yellow + (phase_at plan k).clear) ks) ⊎ (b ≤ first.to + look) = elim soon [
        | inl tight ↦ inl (omega (arith, tight, ap (λ t. begin_after plan t ks) same))
        | inr near ↦ inr (omega (arith, near))
      ] in
      let later = shortest-intergreens ks first b rows begins next others in
      intergreens-cons (longest_intergreen plan look) row (first ∷ shortest_greens plan (from + passing (phase_at plan k)) ks ++ rows) (λ h. omega arith) (rw same later)

  module _ (p : IsRing plan) where
    left-intergreens : (head : Head) (k b by : ℕ) (rows : List Green) → (0 < length rows → (row_at rows 0).from ≡ b) → by ≤ head.at + look → (b ≤ by) ⊎ (b ≡ earliest_green plan head k) → AreIntergreensWithin (longest_intergreen plan look) rows
        → AreIntergreensWithin (longest_intergreen plan look) (left_for plan head (last_end plan head k b) (passed_numbers plan head.phase k) ++ rows)
    left-intergreens head k b by rows begins near soon others =
        let to = last_end plan head k b in
        let row : Green = record { phase = head.phase; from = head.since; to = to } in
        shortest-intergreens (passed_numbers plan head.phase k) row b rows begins
        (elim soon [
          | inl early ↦ inr (omega (arith, early, near))
          | inr tight ↦ inl (omega (arith, tight, begin_after-passed plan to head.phase k))
        ])
        others

    pub line-intergreens : (ks : List ℕ) (ss : List Served) (head : Head) (by until : ℕ) → IsHead plan head → head.at ≤ 104000 → AreServings plan head ks ss → by ≤ head.at + look → BeginSoon plan by head ks ss
        → AreIntergreensWithin (longest_intergreen plan look) (line_of plan head ks ss until)
    line-intergreens [] ss head by until h reach servings near soon = turned-intergreens (is_unmarked_at plan) head (head.since + (phase_at plan head.phase).greatest) until
    line-intergreens (k ∷ ks) [] head by until h reach servings near soon = absurd servings
    line-intergreens (k ∷ ks) (s ∷ ss) head by until h reach servings near soon =
        let one = servings.0 in
        let keeps = IsServingOf-keeps plan head k s p h one in
        let next = head_after k s in
        let behind = IsServingOf-head plan head k s p h one in
        let rows = line_of plan next ks ss until in
        let line = line_of-line plan ks ss next until p behind (omega (arith, keeps.reach)) servings.1 in
        let others = λ (later : head.at ≤ next.at). line-intergreens ks ss next by until behind (omega (arith, keeps.reach)) servings.1 (omega (arith, near, later)) soon.1 in
        cond_both s.kept rows (left_for plan head (last_end plan head k s.green) (passed_numbers plan head.phase k) ++ rows) (AreIntergreensWithin (longest_intergreen plan look))
        (λ e. others (keeps.stood e).2)
        (λ e. left-intergreens head k s.green by rows (λ some. line.begin.begin) near (soon.0 e) (others (omega (arith, keeps.anew e, keeps.begun))))

-- a splice keeps the intergreens

module _ (plan : List Phase) (p : All IsPhase plan) (intergreen : ℕ → ℕ) where
  pub kept-none : (r first : Green) (rs : List Green) → first.from ≡ r.from → rows_before (r ∷ rs) first.from ≡ []
  kept-none r first rs e = sym (cond_above r.from first.from (r ∷ rows_before rs first.from) [] [] (omega (arith, e)) refl)

  pub kept-more : (r first : Green) (rs : List Green) → r.from < first.from → rows_before (r ∷ rs) first.from ≡ r ∷ rows_before rs first.from
  kept-more r first rs h = sym (cond_below r.from first.from (r ∷ rows_before rs first.from) [] h)

  pub past-row : (r : Green) (rs : List Green) (now : ℕ) (row first : Green) → IsLawful plan (r ∷ rs) → row_after (r ∷ rs) now ≡ Some row → first.from ≡ row.from → r.to ≤ now
      → (row_after rs now ≡ Some row) × (r.from < first.from)
  past-row r rs now row first lawful e same h =
      let found = cond_above now r.to (Some r) (row_after rs now) (row_after rs now) h refl ∙ e in
      let later = begins-later plan r rs now row lawful found in
      let long = green-lasts plan r p (lawful-first plan r rs lawful) in
      (found, omega (arith, same, later, long))

  -- the first of what is kept, or else of what comes after it, begins as the old one does
  pub first-from : (old : List Green) (now : ℕ) (row first : Green) (more : List Green) → IsLawful plan old → row_after old now ≡ Some row → first.from ≡ row.from
      → (row_at (rows_before old first.from ++ first ∷ more) 0).from ≡ (row_at old 0).from
  first-from [] now row first more lawful e same = let impossible : (row_at (first ∷ more) 0).from ≡ 0 = cc in impossible
  first-from (r ∷ rs) now row first more lawful e same = elim (cases_lt now r.to) [
    | inl h ↦
        let f = cond_below now r.to (Some r) (row_after rs now) h in
        let is : r ≡ row = cc in
        let from : first.from ≡ r.from = same ∙ sym (ap (λ (g : Green). g.from) is) in
        rw (kept-none r first rs from) from
    | inr h ↦ rw (kept-more r first rs (past-row r rs now row first lawful e same h).1) refl
  ]

  splice-intergreens : (old : List Green) (now : ℕ) (row first : Green) (more : List Green) → IsLawful plan old → row_after old now ≡ Some row → first.from ≡ row.from → AreIntergreensWithin intergreen old → AreIntergreensWithin intergreen (first ∷ more)
      → AreIntergreensWithin intergreen (rows_before old first.from ++ first ∷ more)
  splice-intergreens [] now row first more lawful e same before next = next
  splice-intergreens (r ∷ rs) now row first more lawful e same before next = elim (cases_lt now r.to) [
    | inl h ↦
        let f = cond_below now r.to (Some r) (row_after rs now) h in
        let is : r ≡ row = cc in
        let from : first.from ≡ r.from = same ∙ sym (ap (λ (g : Green). g.from) is) in
        rw (kept-none r first rs from) next
    | inr h ↦
        let (found, below) = past-row r rs now row first lawful e same h in
        let tail = lawful-tail plan r rs lawful in
        let others = splice-intergreens rs now row first more tail found same (intergreens-tail intergreen r rs before) next in
        let begins = first-from rs now row first more tail found same in
        rw (kept-more r first rs below) (intergreens-cons intergreen r (rows_before rs first.from ++ first ∷ more) (λ some. by rs found (before.next 0) begins) others)
  ]
    where
      by : (rs : List Green) → row_after rs now ≡ Some row → (0 + 1 < length (r ∷ rs) → (row_at (r ∷ rs) (0 + 1)).from ≤ r.to + intergreen r.phase) → (row_at (rows_before rs first.from ++ first ∷ more) 0).from ≡ (row_at rs 0).from
          → (row_at (rows_before rs first.from ++ first ∷ more) 0).from ≤ r.to + intergreen r.phase
      by [] found next begins = let impossible : (row_at (rows_before [] first.from ++ first ∷ more) 0).from ≤ r.to + intergreen r.phase = cc in impossible
      by (x ∷ xs) found next begins = omega (arith, begins, next (omega arith))

  pub spliced-intergreens : (old next : List Green) (now : ℕ) (head : Head) → IsLawful plan old → head_at plan old now ≡ Some head → GoesOn head next → AreIntergreensWithin intergreen old → AreIntergreensWithin intergreen next → AreIntergreensWithin intergreen (spliced old next)
  spliced-intergreens old [] now head lawful at goes before intergreens = before
  spliced-intergreens old (first ∷ more) now head lawful at goes before intergreens =
      let row : IsRowOf plan old now head = row-of-head plan old now head at in
      splice-intergreens old now row.row first more lawful row.found (goes.begin ∙ row.since) before intergreens

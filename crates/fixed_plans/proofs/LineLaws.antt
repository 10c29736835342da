-- The timeline of a cycle.
use Rattle.std.proofs.Common.{◌≡◌, ℕ, zero, suc, ◌+◌, ◌-◌, ◌*◌, ◌%◌, ◌<◌, ◌≤◌, ◌⊎◌, cond, List, [], ◌∷◌, ◌++◌, length, take, All, Option, Some, None, filter_map, map, sum_by, ltb, refl, sym, ap, subst, ◌∙◌, inl, inr, arith, eq-eqb, suc-mul, append-nil}
use Rattle.std.specs.List.{cons_option, range_with_len}
use Rattle.std.specs.Option.{option_map}
use Rattle.std.proofs.lemmas.Bool.{cases_lt, cond_above, cond_below, ne_eqb}
use Rattle.std.proofs.lemmas.List.{take_all}
use Rattle.std.proofs.lemmas.List.Elements.{All-from_get_or, All-get_or, All-head, All-tail, filter_map-append}
use Rattle.std.proofs.lemmas.List.Sums.{sum_by-cons, sum_by_more, sum_by_more_le, get_or-le-sum_by}
use Rattle.std.proofs.lemmas.Nat.{mod-mul-add, mod_below}
use Rattle.phase_plan.specs.Phases.{IsRing, no_phase, phase_at}
use Rattle.phase_plan.specs.declared.Phase.{Phase}
use Rattle.control_flow.specs.Greens.{Follows, IsGreen, IsLawful, end_of}
use Rattle.control_flow.specs.declared.greens.Green.{Green}
use Rattle.control_flow.proofs.RowLaws.{end_of-last, lawful-cons, lawful-first, lawful-nil, lawful-tail}
use Rattle.net_parts.specs.Numbers.{Net}
use Rattle.net_parts.specs.Outline.{plan_at}
use Rattle.net_simulator.specs.Sums.{end_of_run}
use Rattle.net_simulator.specs.Worlds.{line_in}
use Rattle.std.proofs.lemmas.List.FromFn.{get_or-map-range_with_len, map-range_with_len_more}
use Rattle.fixed_plans.specs.declared.rows.FixedRow.{FixedRow}
use Rattle.fixed_plans.specs.Cycles.{IsCycle}
use Rattle.fixed_plans.specs.Lines.{beginning, cycle_length, cycle_line, cycle_second, green_from, green_of, offset_of, rows_of, span}
use Rattle.fixed_plans.specs.Rows.{IsFixedPlan}
use Rattle.road_net.specs.Network.{IsNetwork}
use Rattle.fixed_plans.proofs.CycleLaws.{ComesAfter, IsShown, cycle-of, cycle-shown, next-after, no_row, round-after, row_in}

-- one second more
range-more : (a n : ℕ) → range_with_len a (n + 1) ≡ range_with_len a n ++ (a + n) ∷ []
range-more a zero = let e : a ≡ a + 0 = omega arith in ap (λ x. x ∷ []) e
range-more a (suc n) =
    let e : a + 1 + n ≡ a + suc n = omega arith in
    let next : suc n + 1 ≡ suc (n + 1) = omega arith in
    ap (range_with_len a) next ∙ ap (λ l. a ∷ l) (range-more (a + 1) n ∙ ap (λ x. range_with_len (a + 1) n ++ x ∷ []) e)

module _ (begins : ℕ → Option Green) where
  -- the greens that begin up to a second
  abbrev begun : ℕ → List Green
  begun n = filter_map begins (range_with_len 0 n)

  begun-more : (n : ℕ) → begun (n + 1) ≡ begun n ++ filter_map begins (n ∷ [])
  begun-more n =
      let e : 0 + n ≡ n = omega arith in
      ap (filter_map begins) (range-more 0 n ∙ ap (λ x. range_with_len 0 n ++ x ∷ []) e) ∙ filter_map-append begins (range_with_len 0 n) (n ∷ [])

  begun-none : (n : ℕ) → begins n ≡ None → begun (n + 1) ≡ begun n
  begun-none n none = begun-more n ∙ ap (λ (o : Option Green). begun n ++ cons_option o []) none ∙ append-nil (begun n)

  begun-one : (n : ℕ) (g : Green) → begins n ≡ Some g → begun (n + 1) ≡ begun n ++ g ∷ []
  begun-one n g one = begun-more n ∙ ap (λ (o : Option Green). begun n ++ cons_option o []) one

  -- none begins for some seconds
  begun-quiet : (n m : ℕ) → ((x : ℕ) → n ≤ x → x < n + m → begins x ≡ None) → begun (n + m) ≡ begun n
  begun-quiet n zero none = let e : n + 0 ≡ n = omega arith in ap begun e
  begun-quiet n (suc m) none =
      let e : n + suc m ≡ n + m + 1 = omega arith in
      ap begun e ∙ begun-none (n + m) (none (n + m) (omega arith) (omega arith)) ∙ begun-quiet n m (λ x from to. none x from (omega (arith, to)))

module _ (plan : List Phase) where
  abbrev pub HasSpan : FixedRow → Type 0
  HasSpan r = 0 < span plan r

  -- which row begins at a second of the cycle
  early-none : (at : ℕ) (rows : List FixedRow) (s : ℕ) → s < at → beginning plan at rows s ≡ None
  early-none at [] s early = refl
  early-none at (r ∷ rows) s early =
      ap (λ b. cond b (Some r) (beginning plan (at + span plan r) rows s)) (ne_eqb s at (λ e. omega (arith, early, e)))
      ∙ early-none (at + span plan r) rows s (omega (arith, early))

  pub begin-here : (at : ℕ) (rows : List FixedRow) (i s : ℕ) → All HasSpan rows → i < length rows → s ≡ at + sum_by (span plan) (take i rows) → beginning plan at rows s ≡ Some (row_in rows i)
  begin-here at [] i s long below is = absurd (omega (arith, below))
  begin-here at (r ∷ rows) zero s long below is = ap (λ b. cond b (Some r) (beginning plan (at + span plan r) rows s)) (eq-eqb s at (omega (arith, is)))
  begin-here at (r ∷ rows) (suc i) s long below is =
      let first = All-head HasSpan r rows long in
      let sums = sum_by-cons (span plan) r (take i rows) in
      ap (λ b. cond b (Some r) (beginning plan (at + span plan r) rows s)) (ne_eqb s at (λ e. omega (arith, is, e, first, sums)))
      ∙ begin-here (at + span plan r) rows i s (All-tail HasSpan r rows long) (omega (arith, below)) (omega (arith, is, sums))

  begin-none : (at : ℕ) (rows : List FixedRow) (i s : ℕ) → i < length rows → at + sum_by (span plan) (take i rows) < s → s < at + sum_by (span plan) (take i rows) + span plan (row_in rows i) → beginning plan at rows s ≡ None
  begin-none at [] i s below from to = absurd (omega (arith, below))
  begin-none at (r ∷ rows) zero s below from to =
      ap (λ b. cond b (Some r) (beginning plan (at + span plan r) rows s)) (ne_eqb s at (λ e. omega (arith, from, e)))
      ∙ early-none (at + span plan r) rows s (omega (arith, to))
  begin-none at (r ∷ rows) (suc i) s below from to =
      let sums = sum_by-cons (span plan) r (take i rows) in
      ap (λ b. cond b (Some r) (beginning plan (at + span plan r) rows s)) (ne_eqb s at (λ e. omega (arith, from, e, sums)))
      ∙ begin-none (at + span plan r) rows i s (omega (arith, below)) (omega (arith, from, sums)) (omega (arith, to, sums))

-- a lawful line with one green more
lawful-push : (plan : List Phase) (front : List Green) (last next : Green) → IsLawful plan (front ++ last ∷ []) → IsGreen plan next → Follows plan last next → IsLawful plan ((front ++ last ∷ []) ++ next ∷ [])
lawful-push plan [] last next lawful green follows =
    lawful-cons plan last (next ∷ []) (lawful-first plan last [] lawful) (λ h. follows) (lawful-cons plan next [] green (λ h. absurd (omega (arith, h))) (lawful-nil plan))
lawful-push plan (x ∷ []) last next lawful green follows =
    lawful-cons plan x (last ∷ next ∷ []) (lawful-first plan x (last ∷ []) lawful) (λ h. lawful.order 0 (omega arith)) (lawful-push plan [] last next (lawful-tail plan x (last ∷ []) lawful) green follows)
lawful-push plan (x ∷ y ∷ front) last next lawful green follows =
    lawful-cons plan x (((y ∷ front) ++ last ∷ []) ++ next ∷ []) (lawful-first plan x ((y ∷ front) ++ last ∷ []) lawful) (λ h. lawful.order 0 (omega arith))
    (lawful-push plan (y ∷ front) last next (lawful-tail plan x ((y ∷ front) ++ last ∷ []) lawful) green follows)

-- how far the greens of a line are known that is made up to a second, from the seconds since `lead` seconds before second 0
pub record IsReach (lead until at n : ℕ) : Type 0 where
  pub within : at < until → lead ≤ at → n + lead ≡ at
  pub early : at ≤ lead → n ≡ 0
  pub after : until ≤ at → n + lead ≡ until

reach-below : (lead until at n x : ℕ) → IsReach lead until at n → x < n → x + lead < at
reach-below lead until at n x is below = elim (cases_lt at until) [
  | inl b ↦
      elim (cases_lt at lead) [
        | inl e ↦ absurd (omega (arith, below, is.early (omega (arith, e))))
        | inr l ↦ omega (arith, below, is.within b l)
      ]
  | inr a ↦ omega (arith, below, a, is.after a)
]

reach-above : (lead until at n x : ℕ) → IsReach lead until at n → x + lead < at → x + lead < until → x < n
reach-above lead until at n x is first second = elim (cases_lt at until) [
  | inl b ↦
      elim (cases_lt at lead) [
        | inl e ↦ absurd (omega (arith, e, first))
        | inr l ↦ omega (arith, first, is.within b l)
      ]
  | inr a ↦ omega (arith, second, is.after a)
]

reach-some : (lead until at : ℕ) → lead < until → (n : ℕ) × IsReach lead until at n
reach-some lead until at some = elim (cases_lt at until) [
  | inl b ↦ (at - lead, record { within = λ _ l. omega (arith, l); early = λ e. omega (arith, e); after = λ a. absurd (omega (arith, a, b)) })
  | inr a ↦ (until - lead, record { within = λ b l. absurd (omega (arith, a, b)); early = λ e. absurd (omega (arith, a, e, some)); after = λ _. omega (arith, some) })
]

-- the place in a cycle, some whole cycles after its begin
pub record IsPlace (plan : List Phase) (cycle : List FixedRow) (at i : ℕ) : Type 0 where
  pub below : i < length cycle
  pub turns : ℕ
  pub base : ℕ
  pub whole : base ≡ turns * cycle_length plan cycle
  pub is_at : at ≡ base + sum_by (span plan) (take i cycle)

-- the last green of a line, after which the next row may come
pub record IsEnded (plan : List Phase) (cycle : List FixedRow) (lead : ℕ) (rows : List Green) (at i : ℕ) : Type 0 where
  pub front : List Green
  pub last : Green
  pub are : rows ≡ front ++ last ∷ []
  pub clear : last.to + (phase_at plan last.phase).yellow + (phase_at plan last.phase).clear + lead ≡ at
  pub order : last.from < last.to
  pub recent : at ≤ lead + last.from + cycle_length plan cycle
  pub next : ComesAfter plan last.phase (row_in cycle i).phase

-- how far a line is made
pub record IsUnderway (plan : List Phase) (cycle : List FixedRow) (lead until : ℕ) (rows : List Green) (at i : ℕ) : Type 0 where
  pub place : IsPlace plan cycle at i
  pub reach : ℕ
  pub reaches : IsReach lead until at reach
  pub value : rows ≡ begun (green_from plan cycle) reach
  pub lawful : IsLawful plan rows
  pub ended : ((rows ≡ []) × (at < lead + cycle_length plan cycle)) ⊎ IsEnded plan cycle lead rows at i

module _ (plan : List Phase) (cycle : List FixedRow) (p : IsRing plan) (is : IsCycle plan cycle) where
  shown : All (IsShown plan) cycle
  shown = cycle-shown plan 0 cycle is.from

  -- a row is shown for at least a second, and at most for the cycle
  pub green-some : (i : ℕ) → i < length cycle → 0 < (row_in cycle i).green
  green-some i below =
      let row : IsShown plan (row_in cycle i) = All-get_or (IsShown plan) cycle i no_row below shown in
      omega (arith, row.green.least, (p.phases (row_in cycle i).phase no_phase row.exists).least.0)

  pub long : All (HasSpan plan) cycle
  long = All-from_get_or (HasSpan plan) cycle no_row (λ i below. omega (arith, green-some i below))

  pub span-most : (i : ℕ) → i < length cycle → span plan (row_in cycle i) ≤ cycle_length plan cycle
  span-most i below = get_or-le-sum_by (span plan) cycle i no_row below

  -- the place of the next row
  place-next : (at i next : ℕ) → next ≡ cond (ltb (i + 1) (length cycle)) (i + 1) 0 → IsPlace plan cycle at i
      → IsPlace plan cycle (at + span plan (row_in cycle i)) next × ComesAfter plan (row_in cycle i).phase (row_in cycle next).phase
  place-next at i next is_next place =
      let Moves : ℕ → Type 0 = λ k. IsPlace plan cycle (at + span plan (row_in cycle i)) k × ComesAfter plan (row_in cycle i).phase (row_in cycle k).phase in
      let more = sum_by_more (span plan) cycle i no_row place.below in
      elim (cases_lt (i + 1) (length cycle)) [
        | inl h ↦ subst Moves (cond_below (i + 1) (length cycle) (i + 1) 0 h ∙ sym is_next) (record { below = h; turns = place.turns; base = place.base; whole = place.whole; is_at = omega (arith, place.is_at, more) }, next-after plan cycle i h is)
        | inr h ↦
            let last : i + 1 ≡ length cycle = omega (arith, h, place.below) in
            let all = ap (sum_by (span plan)) (take_all (i + 1) cycle h) in
            subst Moves (cond_above (i + 1) (length cycle) (i + 1) 0 0 h refl ∙ sym is_next)
            (record { below = omega (arith, is.some); turns = suc place.turns; base = place.base + cycle_length plan cycle; whole = ap (λ b. b + cycle_length plan cycle) place.whole ∙ suc-length place.turns; is_at = omega (arith, place.is_at, more, all) }, round-after plan cycle i last is)
      ]
    where
      suc-length : (n : ℕ) → n * cycle_length plan cycle + cycle_length plan cycle ≡ suc n * cycle_length plan cycle
      suc-length n = omega (arith, suc-mul n (cycle_length plan cycle))

  module _ (lead : ℕ) (leads : lead ≡ cycle_length plan cycle - offset_of cycle % cycle_length plan cycle) where
    second-of : (x turns s : ℕ) → x + lead ≡ turns * cycle_length plan cycle + s → s < cycle_length plan cycle → cycle_second (cycle_length plan cycle) (offset_of cycle) x ≡ s
    second-of x turns s at below =
        ap (λ n. (x + n) % cycle_length plan cycle) (sym leads) ∙ ap (λ n. n % cycle_length plan cycle) at ∙ mod-mul-add turns (cycle_length plan cycle) s below

    -- which green begins at a second, and when none does
    green-here : (x at i : ℕ) → IsPlace plan cycle at i → x + lead ≡ at → green_from plan cycle x ≡ Some (green_of x (row_in cycle i))
    green-here x at i place same =
        let s = sum_by (span plan) (take i cycle) in
        let within : s < cycle_length plan cycle = omega (arith, sum_by_more_le (span plan) cycle i no_row place.below, All-get_or (HasSpan plan) cycle i no_row place.below long) in
        ap (λ n. option_map (green_of x) (beginning plan 0 cycle n)) (second-of x place.turns s (same ∙ place.is_at ∙ ap (λ b. b + s) place.whole) within)
        ∙ ap (option_map (green_of x)) (begin-here plan 0 cycle i s long place.below (omega arith))

    green-none : (x at i : ℕ) → IsPlace plan cycle at i → at < x + lead → x + lead < at + span plan (row_in cycle i) → green_from plan cycle x ≡ None
    green-none x at i place from to =
        let first = sum_by (span plan) (take i cycle) in
        let s = x + lead - place.base in
        let split : x + lead ≡ place.base + s = omega (arith, place.is_at, from) in
        let within : s < cycle_length plan cycle = omega (arith, sum_by_more_le (span plan) cycle i no_row place.below, place.is_at, to) in
        ap (λ n. option_map (green_of x) (beginning plan 0 cycle n)) (second-of x place.turns s (split ∙ ap (λ b. b + s) place.whole) within)
        ∙ ap (option_map (green_of x)) (begin-none plan 0 cycle i s place.below (omega (arith, place.is_at, from)) (omega (arith, place.is_at, to)))

    module _ (until at i : ℕ) (place : IsPlace plan cycle at i) (more : at < until) where
      abbrev row : FixedRow
      row = row_in cycle i

      -- the greens that begin before the next row may
      value-step : (n m : ℕ) (rows : List Green) → IsReach lead until at n → IsReach lead until (at + span plan row) m → rows ≡ begun (green_from plan cycle) n
          → rows ++ cond (ltb at lead) [] (green_of (at - lead) row ∷ []) ≡ begun (green_from plan cycle) m
      value-step n m rows old new is_value = elim (cases_lt at lead) [
        | inl early ↦
            let none : n ≡ 0 = old.early (omega (arith, early)) in
            let e : m ≡ 0 + m = omega arith in
            ap (λ l. rows ++ l) (sym (cond_below at lead [] (green_of (at - lead) row ∷ []) early)) ∙ append-nil rows ∙ is_value ∙ ap (begun (green_from plan cycle)) none
            ∙ sym (ap (begun (green_from plan cycle)) e ∙ begun-quiet (green_from plan cycle) 0 m (λ x from to. green-none x at i place (omega (arith, early)) (reach-below lead until (at + span plan row) m x new (omega (arith, to)))))
        | inr late ↦
            let here : n + lead ≡ at = old.within more late in
            let long_row : 0 < span plan row = All-get_or (HasSpan plan) cycle i no_row place.below long in
            let below : n < m = reach-above lead until (at + span plan row) m n new (omega (arith, here, long_row)) (omega (arith, here, more)) in
            let k = m - (n + 1) in
            let e : m ≡ n + 1 + k = omega (arith, below) in
            let from : at - lead ≡ n = omega (arith, here, late) in
            ap (λ l. rows ++ l) (sym (cond_above at lead [] (green_of (at - lead) row ∷ []) (green_of (at - lead) row ∷ []) late refl)) ∙ ap (λ x. rows ++ green_of x row ∷ []) from
            ∙ ap (λ l. l ++ green_of n row ∷ []) is_value
            ∙ sym (begun-one (green_from plan cycle) n (green_of n row) (green-here n at i place here))
            ∙ sym (ap (begun (green_from plan cycle)) e ∙ begun-quiet (green_from plan cycle) (n + 1) k (λ x least to. green-none x at i place (omega (arith, least, here)) (reach-below lead until (at + span plan row) m x new (omega (arith, to, e)))))
      ]

      -- the green of the row, from a second on
      green-is : (from : ℕ) → IsGreen plan (green_of from row)
      green-is from =
          let is_row : IsShown plan row = All-get_or (IsShown plan) cycle i no_row place.below shown in
          record { phase = is_row.exists; least = omega (arith, is_row.green.least); greatest = omega (arith, is_row.green.greatest) }

      module _ (next : ℕ) (is_next : next ≡ cond (ltb (i + 1) (length cycle)) (i + 1) 0) where
        after : ComesAfter plan row.phase (row_in cycle next).phase
        after = (place-next at i next is_next place).1

        -- a green is added, or it is too early for that
        ended-late : (rows : List Green) → lead ≤ at → IsEnded plan cycle lead (rows ++ green_of (at - lead) row ∷ []) (at + span plan row) next
        ended-late rows late = record {
          front = rows;
          last = green_of (at - lead) row;
          are = refl;
          clear = omega (arith, late);
          order = omega (arith, green-some i place.below);
          recent = omega (arith, late, span-most i place.below);
          next = after;
        }

        lawful-late : (rows : List Green) → lead ≤ at → IsLawful plan rows → ((rows ≡ []) × (at < lead + cycle_length plan cycle)) ⊎ IsEnded plan cycle lead rows at i → IsLawful plan (rows ++ green_of (at - lead) row ∷ [])
        lawful-late rows late lawful (inl none) =
            subst (λ l. IsLawful plan (l ++ green_of (at - lead) row ∷ [])) (sym none.0) (lawful-cons plan (green_of (at - lead) row) [] (green-is (at - lead)) (λ h. absurd (omega (arith, h))) (lawful-nil plan))
        lawful-late rows late lawful (inr ended) =
            subst (λ l. IsLawful plan (l ++ green_of (at - lead) row ∷ [])) (sym ended.are)
            (lawful-push plan ended.front ended.last (green_of (at - lead) row) (subst (IsLawful plan) ended.are lawful) (green-is (at - lead))
            (record { passed = ended.next.marked; other = ended.next.other; begins = omega (arith, ended.clear, late) }))

        ended-early : (rows : List Green) → at < lead → ((rows ≡ []) × (at < lead + cycle_length plan cycle)) ⊎ IsEnded plan cycle lead rows at i
            → (rows ++ [] ≡ []) × (at + span plan row < lead + cycle_length plan cycle)
        ended-early rows early (inl none) = (append-nil rows ∙ none.0, omega (arith, early, span-most i place.below))
        ended-early rows early (inr ended) = absurd (omega (arith, early, ended.clear))

  -- one row more
  one-more : (lead until at i next : ℕ) (rows new : List Green) → lead ≡ cycle_length plan cycle - offset_of cycle % cycle_length plan cycle → lead < until → at < until
      → next ≡ cond (ltb (i + 1) (length cycle)) (i + 1) 0 → new ≡ rows ++ cond (ltb at lead) [] (green_of (at - lead) (row_in cycle i) ∷ [])
      → IsUnderway plan cycle lead until rows at i → IsUnderway plan cycle lead until new (at + span plan (row_in cycle i)) next
  one-more lead until at i next rows new leads some more is_next is_new under =
      let (reach, reaches) = reach-some lead until (at + span plan (row_in cycle i)) some in
      let Moves : List Green → Type 0 = λ l. IsLawful plan l × (((l ≡ []) × (at + span plan (row_in cycle i) < lead + cycle_length plan cycle)) ⊎ IsEnded plan cycle lead l (at + span plan (row_in cycle i)) next) in
      let g = green_of (at - lead) (row_in cycle i) in
      let moves : Moves (rows ++ cond (ltb at lead) [] (g ∷ [])) =
      elim (cases_lt at lead) [
        | inl early ↦
            subst (λ l. Moves (rows ++ l)) (cond_below at lead [] (g ∷ []) early)
            (subst (IsLawful plan) (sym (append-nil rows)) under.lawful, inl (ended-early lead leads until at i under.place more next is_next rows early under.ended))
        | inr late ↦
            subst (λ l. Moves (rows ++ l)) (cond_above at lead [] (g ∷ []) (g ∷ []) late refl)
            (lawful-late lead leads until at i under.place more next is_next rows late under.lawful under.ended, inr (ended-late lead leads until at i under.place more next is_next rows late))
      ] in
      let both : Moves new = subst Moves (sym is_new) moves in
      record {
        place = (place-next at i next is_next under.place).0;
        reach = reach;
        reaches = reaches;
        value = is_new ∙ value-step lead leads until at i under.place more under.reach reach rows under.reaches reaches under.value;
        lawful = both.0;
        ended = both.1;
      }

  pub line-step : (lead until at i next step : ℕ) (rows new : List Green) → lead ≡ cycle_length plan cycle - offset_of cycle % cycle_length plan cycle → lead < until → at < until
      → step ≡ span plan (row_in cycle i) → next ≡ cond (ltb (i + 1) (length cycle)) (i + 1) 0 → new ≡ rows ++ cond (ltb at lead) [] (green_of (at - lead) (row_in cycle i) ∷ [])
      → IsUnderway plan cycle lead until rows at i → IsUnderway plan cycle lead until new (at + step) next
  line-step lead until at i next step rows new leads some more is_step is_next is_new under =
      subst (λ n. IsUnderway plan cycle lead until new (at + n) next) (sym is_step) (one-more lead until at i next rows new leads some more is_next is_new under)

  -- the begin of the line
  pub line-none : (lead until : ℕ) → 0 < lead → lead < until → IsUnderway plan cycle lead until [] 0 0
  line-none lead until first some = record {
    place = record { below = omega (arith, is.some); turns = 0; base = 0; whole = omega arith; is_at = refl };
    reach = 0;
    reaches = record { within = λ b l. absurd (omega (arith, l, first)); early = λ e. refl; after = λ a. absurd (omega (arith, a, some)) };
    value = refl;
    lawful = lawful-nil plan;
    ended = inl (refl, omega (arith, first));
  }

  pub line-begin : (lead until : ℕ) (rows : List Green) → rows ≡ [] → 0 < lead → lead < until → IsUnderway plan cycle lead until rows 0 0
  line-begin lead until rows none first some = subst (λ l. IsUnderway plan cycle lead until l 0 0) (sym none) (line-none lead until first some)

  -- the whole line
  pub line-value : (lead until end at i : ℕ) (rows : List Green) → until ≡ lead + end + cycle_length plan cycle → until ≤ at → IsUnderway plan cycle lead until rows at i → rows ≡ cycle_line plan cycle end
  line-value lead until end at i rows whole over under =
      let all : under.reach ≡ end + cycle_length plan cycle = omega (arith, whole, under.reaches.after over) in
      under.value ∙ ap (begun (green_from plan cycle)) all

  pub line-end : (lead until end at i : ℕ) (rows : List Green) → until ≡ lead + end + cycle_length plan cycle → until ≤ at → IsUnderway plan cycle lead until rows at i → end < end_of rows
  line-end lead until end at i rows whole over under = by under.ended
    where
      by : ((rows ≡ []) × (at < lead + cycle_length plan cycle)) ⊎ IsEnded plan cycle lead rows at i → end < end_of rows
      by (inl none) = absurd (omega (arith, none.1, whole, over))
      by (inr ended) =
          let last : end_of rows ≡ ended.last.to = ap end_of ended.are ∙ end_of-last ended.front (ended.last ∷ []) (omega arith) in
          omega (arith, last, ended.order, ended.recent, whole, over)

-- the offset is that of the first row
offset-first : (rows : List FixedRow) → (row_in rows 0).offset ≡ offset_of rows
offset-first [] = refl
offset-first (r ∷ rows) = refl

-- a cycle has a row
some-row : (plan : List Phase) (cycle : List FixedRow) → IsCycle plan cycle → 0 < length cycle
some-row plan cycle is = omega (arith, is.some)

-- how long before second 0 a cycle begins
pub record IsLead (plan : List Phase) (cycle : List FixedRow) (lead : ℕ) : Type 0 where
  pub is : lead ≡ cycle_length plan cycle - offset_of cycle % cycle_length plan cycle
  pub some : 0 < lead
  pub most : lead ≤ cycle_length plan cycle
  pub whole : 0 < cycle_length plan cycle

pub lead-of : (plan : List Phase) (cycle : List FixedRow) → IsRing plan → IsCycle plan cycle → (length : ℕ) → length ≡ cycle_length plan cycle → IsLead plan cycle (length - (row_in cycle 0).offset % length)
lead-of plan cycle p is length same =
    let whole : 0 < cycle_length plan cycle = omega (arith, get_or-le-sum_by (span plan) cycle 0 no_row (some-row plan cycle is), green-some plan cycle p is 0 (some-row plan cycle is)) in
    let equal : length - (row_in cycle 0).offset % length ≡ cycle_length plan cycle - offset_of cycle % cycle_length plan cycle =
    ap (λ n. n - (row_in cycle 0).offset % n) same ∙ ap (λ o. cycle_length plan cycle - o % cycle_length plan cycle) (offset-first cycle) in
    let below = mod_below (offset_of cycle) (cycle_length plan cycle) whole in
    record { is = equal; some = omega (arith, equal, below); most = omega (arith, equal); whole = whole }

-- the rows of a node of a fixed plan are a cycle
pub own-cycle : (net : Net) → IsNetwork net → (rows : List FixedRow) (node : ℕ) → node < length net.node_names → IsFixedPlan net rows → IsCycle (plan_at net node) (rows_of rows node)
own-cycle net network rows node below is = cycle-of net node rows below is

-- the timeline of a node
pub record IsLineOf (net : Net) (node : ℕ) (line : List Green) : Type 0 where
  pub lawful : IsLawful (plan_at net node) line
  pub end : end_of_run net < end_of line

-- one node more
pub lines-push : (line_of : ℕ → List Green) (n : ℕ) (line : List Green) (lines new : List (List Green)) → line ≡ line_of n → new ≡ lines ++ line ∷ [] → lines ≡ map line_of (range_with_len 0 n) → new ≡ map line_of (range_with_len 0 (n + 1))
lines-push line_of n line lines new is push are =
    push ∙ ap (λ l. l ++ line ∷ []) are ∙ ap (λ x. map line_of (range_with_len 0 n) ++ x ∷ []) is ∙ sym (map-range_with_len_more line_of 0 n n (omega arith))

pub lines-more : (net : Net) (line_of : ℕ → List Green) (n : ℕ) (line : List Green) → line ≡ line_of n → IsLawful (plan_at net n) line → end_of_run net < end_of line
    → ((k : ℕ) → k < n → IsLineOf net k (line_of k)) → (k : ℕ) → k < n + 1 → IsLineOf net k (line_of k)
lines-more net line_of n line is lawful end all k below = elim (cases_lt k n) [
  | inl h ↦ all k h
  | inr h ↦ let last : n ≡ k = omega (arith, h, below) in subst (λ j. IsLineOf net j (line_of j)) last (subst (IsLineOf net n) is (record { lawful = lawful; end = end }))
]

-- the line of each node in the list of all
pub line-at : (net : Net) (line_of : ℕ → List Green) (nodes : ℕ) (lines : List (List Green)) → lines ≡ map line_of (range_with_len 0 nodes) → ((k : ℕ) → k < nodes → IsLineOf net k (line_of k))
    → (k : ℕ) → k < nodes → IsLineOf net k (line_in lines k)
line-at net line_of nodes lines are all k below =
    subst (IsLineOf net k) (sym (ap (λ l. line_in l k) are ∙ get_or-map-range_with_len line_of 0 nodes k k [] below (omega arith))) (all k below)

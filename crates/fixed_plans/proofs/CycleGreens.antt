-- In each length of a cycle each row has its green.
use Rattle.std.proofs.Common.{◌≡◌, ℕ, zero, suc, ◌+◌, ◌-◌, ◌*◌, ◌/◌, ◌%◌, ◌<◌, ◌≤◌, Bool, true, eqb, leb, ltb, ◌&&◌, ◌==◌, List, length, take, Option, Some, None, filter_map, sum_by, refl, sym, ap, subst, ◌∙◌, inl, inr, arith, eq-eqb, div-add-mod', suc-mul}
use Rattle.std.specs.List.{cons_option, list_any, range_with_len}
use Rattle.std.specs.Option.{option_map}
use Rattle.std.proofs.lemmas.Bool.{and_from, cases_lt, le-leb, lt-ltb, or_left, or_right}
use Rattle.std.proofs.lemmas.List.Elements.{All-get_or}
use Rattle.std.proofs.lemmas.List.Sums.{sum_by_more_le}
use Rattle.std.proofs.lemmas.Nat.{mod-mul-add, mod_below}
use Rattle.std.proofs.lemmas.List.{get_or_default}
use Rattle.std.specs.Prelude.{Contains}
use Rattle.net_parts.specs.Numbers.{Net}
use Rattle.net_parts.specs.Outline.{plan_at}
use Rattle.net_simulator.specs.Sums.{end_of_run}
use Rattle.phase_plan.specs.Phases.{IsRing}
use Rattle.road_net.specs.Network.{IsNetwork}
use Rattle.signal_safety.proofs.Lines.{plan-is}
use Rattle.fixed_plans.specs.Rows.{IsFixedPlan}
use Rattle.fixed_plans.proofs.LineLaws.{HasSpan, begin-here, green-some, long, own-cycle}
use Rattle.phase_plan.specs.declared.Phase.{Phase}
use Rattle.control_flow.specs.Greens.{covers, row_at}
use Rattle.control_flow.specs.declared.greens.Green.{Green}
use Rattle.fixed_plans.specs.Cycles.{IsCycle}
use Rattle.fixed_plans.specs.Lines.{beginning, cycle_length, cycle_line, cycle_second, fixed_line, green_from, green_of, offset_of, rows_of, span}
use Rattle.fixed_plans.specs.declared.rows.FixedRow.{FixedRow}
use Rattle.fixed_plans.proofs.CycleLaws.{no_row, row_in}
use Rattle.waits.specs.Waits.{IsGreenBy}

-- what a list by seconds has
module _ (f : ℕ → Option Green) (test : Green → Bool) where
  any-cons : (o : Option Green) (rows : List Green) → list_any test rows ≡ true → list_any test (cons_option o rows) ≡ true
  any-cons None rows e = e
  any-cons (Some g) rows e = or_right (test g) (list_any test rows) e

  any-of : (n a y : ℕ) (g : Green) → a ≤ y → y < a + n → f y ≡ Some g → test g ≡ true → list_any test (filter_map f (range_with_len a n)) ≡ true
  any-of zero a y g low high is passes = absurd (omega (arith, low, high))
  any-of (suc n) a y g low high is passes = elim (cases_lt a y) [
    | inl later ↦ any-cons (f a) (filter_map f (range_with_len (a + 1) n)) (any-of n (a + 1) y g (omega (arith, later)) (omega (arith, high)) is passes)
    | inr now ↦
        let e : a ≡ y = omega (arith, low, now) in
        ap (λ (o : Option Green). list_any test (cons_option o (filter_map f (range_with_len (a + 1) n)))) (ap f e ∙ is) ∙ or_left (test g) (list_any test (filter_map f (range_with_len (a + 1) n))) passes
  ]

module _ (plan : List Phase) (cycle : List FixedRow) (p : IsRing plan) (is : IsCycle plan cycle) where
  abbrev lasts : ℕ
  lasts = cycle_length plan cycle

  -- a green of row i begins within a length of the cycle of a second
  pub record BeginsBy (end i second : ℕ) : Type 0 where
    pub at : ℕ
    pub after : second ≤ at
    pub before : at ≤ second + cycle_length plan cycle
    pub inside : at < end + cycle_length plan cycle
    pub begins : green_from plan cycle at ≡ Some (green_of at (row_in cycle i))

  shows : (i end second y : ℕ) → i < length cycle → second ≤ y → y ≤ second + lasts → y < end + lasts → cycle_second lasts (offset_of cycle) y ≡ sum_by (span plan) (take i cycle) → BeginsBy end i second
  shows i end second y below low high inside at = record {
    at = y;
    after = low;
    before = high;
    inside = inside;
    begins = ap (λ (n : ℕ). option_map (green_of y) (beginning plan 0 cycle n)) at ∙ ap (option_map (green_of y)) (begin-here plan 0 cycle i (sum_by (span plan) (take i cycle)) (long plan cycle p is) below (omega arith));
  }

  -- some whole lengths and a place in the cycle
  second-of : (y turns s : ℕ) → y + (lasts - offset_of cycle % lasts) ≡ turns * lasts + s → s < lasts → cycle_second lasts (offset_of cycle) y ≡ s
  second-of y turns s at below = ap (λ (n : ℕ). n % lasts) at ∙ mod-mul-add turns lasts s below

  pub comes : (i end second : ℕ) → i < length cycle → second ≤ end → BeginsBy end i second
  comes i end second below early =
      let s = sum_by (span plan) (take i cycle) in
      let within : s < lasts = omega (arith, sum_by_more_le (span plan) cycle i no_row below, All-get_or (HasSpan plan) cycle i no_row below (long plan cycle p is)) in
      let whole : 0 < lasts = omega (arith, within) in
      let at = second + (lasts - offset_of cycle % lasts) in
      let c = at % lasts in
      let turns = at / lasts in
      let parts = div-add-mod' at lasts in
      let less : c < lasts = mod_below at lasts whole in
      elim (cases_lt s c) [
        | inl past ↦
            let y = second + (lasts + s - c) in
            shows i end second y below (omega arith) (omega (arith, past)) (omega (arith, early, past, less, within)) (second-of y (suc turns) s (omega (arith, parts, past, less, suc-mul turns lasts)) within)
        | inr ahead ↦
            let y = second + (s - c) in
            shows i end second y below (omega arith) (omega (arith, within)) (omega (arith, early, within)) (second-of y turns s (omega (arith, parts, ahead)) within)
      ]

  -- the phase is green as its green begins
  pub green-by : (i end second : ℕ) → i < length cycle → second ≤ end → IsGreenBy (cycle_line plan cycle end) (row_in cycle i).phase second (second + cycle_length plan cycle)
  green-by i end second below early =
      let row = row_in cycle i in
      let k = row.phase in
      let by = comes i end second below early in
      let covered : ((eqb k k) && covers (green_of by.at row) by.at) ≡ true = and_from (eqb k k) (covers (green_of by.at row) by.at) (eq-eqb k k refl) (and_from (leb by.at by.at) (ltb by.at (by.at + row.green)) (le-leb by.at by.at (omega arith)) (lt-ltb by.at (by.at + row.green) (omega (arith, green-some plan cycle p is i below)))) in
      record { second = by.at; after = by.after; before = by.before; green = any-of (green_from plan cycle) (λ (g : Green). (g.phase == k) && covers g by.at) (end + lasts) 0 by.at (green_of by.at row) (omega arith) (omega (arith, by.inside)) by.begins covered }

-- for the rows of a node
pub cycles-come : (net : Net) → IsNetwork net → (rows : List FixedRow) → IsFixedPlan net rows → (node : ℕ) → node < length net.node_names → (row : FixedRow) → Contains (rows_of rows node) row → (second : ℕ) → second ≤ end_of_run net
    → IsGreenBy (fixed_line net rows node) row.phase second (second + cycle_length (plan_at net node) (rows_of rows node))
cycles-come net network rows is node below row has second early =
    let at : row_in (rows_of rows node) has.0 ≡ row = get_or_default (rows_of rows node) has.0 no_row row has.1 ∙ has.2 in
    subst (λ (r : FixedRow). IsGreenBy (fixed_line net rows node) r.phase second (second + cycle_length (plan_at net node) (rows_of rows node))) at
    (green-by (plan_at net node) (rows_of rows node) (plan-is net network node below) (own-cycle net network rows node below is) has.0 (end_of_run net) second has.1 early)

-- where a line has a green
pub record IsPlaced (rows : List Green) (g : Green) : Type 0 where
  pub index : ℕ
  pub below : index < length rows
  pub at : row_at rows index ≡ g

module _ (f : ℕ → Option Green) where
  place-cons : (o : Option Green) (rows : List Green) (g : Green) → IsPlaced rows g → IsPlaced (cons_option o rows) g
  place-cons None rows g placed = placed
  place-cons (Some first) rows g placed = record { index = suc placed.index; below = (let h = placed.below in omega (arith, h)); at = placed.at }

  -- each green that is made has its place
  pub place-of : (n a y : ℕ) (g : Green) → a ≤ y → y < a + n → f y ≡ Some g → IsPlaced (filter_map f (range_with_len a n)) g
  place-of zero a y g low high is = absurd (omega (arith, low, high))
  place-of (suc n) a y g low high is = elim (cases_lt a y) [
    | inl later ↦ place-cons (f a) (filter_map f (range_with_len (a + 1) n)) g (place-of n (a + 1) y g (omega (arith, later)) (omega (arith, high)) is)
    | inr now ↦
        let e : a ≡ y = omega (arith, low, now) in
        subst (λ (o : Option Green). IsPlaced (cons_option o (filter_map f (range_with_len (a + 1) n))) g) (sym (ap f e ∙ is)) (record { index = 0; below = omega arith; at = refl })
  ]

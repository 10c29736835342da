-- In the timeline of a cycle each red of a phase is the cycle less its green.
use Rattle.std.proofs.Common.{◌≡◌, ℕ, zero, suc, ◌+◌, ◌-◌, ◌*◌, ◌/◌, ◌%◌, ◌<◌, ◌≤◌, cond, eqb, List, [], ◌∷◌, length, take, Option, Some, None, filter_map, find, sum_by, refl, sym, ap, ◌∙◌, inl, inr, arith, eqb-true, div-add-mod', suc-mul, zero-add}
use Rattle.std.specs.List.{cons_option, range_with_len}
use Rattle.std.specs.Option.{option_map}
use Rattle.std.proofs.lemmas.Bool.{cases_Bool, cases_lt}
use Rattle.std.proofs.lemmas.List.Sums.{sum_by-cons}
use Rattle.std.proofs.lemmas.Option.{none-some, same_Some}
use Rattle.std.proofs.Math.Nat.{add-mod_right, mul-le-mul_right}
use Rattle.control_flow.specs.Greens.{row_at}
use Rattle.control_flow.specs.declared.greens.Green.{Green}
use Rattle.net_parts.specs.Numbers.{Net}
use Rattle.net_parts.specs.Outline.{plan_at}
use Rattle.net_simulator.specs.Sums.{end_of_run}
use Rattle.phase_plan.specs.Phases.{IsRing}
use Rattle.phase_plan.specs.declared.Phase.{Phase}
use Rattle.road_net.specs.Network.{IsNetwork}
use Rattle.signal_safety.proofs.Lines.{plan-is}
use Rattle.fixed_plans.specs.Cycles.{IsCycle, IsCycleFrom}
use Rattle.fixed_plans.specs.Lines.{beginning, cycle_length, cycle_line, cycle_second, fixed_line, green_from, green_of, offset_of, rows_of, span}
use Rattle.fixed_plans.specs.Reds.{AreReds, HasReds, cycle_red, fixed_red}
use Rattle.fixed_plans.specs.Rows.{IsFixedPlan}
use Rattle.fixed_plans.specs.declared.rows.FixedRow.{FixedRow}
use Rattle.fixed_plans.proofs.CycleGreens.{place-of}
use Rattle.fixed_plans.proofs.CycleLaws.{row_in}
use Rattle.fixed_plans.proofs.FixedWaits.{IsFound, found}
use Rattle.fixed_plans.proofs.LineLaws.{green-some, own-cycle, span-most}

-- where a row of a line comes from
record ComesFrom (f : ℕ → Option Green) (a n : ℕ) (g : Green) : Type 0 where
  at : ℕ
  low : a ≤ at
  high : at < a + n
  is : f at ≡ Some g

module _ (f : ℕ → Option Green) where
  origin-cons : (a n : ℕ) (o : Option Green) (rows : List Green) (i : ℕ) → f a ≡ o → i < length (cons_option o rows)
      → ((j : ℕ) → j < length rows → ComesFrom f (a + 1) n (row_at rows j)) → ComesFrom f a (suc n) (row_at (cons_option o rows) i)
  origin-cons a n None rows i e below all = let it = all i below in record { at = it.at; low = (let h = it.low in omega (arith, h)); high = (let h = it.high in omega (arith, h)); is = it.is }
  origin-cons a n (Some g) rows zero e below all = record { at = a; low = omega arith; high = omega arith; is = e }
  origin-cons a n (Some g) rows (suc i) e below all =
      let it = all i (omega (arith, below)) in
      record { at = it.at; low = (let h = it.low in omega (arith, h)); high = (let h = it.high in omega (arith, h)); is = it.is }

  origin : (n a i : ℕ) → i < length (filter_map f (range_with_len a n)) → ComesFrom f a n (row_at (filter_map f (range_with_len a n)) i)
  origin zero a i below = absurd (omega (arith, below))
  origin (suc n) a i below = origin-cons a n (f a) (filter_map f (range_with_len (a + 1) n)) i refl below (λ j h. origin n (a + 1) j h)

-- the row that begins with a second of a cycle
record IsBegun (plan : List Phase) (at : ℕ) (rows : List FixedRow) (s : ℕ) (r : FixedRow) : Type 0 where
  index : ℕ
  below : index < length rows
  row : row_in rows index ≡ r
  second : s ≡ at + sum_by (span plan) (take index rows)

begun-of : (plan : List Phase) (at : ℕ) (rows : List FixedRow) (s : ℕ) (r : FixedRow) → beginning plan at rows s ≡ Some r → IsBegun plan at rows s r
begun-of plan at [] s r e = absurd (none-some r e)
begun-of plan at (x ∷ rows) s r e = elim (cases_Bool (eqb s at)) [
  | inl here ↦
      let own : x ≡ r = same_Some x r (sym (ap (λ b. cond b (Some x) (beginning plan (at + span plan x) rows s)) here) ∙ e) in
      record { index = 0; below = omega arith; row = own; second = omega (arith, eqb-true s at here) }
  | inr other ↦
      let later = begun-of plan (at + span plan x) rows s r (sym (ap (λ b. cond b (Some x) (beginning plan (at + span plan x) rows s)) other) ∙ e) in
      let sums = sum_by-cons (span plan) x (take later.index rows) in
      record { index = suc later.index; below = (let h = later.below in omega (arith, h)); row = later.row; second = (let h = later.second in omega (arith, h, sums)) }
]

-- phases rise along the rows of a cycle, so that no two are of one phase
rises-from : (plan : List Phase) (low j : ℕ) (rows : List FixedRow) → j < length rows → IsCycleFrom plan low rows → low ≤ (row_in rows j).phase
rises-from plan low j [] below is = absurd (omega (arith, below))
rises-from plan low zero (r ∷ rows) below is = is.0.later
rises-from plan low (suc j) (r ∷ rows) below is = omega (arith, is.0.later, rises-from plan (r.phase + 1) j rows (omega (arith, below)) is.2)

rises : (plan : List Phase) (low i j : ℕ) (rows : List FixedRow) → i < j → j < length rows → IsCycleFrom plan low rows → (row_in rows i).phase < (row_in rows j).phase
rises plan low i j [] less below is = absurd (omega (arith, below))
rises plan low i zero (r ∷ rows) less below is = absurd (omega (arith, less))
rises plan low zero (suc j) (r ∷ rows) less below is = omega (arith, rises-from plan (r.phase + 1) j rows (omega (arith, below)) is.2)
rises plan low (suc i) (suc j) (r ∷ rows) less below is = rises plan (r.phase + 1) i j rows (omega (arith, less)) (omega (arith, below)) is.2

one-row : (plan : List Phase) (rows : List FixedRow) (i j : ℕ) → i < length rows → j < length rows → IsCycleFrom plan 0 rows → (row_in rows i).phase ≡ (row_in rows j).phase → i ≡ j
one-row plan rows i j low high is same = elim (cases_lt i j) [
  | inl less ↦ absurd (omega (arith, same, rises plan 0 i j rows less high is))
  | inr most ↦ elim (cases_lt j i) [
    | inl more ↦ absurd (omega (arith, same, rises plan 0 j i rows more low is))
    | inr least ↦ omega (arith, most, least)
  ]
]

-- two seconds of the same place in a cycle are a length of it apart at the least
a-length-apart : (length lead x y : ℕ) → 0 < length → (x + lead) % length ≡ (y + lead) % length → x < y → x + length ≤ y
a-length-apart length lead x y some same less =
    let first = div-add-mod' (x + lead) length in
    let second = div-add-mod' (y + lead) length in
    let a : ℕ = (x + lead) / length in
    let b : ℕ = (y + lead) / length in
    elim (cases_lt a b) [
      | inl before ↦
          let turns : suc a * length ≤ b * length = mul-le-mul_right length (omega (arith, before)) in
          omega (arith, first, second, same, turns, suc-mul a length)
      | inr over ↦
          let turns : b * length ≤ a * length = mul-le-mul_right length over in
          absurd (omega (arith, first, second, same, turns, less))
    ]

module _ (plan : List Phase) (cycle : List FixedRow) (p : IsRing plan) (is : IsCycle plan cycle) (end k red : ℕ) (gives : cycle_red plan cycle k ≡ Some red) where
  abbrev lasts : ℕ
  lasts = cycle_length plan cycle

  abbrev line : List Green
  line = cycle_line plan cycle end

  abbrev lead : ℕ
  lead = lasts - offset_of cycle % lasts

  -- the row of the phase
  record HasRow : Type 0 where
    index : ℕ
    below : index < length cycle
    phase : (row_in cycle index).phase ≡ k
    red_is : lasts - (row_in cycle index).green ≡ red

  has-row : HasRow
  has-row = by (find (λ (row : FixedRow). eqb row.phase k) cycle) refl gives
    where
      by : (o : Option FixedRow) → find (λ (row : FixedRow). eqb row.phase k) cycle ≡ o → option_map (λ (row : FixedRow). lasts - row.green) o ≡ Some red → HasRow
      by None none e = absurd (none-some red e)
      by (Some r) some e =
          let place : IsFound cycle k r = found cycle k r some in
          record {
            index = place.index;
            below = place.below;
            phase = ap (λ (x : FixedRow). x.phase) place.at ∙ place.phase;
            red_is = ap (λ (x : FixedRow). lasts - x.green) place.at ∙ same_Some (lasts - r.green) red e;
          }

  -- the cycle is longer than a green of it
  green-within : (row_in cycle has-row.index).green ≤ lasts
  green-within = omega (arith, span-most plan cycle p is has-row.index has-row.below)

  -- a green of the phase in the line, and its second
  record IsOwn (g : Green) : Type 0 where
    at : ℕ
    from : g.from ≡ at
    to : g.to ≡ at + (row_in cycle has-row.index).green
    begun : beginning plan 0 cycle (cycle_second lasts (offset_of cycle) at) ≡ Some (row_in cycle has-row.index)
    second : cycle_second lasts (offset_of cycle) at ≡ sum_by (span plan) (take has-row.index cycle)

  own : (i : ℕ) → i < length line → (row_at line i).phase ≡ k → IsOwn (row_at line i)
  own i below phase =
      let it = origin (green_from plan cycle) (end + lasts) 0 i below in
      by it.at (row_at line i) phase (beginning plan 0 cycle (cycle_second lasts (offset_of cycle) it.at)) refl it.is
    where
      by : (y : ℕ) (g : Green) → g.phase ≡ k → (o : Option FixedRow) → beginning plan 0 cycle (cycle_second lasts (offset_of cycle) y) ≡ o → option_map (green_of y) o ≡ Some g → IsOwn g
      by y g phase None none e = absurd (none-some g e)
      by y g phase (Some r) some e =
          let b = begun-of plan 0 cycle (cycle_second lasts (offset_of cycle) y) r some in
          let green : green_of y r ≡ g = same_Some (green_of y r) g e in
          let of : (row_in cycle b.index).phase ≡ (row_in cycle has-row.index).phase = ap (λ (x : FixedRow). x.phase) b.row ∙ ap (λ (x : Green). x.phase) green ∙ phase ∙ sym has-row.phase in
          let same : b.index ≡ has-row.index = one-row plan cycle b.index has-row.index b.below has-row.below is.from of in
          let row : r ≡ row_in cycle has-row.index = sym b.row ∙ ap (row_in cycle) same in
          record {
            at = y;
            from = sym (ap (λ (x : Green). x.from) green);
            to = sym (ap (λ (x : Green). x.to) green) ∙ ap (λ (x : FixedRow). y + x.green) row;
            begun = some ∙ ap Some row;
            second = b.second ∙ zero-add (sum_by (span plan) (take b.index cycle)) ∙ ap (λ (m : ℕ). sum_by (span plan) (take m cycle)) same;
          }

  lasts-some : 0 < lasts
  lasts-some =
      let row = span-most plan cycle p is has-row.index has-row.below in
      omega (arith, row, green-some plan cycle p is has-row.index has-row.below)

  pub reds-of_cycle : HasReds (cycle_line plan cycle end) k red end
  reds-of_cycle = record {
    next = λ i below phase late.
        let it = own i below phase in
        let y : ℕ = it.at + lasts in
        let over : (row_at line i).to + red ≡ y = omega (arith, it.to, has-row.red_is, green-within) in
        let turned : cycle_second lasts (offset_of cycle) y ≡ cycle_second lasts (offset_of cycle) it.at =
        ap (λ (n : ℕ). n % lasts) (swap it.at lasts lead) ∙ add-mod_right (it.at + lead) lasts in
        let begins : green_from plan cycle y ≡ Some (green_of y (row_in cycle has-row.index)) =
        ap (λ (s : ℕ). option_map (green_of y) (beginning plan 0 cycle s)) turned ∙ ap (option_map (green_of y)) it.begun in
        let placed = place-of (green_from plan cycle) (end + lasts) 0 y (green_of y (row_in cycle has-row.index)) (omega arith) (omega (arith, late, over, lasts-some)) begins in
        record {
          index = placed.index;
          below = placed.below;
          phase = ap (λ (g : Green). g.phase) placed.at ∙ has-row.phase;
          from = ap (λ (g : Green). g.from) placed.at ∙ sym over;
        };
    none = λ i j low high first second less.
        let a = own i low first in
        let b = own j high second in
        let apart = a-length-apart lasts lead a.at b.at lasts-some (a.second ∙ sym b.second) (omega (arith, less, a.from, b.from)) in
        omega (arith, a.to, b.from, has-row.red_is, green-within, apart);
  }
    where
      swap : (x y z : ℕ) → x + y + z ≡ x + z + y
      swap x y z = omega arith

-- for the nodes of a network
pub fixed-reds : (net : Net) → IsNetwork net → (rows : List FixedRow) → IsFixedPlan net rows → AreReds net (fixed_red net rows) (fixed_line net rows) (end_of_run net)
fixed-reds net network rows is node k red below gives =
    reds-of_cycle (plan_at net node) (rows_of rows node) (plan-is net network node below) (own-cycle net network rows node below is) (end_of_run net) k red gives

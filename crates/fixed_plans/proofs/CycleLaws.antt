-- The rows of one node among those of a fixed plan.
use Rattle.std.proofs.Common.{◌≡◌, ◌≢◌, ℕ, zero, suc, ◌+◌, ◌-◌, ◌<◌, ◌≤◌, ◌⊎◌, Bool, true, false, not, ◌==◌, cond, List, [], ◌∷◌, length, get_or, take, sum_by, All, None, Some, refl, sym, ap, subst, ◌∙◌, inl, inr, arith, eq-eqb}
use Rattle.std.specs.List.{range_with_len}
use Rattle.std.proofs.lemmas.Bool.{cases_lt, cond_below, ne_eqb}
use Rattle.std.proofs.lemmas.List.Elements.{All-nil, All-cons, All-from_get_or, All-get_or}
use Rattle.std.proofs.lemmas.List.Sums.{sum_by-le, sum_by-take-le}
use Rattle.phase_plan.specs.Phases.{IsMarkedAt, IsPhase, IsRing, between, no_phase, phase_at}
use Rattle.phase_plan.specs.declared.Phase.{Phase}
use Rattle.control_flow.proofs.MarkLaws.{all-round}
use Rattle.net_parts.specs.Numbers.{Net}
use Rattle.net_parts.specs.Outline.{plan_at}
use Rattle.fixed_plans.specs.declared.rows.Before.{Before}
use Rattle.fixed_plans.specs.declared.rows.FixedRow.{FixedRow}
use Rattle.fixed_plans.specs.Cycles.{IsCycle, IsCycleFrom}
use Rattle.fixed_plans.specs.Lines.{cycle_length, rows_of, span}
use Rattle.fixed_plans.specs.Rows.{AreMarked, AreRowsAfter, ComesNext, HasGreen, IsEnd, IsFirstFrom, IsFixedPlan, as_before, last_of}

-- nodes rise
next-node : (net : Net) (b : Before) (r : FixedRow) → ComesNext net (Some b) r → b.row.node ≤ r.node
next-node net b r (inl next) = omega (arith, next.0)
next-node net b r (inr next) = omega (arith, next.0)

-- a row of the node, and one of another
own-here : (r : FixedRow) (rows : List FixedRow) (node : ℕ) → r.node ≡ node → rows_of (r ∷ rows) node ≡ r ∷ rows_of rows node
own-here r rows node is = ap (λ test. cond test (r ∷ rows_of rows node) (rows_of rows node)) (eq-eqb r.node node is)

own-other : (r : FixedRow) (rows : List FixedRow) (node : ℕ) → (r.node ≡ node → ⊥) → rows_of (r ∷ rows) node ≡ rows_of rows node
own-other r rows node other = ap (λ test. cond test (r ∷ rows_of rows node) (rows_of rows node)) (ne_eqb r.node node other)

-- after a row there are none of a node before its own
own-none : (net : Net) (b : Before) (rows : List FixedRow) (node : ℕ) → node < b.row.node → AreRowsAfter net (Some b) rows → rows_of rows node ≡ []
own-none net b [] node low are = refl
own-none net b (r ∷ rows) node low are =
    let rises = next-node net b r are.0.next in
    own-other r rows node (λ same. omega (arith, low, rises, same)) ∙ own-none net (as_before (Some b) r) rows node (omega (arith, low, rises)) are.1

-- the rows of a node that come after a row of it, or of a node before it
abbrev Continues : Net → List FixedRow → (node : ℕ) → (b : Before) → (b.row.node ≡ node) ⊎ (b.row.node < node) → Type 0
Continues net rows node b (inl own) = IsCycleFrom (plan_at net node) (b.row.phase + 1) (rows_of rows node)
Continues net rows node b (inr before) = IsCycleFrom (plan_at net node) 0 (rows_of rows node)

-- how many rows of a node are to come at the least after a row of it, or of a node before it
abbrev after_first : Bool → ℕ
after_first first = cond first 1 0

abbrev wanting : (node : ℕ) → (b : Before) → (b.row.node ≡ node) ⊎ (b.row.node < node) → ℕ
wanting node b (inl own) = after_first b.first
wanting node b (inr before) = 2

wanting-one : (first : Bool) → after_first first ≤ 1
wanting-one true = omega arith
wanting-one false = omega arith

module _ (net : Net) (node : ℕ) where
  -- a row of the node begins a cycle
  begins : (low : ℕ) (r : FixedRow) (rows : List FixedRow) → r.node ≡ node → IsFirstFrom (plan_at net r.node) low r.phase → HasGreen (plan_at net r.node) r
      → IsCycleFrom (plan_at net node) (r.phase + 1) (rows_of rows node) → IsCycleFrom (plan_at net node) low (rows_of (r ∷ rows) node)
  begins low r rows is first green others =
      subst (IsCycleFrom (plan_at net node) low) (sym (own-here r rows node is))
      (subst (λ n. IsFirstFrom (plan_at net n) low r.phase) is first, subst (λ n. HasGreen (plan_at net n) r) is green, others)

  passes : (low : ℕ) (r : FixedRow) (rows : List FixedRow) → (r.node ≡ node → ⊥) → IsCycleFrom (plan_at net node) low (rows_of rows node) → IsCycleFrom (plan_at net node) low (rows_of (r ∷ rows) node)
  passes low r rows other is = subst (IsCycleFrom (plan_at net node) low) (sym (own-other r rows node other)) is

  cycle-after : (b : Before) (rows : List FixedRow) (at : (b.row.node ≡ node) ⊎ (b.row.node < node)) → node < length net.node_names → AreRowsAfter net (Some b) rows → IsEnd net (last_of (Some b) rows) → Continues net rows node b at
  cycle-after b [] (inl own) below are end = subst (λ n. AreMarked (plan_at net n) (b.row.phase + 1) (length (plan_at net n))) own end.1.1
  cycle-after b [] (inr before) below are end = absurd (omega (arith, end.0, before, below))
  cycle-after b (r ∷ rows) (inl own) below are end = elim are.0.next [
    | inl next ↦ let is : r.node ≡ node = next.0 ∙ own in begins (b.row.phase + 1) r rows is next.1 are.0.green (cycle-after (as_before (Some b) r) rows (inl is) below are.1 end)
    | inr next ↦
        passes (b.row.phase + 1) r rows (λ same. omega (arith, next.0, own, same))
        (subst (IsCycleFrom (plan_at net node) (b.row.phase + 1)) (sym (own-none net (as_before (Some b) r) rows node (omega (arith, next.0, own)) are.1))
        (subst (λ n. AreMarked (plan_at net n) (b.row.phase + 1) (length (plan_at net n))) own next.1.1))
  ]
  cycle-after b (r ∷ rows) (inr before) below are end = elim are.0.next [
    | inl next ↦ passes 0 r rows (λ same. omega (arith, next.0, before, same)) (cycle-after (as_before (Some b) r) rows (inr (omega (arith, next.0, before))) below are.1 end)
    | inr next ↦
        elim (cases_lt r.node node) [
          | inl less ↦ passes 0 r rows (λ same. omega (arith, less, same)) (cycle-after (as_before (Some b) r) rows (inr less) below are.1 end)
          | inr most ↦ let is : r.node ≡ node = omega (arith, next.0, before, most) in begins 0 r rows is next.2 are.0.green (cycle-after (as_before (Some b) r) rows (inl is) below are.1 end)
        ]
  ]

  -- two rows of a node come, or one after the first
  enough-after : (b : Before) (rows : List FixedRow) (at : (b.row.node ≡ node) ⊎ (b.row.node < node)) → node < length net.node_names → AreRowsAfter net (Some b) rows → IsEnd net (last_of (Some b) rows) → wanting node b at ≤ length (rows_of rows node)
  enough-after b [] (inl own) below are end = omega (arith, ap after_first end.1.0)
  enough-after b [] (inr before) below are end = absurd (omega (arith, end.0, before, below))
  enough-after b (r ∷ rows) (inl own) below are end = elim are.0.next [
    | inl next ↦ let is : r.node ≡ node = next.0 ∙ own in omega (arith, wanting-one b.first, ap length (own-here r rows node is))
    | inr next ↦ omega (arith, ap after_first next.1.0)
  ]
  enough-after b (r ∷ rows) (inr before) below are end = elim are.0.next [
    | inl next ↦
        omega (arith, ap length (own-other r rows node (λ same. omega (arith, next.0, before, same))), enough-after (as_before (Some b) r) rows (inr (omega (arith, next.0, before))) below are.1 end)
    | inr next ↦
        elim (cases_lt r.node node) [
          | inl less ↦ omega (arith, ap length (own-other r rows node (λ same. omega (arith, less, same))), enough-after (as_before (Some b) r) rows (inr less) below are.1 end)
          | inr most ↦
              let is : r.node ≡ node = omega (arith, next.0, before, most) in
              let first : (not (r.node == b.row.node)) ≡ true = ap not (ne_eqb r.node b.row.node (λ same. omega (arith, next.0, same))) in
              omega (arith, ap length (own-here r rows node is), ap after_first first, enough-after (as_before (Some b) r) rows (inl is) below are.1 end)
        ]
  ]

  -- the rows of a node of a fixed plan
  pub cycle-of : (rows : List FixedRow) → node < length net.node_names → IsFixedPlan net rows → IsCycle (plan_at net node) (rows_of rows node)
  cycle-of [] below is = absurd is.whole
  cycle-of (r ∷ rows) below is = elim (cases_lt r.node node) [
    | inl less ↦ record {
      some = omega (arith, ap length (own-other r rows node (λ same. omega (arith, less, same))), enough-after (as_before None r) rows (inr less) below is.each.1 is.whole);
      from = passes 0 r rows (λ same. omega (arith, less, same)) (cycle-after (as_before None r) rows (inr less) below is.each.1 is.whole);
    }
    | inr most ↦
        elim (cases_lt node r.node) [
          | inl more ↦ absurd (omega (arith, more, is.each.0.next.0))
          | inr least ↦
              let own : r.node ≡ node = omega (arith, most, least) in
              record {
                some = omega (arith, ap length (own-here r rows node own), enough-after (as_before None r) rows (inl own) below is.each.1 is.whole);
                from = begins 0 r rows own is.each.0.next.1 is.each.0.green (cycle-after (as_before None r) rows (inl own) below is.each.1 is.whole);
              }
        ]
  ]

-- what stands where there is no row
abbrev pub no_row : FixedRow
no_row = record { node = 0; phase = 0; green = 0; offset = 0 }

-- the row at this index
abbrev pub row_in : List FixedRow → ℕ → FixedRow
row_in rows i = get_or rows i no_row

-- a row of a cycle: its phase is one of the plan, and its green within bounds
pub record IsShown (plan : List Phase) (r : FixedRow) : Type 0 where
  pub exists : r.phase < length plan
  pub green : HasGreen plan r

pub cycle-shown : (plan : List Phase) (low : ℕ) (rows : List FixedRow) → IsCycleFrom plan low rows → All (IsShown plan) rows
cycle-shown plan low [] is = All-nil (IsShown plan)
cycle-shown plan low (r ∷ rows) is = All-cons (IsShown plan) r rows (record { exists = is.0.exists; green = is.1 }) (cycle-shown plan (r.phase + 1) rows is.2)

-- the phases between two rows one after another, those after the last row, and those before the first
amid-marked : (plan : List Phase) (low i : ℕ) (rows : List FixedRow) → i + 1 < length rows → IsCycleFrom plan low rows
    → ((row_in rows i).phase < (row_in rows (i + 1)).phase) × AreMarked plan ((row_in rows i).phase + 1) (row_in rows (i + 1)).phase
amid-marked plan low i [] below is = absurd (omega (arith, below))
amid-marked plan low i (r ∷ []) below is = absurd (omega (arith, below))
amid-marked plan low zero (r ∷ s ∷ rows) below is = (let h : r.phase < s.phase = omega (arith, is.2.0.later) in h, is.2.0.passed)
amid-marked plan low (suc i) (r ∷ s ∷ rows) below is =
    let next : suc (i + 1) ≡ suc i + 1 = omega arith in
    subst (λ k. ((row_in (s ∷ rows) i).phase < (row_in (r ∷ s ∷ rows) k).phase) × AreMarked plan ((row_in (s ∷ rows) i).phase + 1) (row_in (r ∷ s ∷ rows) k).phase) next
    (amid-marked plan (r.phase + 1) i (s ∷ rows) (omega (arith, below)) is.2)

last-marked : (plan : List Phase) (low i : ℕ) (rows : List FixedRow) → i + 1 ≡ length rows → IsCycleFrom plan low rows
    → (low ≤ (row_in rows i).phase) × AreMarked plan ((row_in rows i).phase + 1) (length plan)
last-marked plan low i [] last is = absurd (omega (arith, last))
last-marked plan low zero (r ∷ []) last is = (is.0.later, is.2)
last-marked plan low (suc i) (r ∷ []) last is = absurd (omega (arith, last))
last-marked plan low zero (r ∷ s ∷ rows) last is = absurd (omega (arith, last))
last-marked plan low (suc i) (r ∷ s ∷ rows) last is =
    let (later, marked) = last-marked plan (r.phase + 1) i (s ∷ rows) (omega (arith, last)) is.2 in
    (omega (arith, later, is.0.later), marked)

first-marked : (plan : List Phase) (i : ℕ) (rows : List FixedRow) → i + 1 ≡ length rows → 2 ≤ length rows → IsCycleFrom plan 0 rows
    → ((row_in rows 0).phase < (row_in rows i).phase) × AreMarked plan 0 (row_in rows 0).phase
first-marked plan i [] last two is = absurd (omega (arith, last))
first-marked plan zero (r ∷ rows) last two is = absurd (omega (arith, last, two))
first-marked plan (suc i) (r ∷ []) last two is = absurd (omega (arith, last))
first-marked plan (suc i) (r ∷ s ∷ rows) last two is =
    let (later, marked) = last-marked plan (r.phase + 1) i (s ∷ rows) (omega (arith, last)) is.2 in
    (omega (arith, later), is.0.passed)

-- a row may come after another one: it is of another phase, and the phases between are marked
pub record ComesAfter (plan : List Phase) (s j : ℕ) : Type 0 where
  pub marked : All (IsMarkedAt plan) (between plan s j)
  pub other : j ≢ s

-- the next row of a cycle comes after a row
pub next-after : (plan : List Phase) (rows : List FixedRow) (i : ℕ) → i + 1 < length rows → IsCycle plan rows → ComesAfter plan (row_in rows i).phase (row_in rows (i + 1)).phase
next-after plan rows i below is =
    let s = (row_in rows i).phase in
    let j = (row_in rows (i + 1)).phase in
    let (rise, marked) = amid-marked plan 0 i rows below is.from in
    record {
      marked = subst (All (IsMarkedAt plan)) (cond_below s j (range_with_len (s + 1) (j - (s + 1))) _ rise) marked;
      other = λ same. omega (arith, rise, same);
    }

-- the first row comes after the last
pub round-after : (plan : List Phase) (rows : List FixedRow) (i : ℕ) → i + 1 ≡ length rows → IsCycle plan rows → ComesAfter plan (row_in rows i).phase (row_in rows 0).phase
round-after plan rows i last is =
    let (less, first) = first-marked plan i rows last is.some is.from in
    let most : (row_in rows 0).phase ≤ (row_in rows i).phase = omega (arith, less) in
    record {
      marked = (all-round (IsMarkedAt plan) plan (row_in rows i).phase (row_in rows 0).phase (length plan) refl most).0 ((last-marked plan 0 i rows last is.from).1, first);
      other = λ same. omega (arith, less, same);
    }

-- there are no more rows than phases
pub cycle-few : (plan : List Phase) (low : ℕ) (rows : List FixedRow) → IsCycleFrom plan low rows → length rows ≤ length plan - low
cycle-few plan low [] is = omega arith
cycle-few plan low (r ∷ rows) is = omega (arith, cycle-few plan (r.phase + 1) rows is.2, is.0.later, is.0.exists)

-- a row of a cycle is shown for some seconds, and not for many; nor are there many rows
module _ (plan : List Phase) (rows : List FixedRow) (p : IsRing plan) (is : IsCycle plan rows) where
  pub shown-at : (i : ℕ) → i < length rows → IsShown plan (row_in rows i)
  shown-at i below = All-get_or (IsShown plan) rows i no_row below (cycle-shown plan 0 rows is.from)

  pub green-most : (i : ℕ) → i < length rows → (row_in rows i).green ≤ 240
  green-most i below =
      let row = shown-at i below in
      omega (arith, row.green.greatest, (p.phases (row_in rows i).phase no_phase row.exists).greatest.1)

  pub span-few : (i : ℕ) → i < length rows → span plan (row_in rows i) ≤ 260
  span-few i below =
      let phase : IsPhase (phase_at plan (row_in rows i).phase) = p.phases (row_in rows i).phase no_phase (shown-at i below).exists in
      omega (arith, green-most i below, phase.yellow.1, phase.clear)

  pub few-rows : length rows ≤ 4
  few-rows = omega (arith, cycle-few plan 0 rows is.from, p.count.1)

  pub length-most : cycle_length plan rows ≤ 1040
  length-most =
      omega (
        arith,
        sum_by-le (span plan) 260 rows (All-from_get_or (λ r. span plan r ≤ 260) rows no_row span-few),
        few-rows,
      )

  pub sums-most : (i : ℕ) → sum_by (span plan) (take i rows) ≤ 1040
  sums-most i = omega (arith, sum_by-take-le (span plan) rows i, length-most)

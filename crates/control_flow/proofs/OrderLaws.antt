-- Rows in order: what comes later, and what a search by halves finds.
use Rattle.std.proofs.Common.{◌≡◌, ℕ, zero, suc, ◌+◌, ◌-◌, ◌<◌, ◌≤◌, Bool, true, false, cond, leb, ltb, List, [], ◌∷◌, ◌++◌, length, take, All, Option, Some, None, Result, Ok, Err, OnOk, OnErr, refl, sym, ap, subst, ◌∙◌, inl, inr, arith}
use Rattle.std.specs.Prelude.{find, slice_get}
use Rattle.std.specs.Option.{option_and_then}
use Rattle.std.specs.List.Sorted.{IsNonDecreasingBy}
use Rattle.std.proofs.lemmas.Bool.{cases_eq, cases_lt, cond_below, cond_above, and_from, and_left, and_parts, and_right, leb-true, ltb-true, lt-ltb, le-leb, lt-leb, le-ltb}
use Rattle.std.proofs.lemmas.List.Sorted.{IsNonDecreasingBy-from_default}
use Rattle.std.proofs.lemmas.List.Elements.{All-cons, All-head, All-tail, All-weaker, All-get_or}
use Rattle.phase_plan.specs.Phases.{IsPhase, IsRing, no_phase}
use Rattle.phase_plan.specs.declared.Phase.{Phase}
use Rattle.control_flow.specs.declared.greens.Green.{Green}
use Rattle.control_flow.specs.Greens.{no_green, row_at, IsInOrder, IsGreen, IsLawful, HasRow, Joins, covers, green_at, row_after, rows_before, spliced}

-- one row after another

abbrev IsLong : Green → Type 0
IsLong row = row.from < row.to

next-cons : (row : Green) (rows : List Green) → (0 < length rows → row.to ≤ (row_at rows 0).from) → IsInOrder rows → (k : ℕ) → k + 1 < length (row ∷ rows) → (row_at (row ∷ rows) k).to ≤ (row_at (row ∷ rows) (k + 1)).from
next-cons row rows first others zero h = first (omega arith)
next-cons row rows first others (suc k) h =
    let e : suc (k + 1) ≡ suc k + 1 = omega arith in
    subst (λ i. (row_at rows k).to ≤ (row_at (row ∷ rows) i).from) e (others.order k (omega arith))

pub order-cons : (row : Green) (rows : List Green) → row.from < row.to → (0 < length rows → row.to ≤ (row_at rows 0).from) → IsInOrder rows → IsInOrder (row ∷ rows)
order-cons row rows long first others = record {
  long = All-cons IsLong row rows long others.long;
  order = next-cons row rows first others;
}

pub order-tail : (row : Green) (rows : List Green) → IsInOrder (row ∷ rows) → IsInOrder rows
order-tail row rows o = record {
  long = All-tail IsLong row rows o.long;
  order = λ k h.
      let e : suc k + 1 ≡ suc (k + 1) = omega arith in
      subst (λ i. (row_at rows k).to ≤ (row_at (row ∷ rows) i).from) e (o.order (suc k) (omega arith));
}

pub order-first : (row : Green) (rows : List Green) → IsInOrder (row ∷ rows) → row.from < row.to
order-first row rows o = All-head IsLong row rows o.long

pub order-next : (row next : Green) (rows : List Green) → IsInOrder (row ∷ next ∷ rows) → row.to ≤ next.from
order-next row next rows o = o.order 0 (omega arith)

-- a green lasts a second at least
pub green-lasts : (plan : List Phase) (row : Green) → All IsPhase plan → IsGreen plan row → row.from + 1 ≤ row.to
green-lasts plan row all green = let times = All-get_or IsPhase plan row.phase no_phase green.phase all in omega (arith, times.least, green.least)

pub green-length : (plan : List Phase) (row : Green) → IsRing plan → IsGreen plan row → row.from + 1 ≤ row.to
green-length plan row p green = green-lasts plan row p.phases green

-- lawful rows are in order
pub order-lawful : (plan : List Phase) (rows : List Green) → IsRing plan → IsLawful plan rows → IsInOrder rows
order-lawful plan rows p lawful = record {
  long = All-weaker (IsGreen plan) IsLong (λ row green. let long = green-length plan row p green in omega arith) rows lawful.greens;
  order = λ k h. let next = lawful.order k h in omega (arith, next.begins);
}

-- a later row begins no earlier than a row ends
pub order-later : (rows : List Green) → IsInOrder rows → (i d : ℕ) → i + 1 + d < length rows → (row_at rows i).to ≤ (row_at rows (i + 1 + d)).from
order-later rows o i zero h =
    let e : i + 1 + zero ≡ i + 1 = omega arith in
    rw e (o.order i (omega arith))
order-later rows o i (suc d) h =
    let before = order-later rows o i d (omega arith) in
    let long = All-get_or IsLong rows (i + 1 + d) no_green (omega arith) o.long in
    let next = o.order (i + 1 + d) (omega arith) in
    let e : i + 1 + suc d ≡ i + 1 + d + 1 = omega arith in
    rw e (omega (arith, before, long, next))

pub order-between : (rows : List Green) → IsInOrder rows → (i j : ℕ) → i < j → j < length rows → (row_at rows i).to ≤ (row_at rows j).from
order-between rows o i j h inside =
    let e : i + 1 + (j - i - 1) ≡ j = omega arith in
    subst (λ k. (row_at rows i).to ≤ (row_at rows k).from) e (order-later rows o i (j - i - 1) (omega arith))

-- so at most one row covers a second
pub order-one : (rows : List Green) → IsInOrder rows → (i j second : ℕ) → i < length rows → j < length rows → covers (row_at rows i) second ≡ true → covers (row_at rows j) second ≡ true → i ≡ j
order-one rows o i j second hi hj a b =
    let at_i = and_parts (leb (row_at rows i).from second) (ltb second (row_at rows i).to) a in
    let at_j = and_parts (leb (row_at rows j).from second) (ltb second (row_at rows j).to) b in
    let from_i = leb-true (row_at rows i).from second at_i.0 in
    let to_i = ltb-true second (row_at rows i).to at_i.1 in
    let from_j = leb-true (row_at rows j).from second at_j.0 in
    let to_j = ltb-true second (row_at rows j).to at_j.1 in
    elim (cases_lt i j) [
      | inl below ↦ absurd (omega (arith, order-between rows o i j below hj, to_i, from_j))
      | inr above ↦ elim (cases_lt j i) [
        | inl below ↦ absurd (omega (arith, order-between rows o j i below hi, to_j, from_i))
        | inr same ↦ omega arith
      ]
    ]

-- ends and begins rise

pub ends-rise : (rows : List Green) → IsInOrder rows → IsNonDecreasingBy (λ row. row.to) rows
ends-rise rows o = IsNonDecreasingBy-from_default (λ (row : Green). row.to) rows no_green (λ i j le inside.
    elim (cases_eq i j) [
      | inl same ↦ omega (arith, ap (λ k. (row_at rows k).to) same)
      | inr other ↦
          let long = All-get_or IsLong rows j no_green inside o.long in
          omega (arith, order-between rows o i j (omega arith) inside, long)
    ])

pub begins-rise : (rows : List Green) → IsInOrder rows → IsNonDecreasingBy (λ row. row.from) rows
begins-rise rows o = IsNonDecreasingBy-from_default (λ (row : Green). row.from) rows no_green (λ i j le inside.
    elim (cases_eq i j) [
      | inl same ↦ omega (arith, ap (λ k. (row_at rows k).from) same)
      | inr other ↦
          let long = All-get_or IsLong rows i no_green (omega arith) o.long in
          omega (arith, order-between rows o i j (omega arith) inside, long)
    ])

-- the first row that passes a test is the one at this place
pub find-place : (test : Green → Bool) (rows : List Green) (i : ℕ) → ((k : ℕ) → k < i → test (row_at rows k) ≡ false) → (i < length rows → test (row_at rows i) ≡ true) → find test rows ≡ slice_get rows i
find-place test [] i before here = refl
find-place test (r ∷ rs) zero before here = ap (λ (b : Bool). cond b (Some r) (find test rs)) (here (omega arith))
find-place test (r ∷ rs) (suc i) before here =
    ap (λ (b : Bool). cond b (Some r) (find test rs)) (before 0 (omega arith))
    ∙ find-place test rs i (λ k h. before (suc k) (omega arith)) (λ h. here (omega arith))

-- a row that covers a second is the first that ends after it
pub covering-after : (rows : List Green) (second i : ℕ) → IsInOrder rows → i < length rows → (row_at rows i).from ≤ second → second < (row_at rows i).to → row_after rows second ≡ slice_get rows i
covering-after rows second i o inside begun ends =
    find-place (λ row. ltb second row.to) rows i (λ k h. le-ltb second _ (omega (arith, order-between rows o k i h inside, begun))) (λ h. lt-ltb second _ ends)

-- the rows before a second are those before this place
pub rows_before-place : (rows : List Green) (second i : ℕ) → ((k : ℕ) → k < i → (row_at rows k).from < second) → (i < length rows → second ≤ (row_at rows i).from) → rows_before rows second ≡ take i rows
rows_before-place [] second zero before here = refl
rows_before-place [] second (suc i) before here = refl
rows_before-place (r ∷ rs) second zero before here = sym (cond_above r.from second (r ∷ rows_before rs second) [] [] (here (omega arith)) refl)
rows_before-place (r ∷ rs) second (suc i) before here =
    sym (cond_below r.from second (r ∷ rows_before rs second) [] (before 0 (omega arith)))
    ∙ ap (λ (rows : List Green). r ∷ rows) (rows_before-place rs second i (λ k h. before (suc k) (omega arith)) (λ h. here (omega arith)))

-- the row that covers a second is the first that ends after it

pub none-before : (first : Green) (rows : List Green) (second : ℕ) → IsInOrder (first ∷ rows) → second < first.from → green_at (first ∷ rows) second ≡ None
none-before first [] second o h =
    let no : covers first second ≡ false = and_left (leb first.from second) (ltb second first.to) (lt-leb first.from second h) in
    ap (λ (b : Bool). cond b (Some first) (green_at [] second)) no
none-before first (next ∷ rows) second o h =
    let no : covers first second ≡ false = and_left (leb first.from second) (ltb second first.to) (lt-leb first.from second h) in
    let long = order-first first (next ∷ rows) o in
    let later = order-next first next rows o in
    ap (λ (b : Bool). cond b (Some first) (green_at (next ∷ rows) second)) no
    ∙ none-before next rows second (order-tail first (next ∷ rows) o) (omega arith)

-- that row, where it has begun
pub begun_at : ℕ → Green → Option Green
begun_at second row = cond (leb row.from second) (Some row) None

begun-early : (row : Green) (second : ℕ) → second < row.from → begun_at second row ≡ None
unfolding begun_at
begun-early row second h = ap (λ (b : Bool). cond b (Some row) None) (lt-leb row.from second h)

begun-now : (row : Green) (second : ℕ) → row.from ≤ second → begun_at second row ≡ Some row
unfolding begun_at
begun-now row second h = ap (λ (b : Bool). cond b (Some row) None) (le-leb row.from second h)

green-after : (rows : List Green) (second : ℕ) → IsInOrder rows → green_at rows second ≡ option_and_then (begun_at second) (row_after rows second)
green-after [] second o = refl
green-after (r ∷ rs) second o = elim (cases_lt second r.to) [
  | inl before ↦
      let found : row_after (r ∷ rs) second ≡ Some r = sym (cond_below second r.to (Some r) (row_after rs second) before) in
      elim (cases_lt second r.from) [
        | inl early ↦ none-before r rs second o early ∙ sym (ap (option_and_then (begun_at second)) found ∙ begun-early r second early)
        | inr begun ↦
            let here : covers r second ≡ true = and_from (leb r.from second) (ltb second r.to) (le-leb r.from second begun) (lt-ltb second r.to before) in
            ap (λ (b : Bool). cond b (Some r) (green_at rs second)) here ∙ sym (ap (option_and_then (begun_at second)) found ∙ begun-now r second begun)
      ]
  | inr past ↦
      let not_here : covers r second ≡ false = and_right (leb r.from second) (ltb second r.to) (le-ltb second r.to past) in
      let later : row_after (r ∷ rs) second ≡ row_after rs second = sym (cond_above second r.to (Some r) (row_after rs second) (row_after rs second) past refl) in
      ap (λ (b : Bool). cond b (Some r) (green_at rs second)) not_here
      ∙ green-after rs second (order-tail r rs o)
      ∙ sym (ap (option_and_then (begun_at second)) later)
]

pub green-begun : (rows : List Green) (second : ℕ) (row : Green) → IsInOrder rows → row_after rows second ≡ Some row → row.from ≤ second → Some row ≡ green_at rows second
green-begun rows second row o found begun = sym (green-after rows second o ∙ ap (option_and_then (begun_at second)) found ∙ begun-now row second begun)

pub green-early : (rows : List Green) (second : ℕ) (row : Green) → IsInOrder rows → row_after rows second ≡ Some row → second < row.from → None ≡ green_at rows second
green-early rows second row o found early = sym (green-after rows second o ∙ ap (option_and_then (begun_at second)) found ∙ begun-early row second early)

pub green-none : (rows : List Green) (second : ℕ) → IsInOrder rows → row_after rows second ≡ None → None ≡ green_at rows second
green-none rows second o none = sym (green-after rows second o ∙ ap (option_and_then (begun_at second)) none)

-- a splice keeps the order

has-later : (r : Green) (rs : List Green) (first : Green) → r.from < first.from → HasRow (r ∷ rs) first.phase first.from → HasRow rs first.phase first.from
has-later r rs first h has = later has.index has.below has.same_phase has.same_begin
  where
    later : (i : ℕ) → i < length (r ∷ rs) → (row_at (r ∷ rs) i).phase ≡ first.phase → (row_at (r ∷ rs) i).from ≡ first.from → HasRow rs first.phase first.from
    later zero below phase begin = absurd (omega (arith, begin))
    later (suc i) below phase begin = record { index = i; below = omega arith; same_phase = phase; same_begin = begin }

-- the first row after a kept one begins no earlier than that one ends
first-behind : (r : Green) (rs : List Green) (first : Green) (rest : List Green) → IsInOrder (r ∷ rs) → HasRow rs first.phase first.from → r.to ≤ (row_at (rows_before rs first.from ++ first ∷ rest) 0).from
first-behind r [] first rest o has = absurd (omega (arith, has.below))
first-behind r (s ∷ rs) first rest o has = elim (cases_lt s.from first.from) [
  | inl below ↦
      let kept : rows_before (s ∷ rs) first.from ≡ s ∷ rows_before rs first.from = sym (cond_below s.from first.from (s ∷ rows_before rs first.from) [] below) in
      rw kept (order-next r s rs o)
  | inr above ↦
      let kept : rows_before (s ∷ rs) first.from ≡ [] = sym (cond_above s.from first.from (s ∷ rows_before rs first.from) [] [] above refl) in
      let early = order-between (r ∷ s ∷ rs) o 0 (suc has.index) (omega arith) (omega (arith, has.below)) in
      rw kept (omega (arith, early, has.same_begin))
]

splice-order : (old : List Green) (first : Green) (rest : List Green) → IsInOrder old → IsInOrder (first ∷ rest) → HasRow old first.phase first.from → IsInOrder (rows_before old first.from ++ first ∷ rest)
splice-order [] first rest o n has = n
splice-order (r ∷ rs) first rest o n has = elim (cases_lt r.from first.from) [
  | inl below ↦
      let kept : rows_before (r ∷ rs) first.from ≡ r ∷ rows_before rs first.from = sym (cond_below r.from first.from (r ∷ rows_before rs first.from) [] below) in
      let more = has-later r rs first below has in
      rw kept (order-cons r (rows_before rs first.from ++ first ∷ rest) (order-first r rs o) (λ some. first-behind r rs first rest o more) (splice-order rs first rest (order-tail r rs o) n more))
  | inr above ↦
      let kept : rows_before (r ∷ rs) first.from ≡ [] = sym (cond_above r.from first.from (r ∷ rows_before rs first.from) [] [] above refl) in
      rw kept n
]

pub spliced-order : (old next : List Green) → IsInOrder old → IsInOrder next → Joins old next → IsInOrder (spliced old next)
spliced-order old [] o n joins = o
spliced-order old (first ∷ rest) o n joins = splice-order old first rest o n joins

-- a row that ends after a second is one of the rows
pub row_after-has : (rows : List Green) (now : ℕ) (row : Green) → row_after rows now ≡ Some row → HasRow rows row.phase row.from
row_after-has [] now row e = let impossible : ⊥ = cc in absurd impossible
row_after-has (r ∷ rs) now row e = elim (cases_lt now r.to) [
  | inl h ↦
      let f = cond_below now r.to (Some r) (row_after rs now) h in
      let same : r ≡ row = cc in
      record { index = 0; below = omega arith; same_phase = ap (λ (g : Green). g.phase) same; same_begin = ap (λ (g : Green). g.from) same }
  | inr h ↦
      let others = row_after-has rs now row (cond_above now r.to (Some r) (row_after rs now) (row_after rs now) h refl ∙ e) in
      record { index = suc others.index; below = omega (arith, others.below); same_phase = others.same_phase; same_begin = others.same_begin }
]

-- whatever a splice answers, the rows are in order
pub answered-order : {E : Type 0} (r : Result (Unit {0}) E) (old next new rows lent : List Green) → old ≡ rows → lent ≡ next → IsInOrder rows → IsInOrder next → Joins old next → OnOk r (new ≡ spliced rows lent) → OnErr r (new ≡ rows) → IsInOrder new
answered-order (Ok x) old next new rows lent a b o n joins done same =
    rw (done, b) (spliced-order rows next o n (subst (λ (rs : List Green). Joins rs next) a joins))
answered-order (Err e) old next new rows lent a b o n joins done same = rw same o

pub answered-spliced : {E : Type 0} (r : Result (Unit {0}) E) (old next new rows lent : List Green) → old ≡ rows → lent ≡ next → OnOk r (new ≡ spliced rows lent) → OnOk r (new ≡ spliced old next)
answered-spliced (Ok x) old next new rows lent a b done = done ∙ ap (λ (rs : List Green). spliced rs lent) (sym a) ∙ ap (spliced old) b
answered-spliced (Err e) old next new rows lent a b done = tt

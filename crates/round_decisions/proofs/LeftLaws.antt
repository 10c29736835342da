-- What is left of a line without some of its first rows.
use Rattle.std.proofs.Common.{◌≡◌, ℕ, ◌<◌, ◌≤◌, List, [], ◌∷◌, ◌++◌, All, Option, Some, None, length, refl, sym, ap, subst, ◌∙◌, inl, inr, arith, append_assoc, length-append}
use Rattle.std.specs.Prelude.{if◌then◌else◌, nat_le}
use Rattle.std.specs.Option.{option_map}
use Rattle.std.proofs.lemmas.Bool.{cases_lt, cond_both, le-leb, le-ltb, leb-true, lt-ltb}
use Rattle.std.proofs.lemmas.List.Elements.{All-cons, All-nil, All-weaker}
use Rattle.control_flow.specs.Greens.{IsInOrder, head_at, head_in, row_after, row_at, rows_before, spliced}
use Rattle.control_flow.specs.Signs.{sign_after, sign_at}
use Rattle.control_flow.specs.declared.greens.Green.{Green}
use Rattle.control_flow.proofs.OrderLaws.{order-first, order-tail}
use Rattle.control_flow.proofs.SignLaws.{after-row, within-row}
use Rattle.phase_plan.specs.declared.Phase.{Phase}
use Rattle.round_decisions.specs.Lines.{rows_from}
use Rattle.round_decisions.proofs.LineLaws.{spliced-first}

-- What is left of a line without some of its first rows: where some are gone, the first that is left has begun by a second.
pub record IsLeft (second : ℕ) (whole left : List Green) : Type 0 where
  pub gone : List Green
  pub all : whole ≡ gone ++ left
  pub some : 0 < length gone → (0 < length left) × ((row_at left 0).from ≤ second)

pub left-all : (second : ℕ) (rows : List Green) → IsLeft second rows rows
left-all second rows = record { gone = []; all = refl; some = λ h. absurd (omega arith) }

left-more : (second : ℕ) (row next : Green) (rows left : List Green) → next.from ≤ second → IsLeft second (next ∷ rows) left → IsLeft second (row ∷ next ∷ rows) left
left-more second row next rows left begun is = record { gone = row ∷ is.gone; all = ap (λ l. row ∷ l) is.all; some = λ h. first is.gone is.all is.some }
  where
    first : (gone : List Green) → next ∷ rows ≡ gone ++ left → (0 < length gone → (0 < length left) × ((row_at left 0).from ≤ second)) → (0 < length left) × ((row_at left 0).from ≤ second)
    first [] all some = subst (λ l. (0 < length l) × ((row_at l 0).from ≤ second)) all (omega arith, begun)
    first (g ∷ gs) all some = some (omega arith)

-- the rows from the last that has begun on
pub left-from : (second : ℕ) (rows : List Green) → IsLeft second rows (rows_from second rows)
left-from second [] = left-all second []
left-from second (row ∷ []) = left-all second (row ∷ [])
left-from second (row ∷ next ∷ rows) = cond_both (nat_le next.from second) (rows_from second (next ∷ rows)) (row ∷ next ∷ rows) (IsLeft second (row ∷ next ∷ rows))
    (λ yes. left-more second row next rows (rows_from second (next ∷ rows)) (leb-true next.from second yes) (left-from second (next ∷ rows)))
    (λ no. left-all second (row ∷ next ∷ rows))

pub left-later : (second later : ℕ) (whole left : List Green) → second ≤ later → IsLeft second whole left → IsLeft later whole left
left-later second later whole left late is = record { gone = is.gone; all = is.all; some = λ h. (let p = is.some h in (p.0, omega (arith, p.1, late))) }

pub left-trans : (second : ℕ) (whole left rest : List Green) → IsLeft second whole left → IsLeft second left rest → IsLeft second whole rest
left-trans second whole left rest a b = record {
  gone = a.gone ++ b.gone;
  all = a.all ∙ ap (λ l. a.gone ++ l) b.all ∙ sym (append_assoc a.gone b.gone rest);
  some = by b.gone b.all b.some;
}
  where
    by : (gone : List Green) → left ≡ gone ++ rest → (0 < length gone → (0 < length rest) × ((row_at rest 0).from ≤ second)) → 0 < length (a.gone ++ gone) → (0 < length rest) × ((row_at rest 0).from ≤ second)
    by [] all some h = subst (λ l. (0 < length l) × ((row_at l 0).from ≤ second)) all (a.some (omega (arith, h, length-append a.gone [])))
    by (g ∷ gs) all some h = some (omega arith)

-- the rows of a line in order, where some have gone
module _ (left : List Green) (some : 0 < length left) where
  rest-some : (gone : List Green) → 0 < length (gone ++ left)
  rest-some gone = omega (arith, some, length-append gone left)

  first-before : (gone : List Green) → IsInOrder (gone ++ left) → (row_at (gone ++ left) 0).from ≤ (row_at left 0).from
  first-before [] o = omega arith
  first-before (x ∷ gone) o =
      let next : x.to ≤ (row_at (gone ++ left) 0).from = o.order 0 (omega (arith, rest-some gone)) in
      omega (arith, order-first x (gone ++ left) o, next, first-before gone (order-tail x (gone ++ left) o))

  ends-before : (x : Green) (gone : List Green) → IsInOrder (x ∷ gone ++ left) → x.to ≤ (row_at left 0).from
  ends-before x gone o =
      let next : x.to ≤ (row_at (gone ++ left) 0).from = o.order 0 (omega (arith, rest-some gone)) in
      omega (arith, next, first-before gone (order-tail x (gone ++ left) o))

  module _ (second : ℕ) (begun : (row_at left 0).from ≤ second) where
    passed-row : (x : Green) (rest : List Green) → 0 < length rest → (row_at rest 0).from ≤ second → rows_from second (x ∷ rest) ≡ rows_from second rest
    passed-row x [] there by = absurd (omega arith)
    passed-row x (next ∷ rest) there by = ap (λ b. if b then rows_from second (next ∷ rest) else x ∷ next ∷ rest) (le-leb next.from second by)

    gone-rows : (gone : List Green) → IsInOrder (gone ++ left) → rows_from second (gone ++ left) ≡ rows_from second left
    gone-rows [] o = refl
    gone-rows (x ∷ gone) o =
        let tail = order-tail x (gone ++ left) o in
        passed-row x (gone ++ left) (rest-some gone) (omega (arith, first-before gone tail, begun)) ∙ gone-rows gone tail

    module _ (later : ℕ) (late : second ≤ later) where
      gone-after : (gone : List Green) → IsInOrder (gone ++ left) → row_after (gone ++ left) later ≡ row_after left later
      gone-after [] o = refl
      gone-after (x ∷ gone) o =
          ap (λ b. if b then Some x else row_after (gone ++ left) later) (le-ltb later x.to (omega (arith, ends-before x gone o, begun, late)))
          ∙ gone-after gone (order-tail x (gone ++ left) o)

      begun-sign : (before other : Option ℕ) (rows : List Green) → 0 < length rows → (row_at rows 0).from ≤ later → sign_after before rows later ≡ sign_after other rows later
      begun-sign before other [] there by = absurd (omega arith)
      begun-sign before other (row ∷ rows) there by = elim (cases_lt later row.to) [
        | inl within ↦ within-row before row rows later by within ∙ sym (within-row other row rows later by within)
        | inr over ↦ after-row before row rows later by over ∙ sym (after-row other row rows later by over)
      ]

      gone-sign : (before : Option ℕ) (gone : List Green) → IsInOrder (gone ++ left) → sign_after before (gone ++ left) later ≡ sign_after before left later
      gone-sign before [] o = refl
      gone-sign before (x ∷ gone) o =
          let tail = order-tail x (gone ++ left) o in
          let over : x.to ≤ later = omega (arith, ends-before x gone o, begun, late) in
          after-row before x (gone ++ left) later (omega (arith, order-first x (gone ++ left) o, over)) over
          ∙ begun-sign (Some x.phase) before (gone ++ left) (rest-some gone) (omega (arith, first-before gone tail, begun, late))
          ∙ gone-sign before gone tail

  -- what is spliced to the rows that are left leaves those that have gone as they are
  gone-before : (from : ℕ) → (row_at left 0).from ≤ from → (gone : List Green) → IsInOrder (gone ++ left) → rows_before (gone ++ left) from ≡ gone ++ rows_before left from
  gone-before from begun [] o = refl
  gone-before from begun (x ∷ gone) o =
      ap (λ b. if b then x ∷ rows_before (gone ++ left) from else []) (lt-ltb x.from from (omega (arith, order-first x (gone ++ left) o, ends-before x gone o, begun)))
      ∙ ap (λ l. x ∷ l) (gone-before from begun gone (order-tail x (gone ++ left) o))

  gone-spliced : (next : List Green) → 0 < length next → (row_at left 0).from ≤ (row_at next 0).from → (gone : List Green) → IsInOrder (gone ++ left) → spliced (gone ++ left) next ≡ gone ++ spliced left next
  gone-spliced [] there by gone o = absurd (omega arith)
  gone-spliced (n ∷ next) there by gone o = ap (λ l. l ++ n ∷ next) (gone-before n.from by gone o) ∙ append_assoc gone (rows_before left n.from) (n ∷ next)

spliced-some : (old next : List Green) → 0 < length next → 0 < length (spliced old next)
spliced-some old [] there = absurd (omega arith)
spliced-some old (n ∷ next) there = omega (arith, length-append (rows_before old n.from) (n ∷ next))

-- every row of a line in order begins with the first or later
pub rows-later : (rows : List Green) → IsInOrder rows → All (λ (row : Green). (row_at rows 0).from ≤ row.from) rows
rows-later [] o = All-nil (λ (row : Green). 0 ≤ row.from)
rows-later (x ∷ []) o = All-cons (λ (row : Green). x.from ≤ row.from) x [] (omega arith) (All-nil (λ (row : Green). x.from ≤ row.from))
rows-later (x ∷ y ∷ rows) o =
    let next : x.to ≤ y.from = o.order 0 (omega arith) in
    All-cons (λ (row : Green). x.from ≤ row.from) x (y ∷ rows) (omega arith)
    (All-weaker (λ (row : Green). y.from ≤ row.from) (λ (row : Green). x.from ≤ row.from) (λ row late. omega (arith, order-first x (y ∷ rows) o, next, late)) (y ∷ rows) (rows-later (y ∷ rows) (order-tail x (y ∷ rows) o)))

pub order-left : (gone left : List Green) → IsInOrder (gone ++ left) → IsInOrder left
order-left [] left o = o
order-left (x ∷ gone) left o = order-left gone left (order-tail x (gone ++ left) o)

module _ (second : ℕ) (whole left : List Green) (is : IsLeft second whole left) (o : IsInOrder whole) where
  in-order : IsInOrder (is.gone ++ left)
  in-order = subst IsInOrder is.all o

  pub left-in-order : IsInOrder left
  left-in-order = order-left is.gone left in-order

  -- it has the same rows from the last that has begun on
  pub left-rows : rows_from second whole ≡ rows_from second left
  left-rows = ap (rows_from second) is.all ∙ by is.gone in-order is.some
    where
      by : (gone : List Green) → IsInOrder (gone ++ left) → (0 < length gone → (0 < length left) × ((row_at left 0).from ≤ second)) → rows_from second (gone ++ left) ≡ rows_from second left
      by [] ordered some = refl
      by (x ∷ gone) ordered some = (let p = some (omega arith) in gone-rows left p.0 second p.1 (x ∷ gone) ordered)

  -- and from the second on the same heads and signs
  pub left-heads : (plan : List Phase) (later : ℕ) → second ≤ later → head_at plan whole later ≡ head_at plan left later
  left-heads plan later late = ap (λ l. head_at plan l later) is.all ∙ by is.gone in-order is.some
    where
      by : (gone : List Green) → IsInOrder (gone ++ left) → (0 < length gone → (0 < length left) × ((row_at left 0).from ≤ second)) → head_at plan (gone ++ left) later ≡ head_at plan left later
      by [] ordered some = refl
      by (x ∷ gone) ordered some = (let p = some (omega arith) in ap (option_map (head_in plan later)) (gone-after left p.0 second p.1 later late (x ∷ gone) ordered))

  pub left-signs : (later : ℕ) → second ≤ later → sign_at whole later ≡ sign_at left later
  left-signs later late = ap (λ l. sign_at l later) is.all ∙ by is.gone in-order is.some
    where
      by : (gone : List Green) → IsInOrder (gone ++ left) → (0 < length gone → (0 < length left) × ((row_at left 0).from ≤ second)) → sign_at (gone ++ left) later ≡ sign_at left later
      by [] ordered some = refl
      by (x ∷ gone) ordered some = (let p = some (omega arith) in gone-sign left p.0 second p.1 later late None (x ∷ gone) ordered)

  -- what is spliced to it, from a row of it on, is what is left of what is spliced to the whole
  pub left-spliced : (next : List Green) → 0 < length next → (0 < length left → (row_at left 0).from ≤ (row_at next 0).from) → IsLeft second (spliced whole next) (spliced left next)
  left-spliced next there joins = record {
    gone = is.gone;
    all = ap (λ l. spliced l next) is.all ∙ by is.gone in-order is.some;
    some = λ h. (let p = is.some h in (spliced-some left next there, omega (arith, spliced-first left next p.0, p.1)));
  }
    where
      by : (gone : List Green) → IsInOrder (gone ++ left) → (0 < length gone → (0 < length left) × ((row_at left 0).from ≤ second)) → spliced (gone ++ left) next ≡ gone ++ spliced left next
      by [] ordered some = refl
      by (x ∷ gone) ordered some = (let p = some (omega arith) in gone-spliced left p.0 next there (joins p.0) (x ∷ gone) ordered)

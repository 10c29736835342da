-- The row that is green in a second.
use Rattle.std.proofs.Common.{◌≡◌, ℕ, ◌<◌, ◌≤◌, Bool, true, false, cond, eqb, leb, ltb, ◌&&◌, List, [], ◌∷◌, length, Some, refl, sym, ap, ◌∙◌, inl, inr, arith, true≢false}
use Rattle.std.specs.Option.{option_map}
use Rattle.std.proofs.lemmas.Option.{none-some, same_Some}
use Rattle.std.proofs.lemmas.Bool.{and_left, and_parts, and_right, and_from, cases_Bool, eqb-true, le-leb, le-ltb, leb-true, lt-leb, lt-ltb, ltb-true, or_from}
use Rattle.phase_plan.specs.Phases.{IsRing}
use Rattle.phase_plan.specs.declared.Phase.{Phase}
use Rattle.control_flow.specs.Greens.{IsGreen, IsInOrder, IsLawful, covers, green_at, is_green, row_at}
use Rattle.control_flow.specs.Signs.{on_of, sign_at}
use Rattle.control_flow.specs.declared.greens.Green.{Green}
use Rattle.control_flow.specs.declared.greens.Sign.{Sign}
use Rattle.control_flow.specs.declared.greens.Sign.TheVariants.{Change, Dark, On}
use Rattle.control_flow.proofs.OrderLaws.{green-length}
use Rattle.control_flow.proofs.RowLaws.{lawful-first, lawful-tail}
use Rattle.control_flow.proofs.SignLaws.{standing-green}

-- a row of phase k that covers second x, and that the line shows in each of its seconds
pub record IsShown (plan : List Phase) (rows : List Green) (k x : ℕ) : Type 0 where
  pub row : Green
  pub phase : row.phase ≡ k
  pub green : IsGreen plan row
  pub begun : row.from ≤ x
  pub still : x < row.to
  pub found : (y : ℕ) → row.from ≤ y → y < row.to → green_at rows y ≡ Some row
  pub later : (row_at rows 0).from ≤ row.from

module _ (plan : List Phase) (p : IsRing plan) where
  -- before a line's first row nothing is green
  none-yet : (rows : List Green) (k x : ℕ) → IsLawful plan rows → (0 < length rows → x < (row_at rows 0).from) → is_green rows k x ≡ false
  none-yet [] k x lawful before = refl
  none-yet (row ∷ rows) k x lawful before =
      let early : x < row.from = before (omega arith) in
      let long = green-length plan row p (lawful-first plan row rows lawful) in
      or_from ((eqb row.phase k) && covers row x) (is_green rows k x)
      (and_right (eqb row.phase k) (covers row x) (and_left (leb row.from x) (ltb x row.to) (lt-leb row.from x early)))
      (none-yet rows k x (lawful-tail plan row rows lawful) (λ h. let after = (lawful.order 0 (omega (arith, h))).begins in omega (arith, early, long, after)))

  -- by whether the first row covers the second
  here : (row : Green) (rows : List Green) (k x : ℕ) → IsLawful plan (row ∷ rows) → is_green (row ∷ rows) k x ≡ true → covers row x ≡ true → IsShown plan (row ∷ rows) k x
  here row rows k x lawful is e =
      let both = and_parts (leb row.from x) (ltb x row.to) e in
      let still : x < row.to = ltb-true x row.to both.1 in
      let none : is_green rows k x ≡ false = none-yet rows k x (lawful-tail plan row rows lawful) (λ h. let after = (lawful.order 0 (omega (arith, h))).begins in omega (arith, still, after)) in
      let own : ((eqb row.phase k) && covers row x) ≡ true = elim (cases_Bool ((eqb row.phase k) && covers row x)) [ inl t ↦ t | inr f ↦ absurd (true≢false (sym is ∙ or_from ((eqb row.phase k) && covers row x) (is_green rows k x) f none)) ] in
      record {
        row = row;
        phase = eqb-true row.phase k (and_parts (eqb row.phase k) (covers row x) own).0;
        green = lawful-first plan row rows lawful;
        begun = leb-true row.from x both.0;
        still = still;
        found = λ y low high. ap (λ (b : Bool). cond b (Some row) (green_at rows y)) (and_from (leb row.from y) (ltb y row.to) (le-leb row.from y low) (lt-ltb y row.to high));
        later = omega arith;
      }

  behind : (row : Green) (rows : List Green) (k x : ℕ) → IsLawful plan (row ∷ rows) → is_green (row ∷ rows) k x ≡ true → covers row x ≡ false → 0 < length rows → IsShown plan rows k x → IsShown plan (row ∷ rows) k x
  behind row rows k x lawful is e some one =
      let after = (lawful.order 0 (omega (arith, some))).begins in
      let long = green-length plan row p (lawful-first plan row rows lawful) in
      let past : row.to ≤ one.row.from = omega (arith, after, one.later) in
      record {
        row = one.row;
        phase = one.phase;
        green = one.green;
        begun = one.begun;
        still = one.still;
        found = λ y low high. ap (λ (b : Bool). cond b (Some row) (green_at rows y)) (and_right (leb row.from y) (ltb y row.to) (le-ltb y row.to (omega (arith, past, low)))) ∙ one.found y low high;
        later = omega (arith, past, long);
      }

  pub shown : (rows : List Green) (k x : ℕ) → IsLawful plan rows → is_green rows k x ≡ true → IsShown plan rows k x
  shown [] k x lawful is = absurd (true≢false (sym is))
  shown (row ∷ []) k x lawful is = elim (cases_Bool (covers row x)) [
    | inl t ↦ here row [] k x lawful is t
    | inr f ↦ absurd (true≢false (sym is ∙ or_from ((eqb row.phase k) && covers row x) false (and_right (eqb row.phase k) (covers row x) f) refl))
  ]
  shown (row ∷ next ∷ rows) k x lawful is =
      let others = lawful-tail plan row (next ∷ rows) lawful in
      elim (cases_Bool (covers row x)) [
        | inl t ↦ here row (next ∷ rows) k x lawful is t
        | inr f ↦
            let behind_row : is_green (next ∷ rows) k x ≡ true = elim (cases_Bool (is_green (next ∷ rows) k x)) [
              | inl t ↦ t
              | inr g ↦ absurd (true≢false (sym is ∙ or_from ((eqb row.phase k) && covers row x) (is_green (next ∷ rows) k x) (and_right (eqb row.phase k) (covers row x) f) g))
            ] in
            behind row (next ∷ rows) k x lawful is f (omega arith) (shown (next ∷ rows) k x others behind_row)
      ]

-- a sign that shows this green is on
on-is : (s : Sign) (k since : ℕ) → on_of s ≡ Some (k, since) → s ≡ On k since
on-is (On phase from) k since e = ap (λ (g : ℕ × ℕ). On g.0 g.1) (same_Some (phase, from) (k, since) e)
on-is (Change before after) k since e = absurd (none-some (k, since) e)
on-is Dark k since e = absurd (none-some (k, since) e)

-- the sign of a second in which a line shows a row of phase k
pub on-at : (rows : List Green) (y : ℕ) (row : Green) (k : ℕ) → IsInOrder rows → green_at rows y ≡ Some row → row.phase ≡ k → sign_at rows y ≡ On k row.from
on-at rows y row k order found same =
    on-is (sign_at rows y) row.phase row.from (standing-green rows y order ∙ ap (option_map (λ (r : Green). (r.phase, r.from))) found) ∙ ap (λ (j : ℕ). On j row.from) same

-- What a report tells of a line shows what the line shows before the end of the run.
use Rattle.std.proofs.Common.{◌≡◌, ℕ, ◌<◌, ◌≤◌, Bool, true, false, List, [], ◌∷◌, All, Option, None, Some, refl, sym, ap, subst, ◌∙◌, inl, inr, arith}
use Rattle.std.proofs.lemmas.Bool.{cases_lt, cond_below, cond_above}
use Rattle.std.proofs.lemmas.List.Elements.{All-cons, All-head, All-nil, All-tail}
use Rattle.control_flow.specs.Greens.{row_at, standing}
use Rattle.control_flow.specs.Signs.{on_of, sign_after, sign_at}
use Rattle.control_flow.specs.declared.greens.Green.{Green}
use Rattle.control_flow.proofs.SignLaws.{before-row, change-off, on-row, same-row, within-row}
use Rattle.world_records.specs.Told.{told_after, told_by, told_rows}

-- a row that is told, with those after it, and one that is not
module _ (through : Bool) (end last : ℕ) (row : Green) (rows : List Green) where
  pub row-told : told_by through last row < end → told_after through end last (row ∷ rows) ≡ row ∷ told_after through end row.to rows
  row-told before = sym (cond_below (told_by through last row) end (row ∷ told_after through end row.to rows) [] before)

  pub row-late : end ≤ told_by through last row → told_after through end last (row ∷ rows) ≡ []
  row-late after = sym (cond_above (told_by through last row) end (row ∷ told_after through end row.to rows) [] [] after refl)

-- what holds of all rows holds of those that are told
pub told-all : (P : Green → Type 0) (through : Bool) (end last : ℕ) (rows : List Green) → All P rows → All P (told_after through end last rows)
told-all P through end last [] all = all
told-all P through end last (row ∷ rows) all = elim (cases_lt (told_by through last row) end) [
  | inl before ↦ subst (All P) (sym (row-told through end last row rows before)) (All-cons P row (told_after through end row.to rows) (All-head P row rows all) (told-all P through end row.to rows (All-tail P row rows all)))
  | inr after ↦ subst (All P) (sym (row-late through end last row rows after)) (All-nil P)
]

-- of a node that is through they show the sign that the line shows

told-same : (end : ℕ) (row : Green) (rows : List Green) (before : Option ℕ) (second : ℕ) → second < end → sign_after before (row ∷ told_after true end row.to rows) second ≡ sign_after before (row ∷ rows) second
told-same end row [] before second early = refl
told-same end row (next ∷ rows) before second early = elim (cases_lt row.to end) [
  | inl more ↦
      ap (λ (l : List Green). sign_after before (row ∷ l) second) (row-told true end row.to next rows more)
      ∙ same-row before row (next ∷ told_after true end next.to rows) (next ∷ rows) second (told-same end next rows (Some row.phase) second early)
  | inr last ↦
      ap (λ (l : List Green). sign_after before (row ∷ l) second) (row-late true end row.to next rows last)
      ∙ elim (cases_lt second row.from) [
        | inl sooner ↦ before-row before row [] second sooner ∙ sym (before-row before row (next ∷ rows) second sooner)
        | inr begun ↦ within-row before row [] second begun (omega (arith, last, early)) ∙ sym (within-row before row (next ∷ rows) second begun (omega (arith, last, early)))
      ]
]

pub told-shows : (end : ℕ) (rows : List Green) (second : ℕ) → second < end → sign_at (told_rows true end rows) second ≡ sign_at rows second
told-shows end [] second early = refl
told-shows end (row ∷ rows) second early = elim (cases_lt row.from end) [
  | inl some ↦ ap (λ (l : List Green). sign_at l second) (row-told true end row.from row rows some) ∙ told-same end row rows None second early
  | inr none ↦ ap (λ (l : List Green). sign_at l second) (row-late true end row.from row rows none) ∙ sym (before-row None row rows second (omega (arith, none, early)))
]

-- of any other they show the greens that the line shows

told-on : (before : Option ℕ) (end last second : ℕ) → second < end → (rows : List Green) → on_of (sign_after before (told_after false end last rows) second) ≡ on_of (sign_after before rows second)
told-on before end last second early [] = refl
told-on before end last second early (row ∷ rows) = elim (cases_lt row.from end) [
  | inl begun ↦
      ap (λ (l : List Green). on_of (sign_after before l second)) (row-told false end last row rows begun)
      ∙ on-row before row (told_after false end row.to rows) rows second (told-on (Some row.phase) end row.to second early rows)
  | inr late ↦
      ap (λ (l : List Green). on_of (sign_after before l second)) (row-late false end last row rows late)
      ∙ sym (ap on_of (before-row before row rows second (omega (arith, late, early))) ∙ change-off before row.phase)
]

-- in both cases the same phase is green, since the same second
pub told-standing : (through : Bool) (end : ℕ) (rows : List Green) (second : ℕ) → second < end → standing (told_rows through end rows) second ≡ standing rows second
told-standing true end rows second early = ap on_of (told-shows end rows second early)
told-standing false end rows second early = told-on None end (row_at rows 0).from second early rows

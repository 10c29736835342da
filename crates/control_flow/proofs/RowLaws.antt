-- Lists of greens: lawful ones, their ends, and what they show at a second.
use Rattle.std.proofs.Common.{◌≡◌, ℕ, zero, suc, ◌+◌, ◌<◌, ◌≤◌, List, [], ◌∷◌, ◌++◌, length, All, Some, None, refl, subst, ◌∙◌, inl, inr, arith}
use Rattle.std.proofs.lemmas.Bool.{cases_lt, cond_below, cond_above}
use Rattle.std.proofs.lemmas.List.Elements.{All-nil, All-cons, All-head, All-tail}
use Rattle.phase_plan.specs.declared.Phase.{Phase}
use Rattle.control_flow.specs.declared.greens.Green.{Green}
use Rattle.control_flow.specs.Greens.{row_at, end_of, IsGreen, Follows, IsLawful, row_after}

-- lawful rows, one by one

pub lawful-nil : (plan : List Phase) → IsLawful plan []
lawful-nil plan = record { greens = All-nil (IsGreen plan); order = λ k h. absurd (omega arith) }

order-cons : (plan : List Phase) (row : Green) (rows : List Green) → (0 < length rows → Follows plan row (row_at rows 0)) → IsLawful plan rows
    → (k : ℕ) → k + 1 < length (row ∷ rows) → Follows plan (row_at (row ∷ rows) k) (row_at (row ∷ rows) (k + 1))
order-cons plan row rows first others zero h = first (omega arith)
order-cons plan row rows first others (suc k) h =
    let e : suc (k + 1) ≡ suc k + 1 = omega arith in
    subst (λ i. Follows plan (row_at rows k) (row_at (row ∷ rows) i)) e (others.order k (omega arith))

pub lawful-cons : (plan : List Phase) (row : Green) (rows : List Green) → IsGreen plan row → (0 < length rows → Follows plan row (row_at rows 0)) → IsLawful plan rows → IsLawful plan (row ∷ rows)
lawful-cons plan row rows green first others = record {
  greens = All-cons (IsGreen plan) row rows green others.greens;
  order = order-cons plan row rows first others;
}

pub lawful-tail : (plan : List Phase) (row : Green) (rows : List Green) → IsLawful plan (row ∷ rows) → IsLawful plan rows
lawful-tail plan row rows lawful = record {
  greens = All-tail (IsGreen plan) row rows lawful.greens;
  order = λ k h.
      let e : suc k + 1 ≡ suc (k + 1) = omega arith in
      subst (λ i. Follows plan (row_at rows k) (row_at (row ∷ rows) i)) e (lawful.order (suc k) (omega arith));
}

pub lawful-first : (plan : List Phase) (row : Green) (rows : List Green) → IsLawful plan (row ∷ rows) → IsGreen plan row
lawful-first plan row rows lawful = All-head (IsGreen plan) row rows lawful.greens

pub lawful-next : (plan : List Phase) (row next : Green) (rows : List Green) → IsLawful plan (row ∷ next ∷ rows) → Follows plan row next
lawful-next plan row next rows lawful = lawful.order 0 (omega arith)

-- the end of a timeline is that of its last part
pub end_of-append : (xs : List Green) (y : Green) (ys : List Green) → end_of (xs ++ y ∷ ys) ≡ end_of (y ∷ ys)
end_of-append [] y ys = refl
end_of-append (x ∷ []) y ys = refl
end_of-append (x ∷ next ∷ xs) y ys = end_of-append (next ∷ xs) y ys

pub end_of-last : (xs rows : List Green) → 0 < length rows → end_of (xs ++ rows) ≡ end_of rows
end_of-last xs [] h = absurd (omega arith)
end_of-last xs (y ∷ ys) h = end_of-append xs y ys

-- where no row ends after a second, the timeline does not
pub row_after-none : (rows : List Green) (now : ℕ) → row_after rows now ≡ None → end_of rows ≤ now
row_after-none [] now e = omega arith
row_after-none (row ∷ []) now e = elim (cases_lt now row.to) [
  | inl h ↦ let f = cond_below now row.to (Some row) (row_after [] now) h in cc
  | inr h ↦ h
]
row_after-none (row ∷ next ∷ rows) now e = elim (cases_lt now row.to) [
  | inl h ↦ let f = cond_below now row.to (Some row) (row_after (next ∷ rows) now) h in cc
  | inr h ↦ row_after-none (next ∷ rows) now (cond_above now row.to (Some row) (row_after (next ∷ rows) now) (row_after (next ∷ rows) now) h refl ∙ e)
]

-- the row that ends after a second does so, and is one of the rows
pub row_after-some : (P : Green → Type 0) (rows : List Green) (now : ℕ) (row : Green) → All P rows → row_after rows now ≡ Some row → P row × (now < row.to)
row_after-some P [] now row all e = let impossible : ⊥ = cc in absurd impossible
row_after-some P (first ∷ rows) now row all e = elim (cases_lt now first.to) [
  | inl h ↦
      let f = cond_below now first.to (Some first) (row_after rows now) h in
      let same : first ≡ row = cc in
      subst (λ (r : Green). P r × (now < r.to)) same (All-head P first rows all, h)
  | inr h ↦ row_after-some P rows now row (All-tail P first rows all) (cond_above now first.to (Some first) (row_after rows now) (row_after rows now) h refl ∙ e)
]

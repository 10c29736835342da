-- Lists whose elements are set one after another: those before a place are set, and those from it on are as they were.
use Rattle.std.proofs.Common.{◌≡◌, ℕ, ◌+◌, ◌<◌, ◌≤◌, List, length, set, slice_index, sym, ap, ◌∙◌, inl, inr, arith}
use Rattle.std.proofs.lemmas.List.{get_or-set_other, get_or-set_same}
use Rattle.std.proofs.lemmas.Bool.Decides.{eqb_tells}

-- one more element is what a function tells of its place
pub first-more : (f : ℕ → ℕ) (xs : List ℕ) (l a : ℕ) → l < length xs → a ≡ f l → ((k : ℕ) → k < l → slice_index xs k ≡ f k) → (k : ℕ) → k < l + 1 → slice_index (set xs l a) k ≡ f k
first-more f xs l a inside is before k h = elim (eqb_tells k l) [
  | inl p ↦ rw p.1 (get_or-set_same xs l a 0 inside ∙ is)
  | inr q ↦ let ne = q.1 in get_or-set_other xs l k a 0 ne ∙ before k (omega (arith, h))
]

-- and of the element of another list, which is set too
pub pair-more : (g : ℕ → ℕ → ℕ) (xs ys : List ℕ) (l a b : ℕ) → l < length xs → l < length ys → b ≡ g l a → ((k : ℕ) → k < l → slice_index ys k ≡ g k (slice_index xs k))
    → (k : ℕ) → k < l + 1 → slice_index (set ys l b) k ≡ g k (slice_index (set xs l a) k)
pair-more g xs ys l a b inside there is before k h = elim (eqb_tells k l) [
  | inl p ↦ rw p.1 (get_or-set_same ys l b 0 there ∙ is ∙ ap (g l) (sym (get_or-set_same xs l a 0 inside)))
  | inr q ↦ let ne = q.1 in get_or-set_other ys l k b 0 ne ∙ before k (omega (arith, h)) ∙ ap (g k) (sym (get_or-set_other xs l k a 0 ne))
]

-- the elements after it are as they were
pub rest-still : (f : ℕ → ℕ) (xs : List ℕ) (l a : ℕ) → ((k : ℕ) → l ≤ k → slice_index xs k ≡ f k) → (k : ℕ) → l + 1 ≤ k → slice_index (set xs l a) k ≡ f k
rest-still f xs l a rest k h = get_or-set_other xs l k a 0 (λ e. omega (arith, e, h)) ∙ rest k (omega (arith, h))

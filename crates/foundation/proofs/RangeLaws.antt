-- Numbers one after another.
use Rattle.std.proofs.Common.{◌≡◌, ℕ, zero, suc, ◌+◌, ◌-◌, ◌≤◌, List, [], ◌∷◌, ◌++◌, ap, ◌∙◌, arith}
use Rattle.std.specs.List.{range_with_len}

-- one number more at the end
pub range-push : (low count : ℕ) → range_with_len low (count + 1) ≡ range_with_len low count ++ (low + count) ∷ []
range-push low zero = let e : low ≡ low + 0 = omega arith in ap (λ (k : ℕ). k ∷ []) e
range-push low (suc count) =
    let one : suc count + 1 ≡ suc (count + 1) = omega arith in
    let e : low + 1 + count ≡ low + suc count = omega arith in
    ap (range_with_len low) one ∙ ap (λ (ks : List ℕ). low ∷ ks) (range-push (low + 1) count ∙ ap (λ (k : ℕ). range_with_len (low + 1) count ++ k ∷ []) e)

-- the numbers from `low` up to one, and that one
pub range-more : (low k : ℕ) → low ≤ k → range_with_len low (k + 1 - low) ≡ range_with_len low (k - low) ++ k ∷ []
range-more low k h =
    let one : k + 1 - low ≡ k - low + 1 = omega arith in
    let e : low + (k - low) ≡ k = omega arith in
    ap (range_with_len low) one ∙ range-push low (k - low) ∙ ap (λ (j : ℕ). range_with_len low (k - low) ++ j ∷ []) e

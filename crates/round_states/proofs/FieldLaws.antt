-- The fields of a record.
use Rattle.std.proofs.Common.{◌≡◌, ℕ, List, [], ◌∷◌, length, Some, arith}
use Rattle.csv.specs.Records.{field_at}

-- five fields that were read one after another are all of them
pub five-fields : (fs : List (List ℕ)) (a b c d e : List ℕ) → length fs ≡ 5 → Some a ≡ field_at fs 0 → Some b ≡ field_at fs 1 → Some c ≡ field_at fs 2 → Some d ≡ field_at fs 3 → Some e ≡ field_at fs 4 → fs ≡ a ∷ b ∷ c ∷ d ∷ e ∷ []
unfolding field_at
five-fields [] a b c d e five f0 f1 f2 f3 f4 = absurd (omega arith)
five-fields (v ∷ []) a b c d e five f0 f1 f2 f3 f4 = absurd (omega arith)
five-fields (v ∷ w ∷ []) a b c d e five f0 f1 f2 f3 f4 = absurd (omega arith)
five-fields (v ∷ w ∷ x ∷ []) a b c d e five f0 f1 f2 f3 f4 = absurd (omega arith)
five-fields (v ∷ w ∷ x ∷ y ∷ []) a b c d e five f0 f1 f2 f3 f4 = absurd (omega arith)
five-fields (v ∷ w ∷ x ∷ y ∷ z ∷ []) a b c d e five f0 f1 f2 f3 f4 = cc
five-fields (v ∷ w ∷ x ∷ y ∷ z ∷ u ∷ more) a b c d e five f0 f1 f2 f3 f4 = absurd (omega arith)

-- The fields of a record.
use Rattle.std.proofs.Common.{◌≡◌, ℕ, List, [], ◌∷◌, length, Some, arith}
use Rattle.csv.specs.Records.{field_at}

-- seven fields that were read one after another are all of them
pub seven-fields : (fs : List (List ℕ)) (a b c d e f g : List ℕ) → length fs ≡ 7 → Some a ≡ field_at fs 0 → Some b ≡ field_at fs 1 → Some c ≡ field_at fs 2 → Some d ≡ field_at fs 3 → Some e ≡ field_at fs 4 → Some f ≡ field_at fs 5 → Some g ≡ field_at fs 6 → fs ≡ a ∷ b ∷ c ∷ d ∷ e ∷ f ∷ g ∷ []
unfolding field_at
seven-fields [] a b c d e f g seven p0 p1 p2 p3 p4 p5 p6 = absurd (omega arith)
seven-fields (x0 ∷ []) a b c d e f g seven p0 p1 p2 p3 p4 p5 p6 = absurd (omega arith)
seven-fields (x0 ∷ x1 ∷ []) a b c d e f g seven p0 p1 p2 p3 p4 p5 p6 = absurd (omega arith)
seven-fields (x0 ∷ x1 ∷ x2 ∷ []) a b c d e f g seven p0 p1 p2 p3 p4 p5 p6 = absurd (omega arith)
seven-fields (x0 ∷ x1 ∷ x2 ∷ x3 ∷ []) a b c d e f g seven p0 p1 p2 p3 p4 p5 p6 = absurd (omega arith)
seven-fields (x0 ∷ x1 ∷ x2 ∷ x3 ∷ x4 ∷ []) a b c d e f g seven p0 p1 p2 p3 p4 p5 p6 = absurd (omega arith)
seven-fields (x0 ∷ x1 ∷ x2 ∷ x3 ∷ x4 ∷ x5 ∷ []) a b c d e f g seven p0 p1 p2 p3 p4 p5 p6 = absurd (omega arith)
seven-fields (x0 ∷ x1 ∷ x2 ∷ x3 ∷ x4 ∷ x5 ∷ x6 ∷ []) a b c d e f g seven p0 p1 p2 p3 p4 p5 p6 = cc
seven-fields (x0 ∷ x1 ∷ x2 ∷ x3 ∷ x4 ∷ x5 ∷ x6 ∷ x7 ∷ more) a b c d e f g seven p0 p1 p2 p3 p4 p5 p6 = absurd (omega arith)

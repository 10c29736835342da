-- The fields of a record.
use Rattle.std.proofs.Common.{◌≡◌, ◌≢◌, ℕ, List, [], ◌∷◌, length, Some, None, refl, arith}
use Rattle.csv.specs.Records.{field_at}
use Rattle.fixed_plans.specs.Records.{parse}

-- four fields that were read one after another are all of them
pub four-fields : (fs : List (List ℕ)) (a b c d : List ℕ) → length fs ≡ 4 → Some a ≡ field_at fs 0 → Some b ≡ field_at fs 1 → Some c ≡ field_at fs 2 → Some d ≡ field_at fs 3 → fs ≡ a ∷ b ∷ c ∷ d ∷ []
unfolding field_at
four-fields [] a b c d four p0 p1 p2 p3 = absurd (omega arith)
four-fields (x ∷ []) a b c d four p0 p1 p2 p3 = absurd (omega arith)
four-fields (x ∷ y ∷ []) a b c d four p0 p1 p2 p3 = absurd (omega arith)
four-fields (x ∷ y ∷ z ∷ []) a b c d four p0 p1 p2 p3 = absurd (omega arith)
four-fields (x ∷ y ∷ z ∷ w ∷ []) a b c d four p0 p1 p2 p3 = cc
four-fields (x ∷ y ∷ z ∷ w ∷ v ∷ more) a b c d four p0 p1 p2 p3 = absurd (omega arith)

-- a record of another length tells nothing
pub parse-none : (fs : List (List ℕ)) → length fs ≢ 4 → parse fs ≡ None
parse-none [] other = refl
parse-none (x ∷ []) other = refl
parse-none (x ∷ y ∷ []) other = refl
parse-none (x ∷ y ∷ z ∷ []) other = refl
parse-none (x ∷ y ∷ z ∷ w ∷ []) other = absurd (other (omega arith))
parse-none (x ∷ y ∷ z ∷ w ∷ v ∷ more) other = refl

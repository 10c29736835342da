-- The fields of a record.
use Rattle.std.proofs.Common.{◌≡◌, ◌≢◌, ℕ, List, [], ◌∷◌, length, Some, None, refl, arith}
use Rattle.csv.specs.Records.{field_at}
use Rattle.arrivals.specs.Records.{parse}

-- three fields that were read one after another are all of them
pub three-fields : (fs : List (List ℕ)) (a b c : List ℕ) → length fs ≡ 3 → Some a ≡ field_at fs 0 → Some b ≡ field_at fs 1 → Some c ≡ field_at fs 2 → fs ≡ a ∷ b ∷ c ∷ []
unfolding field_at
three-fields [] a b c three first second third = absurd (omega arith)
three-fields (x ∷ []) a b c three first second third = absurd (omega arith)
three-fields (x ∷ y ∷ []) a b c three first second third = absurd (omega arith)
three-fields (x ∷ y ∷ z ∷ []) a b c three first second third = cc
three-fields (x ∷ y ∷ z ∷ w ∷ more) a b c three first second third = absurd (omega arith)

-- a record of another length tells nothing
pub parse-none : (fs : List (List ℕ)) → length fs ≢ 3 → parse fs ≡ None
parse-none [] other = refl
parse-none (x ∷ []) other = refl
parse-none (x ∷ y ∷ []) other = refl
parse-none (x ∷ y ∷ z ∷ []) other = absurd (other (omega arith))
parse-none (x ∷ y ∷ z ∷ w ∷ more) other = refl

-- The fields of a record.
use Rattle.std.proofs.Common.{◌≡◌, ◌≢◌, ℕ, List, [], ◌∷◌, length, Some, None, refl, arith}
use Rattle.csv.specs.Records.{field_at}
use Rattle.spillback_world.specs.StoreRecords.{parse}

-- two fields that were read one after another are all of them
pub two-fields : (fs : List (List ℕ)) (a b : List ℕ) → length fs ≡ 2 → Some a ≡ field_at fs 0 → Some b ≡ field_at fs 1 → fs ≡ a ∷ b ∷ []
unfolding field_at
two-fields [] a b two first second = absurd (omega arith)
two-fields (x ∷ []) a b two first second = absurd (omega arith)
two-fields (x ∷ y ∷ []) a b two first second = cc
two-fields (x ∷ y ∷ z ∷ more) a b two first second = absurd (omega arith)

-- a record of another length tells nothing
pub parse-none : (fs : List (List ℕ)) → length fs ≢ 2 → parse fs ≡ None
parse-none [] other = refl
parse-none (x ∷ []) other = refl
parse-none (x ∷ y ∷ []) other = absurd (other (omega arith))
parse-none (x ∷ y ∷ z ∷ more) other = refl

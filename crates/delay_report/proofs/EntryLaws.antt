-- The fields of a record.
use Rattle.std.proofs.Common.{◌≡◌, ◌≢◌, ℕ, List, [], ◌∷◌, length, None, refl, arith}
use Rattle.delay_report.specs.Entries.{node_field_of}

-- a record of another length tells nothing
pub parsed-none : (fs : List (List ℕ)) → length fs ≢ 7 → node_field_of fs ≡ None
parsed-none [] other = refl
parsed-none (x0 ∷ []) other = refl
parsed-none (x0 ∷ x1 ∷ []) other = refl
parsed-none (x0 ∷ x1 ∷ x2 ∷ []) other = refl
parsed-none (x0 ∷ x1 ∷ x2 ∷ x3 ∷ []) other = refl
parsed-none (x0 ∷ x1 ∷ x2 ∷ x3 ∷ x4 ∷ []) other = refl
parsed-none (x0 ∷ x1 ∷ x2 ∷ x3 ∷ x4 ∷ x5 ∷ []) other = refl
parsed-none (x0 ∷ x1 ∷ x2 ∷ x3 ∷ x4 ∷ x5 ∷ x6 ∷ []) other = absurd (other (omega arith))
parsed-none (x0 ∷ x1 ∷ x2 ∷ x3 ∷ x4 ∷ x5 ∷ x6 ∷ x7 ∷ more) other = refl

-- The end of a timeline.
use Rattle.std.proofs.Common.{◌≡◌, suc, ◌-◌, List, [], ◌∷◌, length, Some, slice_get, ap, subst, arith}
use Rattle.std.proofs.lemmas.Option.{same_Some, none-some}
use Rattle.control_flow.specs.declared.greens.Green.{Green}
use Rattle.control_flow.specs.Greens.{end_of}

-- a timeline ends as its last row does
pub end-last : (rows : List Green) (row : Green) → slice_get rows (length rows - 1) ≡ Some row → end_of rows ≡ row.to
end-last [] row e = absurd (none-some row e)
end-last (a ∷ []) row e = ap (λ (r : Green). r.to) (same_Some a row e)
end-last (a ∷ b ∷ rows) row e = end-last (b ∷ rows) row (let at : length (a ∷ b ∷ rows) - 1 ≡ suc (length (b ∷ rows) - 1) = omega arith in subst (λ k. slice_get (a ∷ b ∷ rows) k ≡ Some row) at e)

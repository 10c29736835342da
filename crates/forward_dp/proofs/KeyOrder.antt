-- Rows compare as their numbers.
use Rattle.std.proofs.Common.{◌≡◌, ℕ, ◌+◌, ◌*◌, ◌<◌, List, [], ◌∷◌, ◌++◌, get_or, sym, subst, inl, inr, arith}
use Rattle.std.proofs.lemmas.Bool.{cases_eq, cases_lt}
use Rattle.schedule_meaning.specs.Instances.{Problem}
use Rattle.dp_certificate.specs.Certificates.{IsBefore, digits_of}
use Rattle.dp_certificate.specs.Proves.{stage_of_entry}
use Rattle.forward_dp.specs.declared.rows.Row.{Row}
use Rattle.forward_dp.specs.Tables.{row_number}
use Rattle.forward_dp.proofs.RowLaws.{IsLed, four}

three-way : {P : Type 0} (x y : ℕ) → (x < y → P) → (x ≡ y → P) → (y < x → P) → P
three-way x y less same more = elim (cases_lt x y) [
  | inl h ↦ less h
  | inr h ↦ elim (cases_eq x y) [ inl e ↦ same e | inr other ↦ more (omega arith) ]
]

-- the number of seven digits
abbrev seven : ℕ → ℕ → ℕ → ℕ → ℕ → ℕ → ℕ → ℕ
seven a b c d e f g = ((((a * 64 + b) * 64 + c) * 64 + d) * 4 + e) * 18446744073709551616 + (f * 4294967296 + g)

seven-rise : (a b c d e f g a' b' c' d' e' f' g' : ℕ) → b < 64 → c < 64 → d < 64 → e < 4 → f < 131072 → g < 131072 → b' < 64 → c' < 64 → d' < 64 → e' < 4 → f' < 131072 → g' < 131072
    → seven a b c d e f g < seven a' b' c' d' e' f' g' → IsBefore (a ∷ b ∷ c ∷ d ∷ e ∷ f ∷ g ∷ []) (a' ∷ b' ∷ c' ∷ d' ∷ e' ∷ f' ∷ g' ∷ [])
seven-rise a b c d e f g a' b' c' d' e' f' g' hb hc hd he hf hg kb kc kd ke kf kg less =
    three-way a a' (λ h. inl h) (λ ea. inr (
      ea,
      three-way b b' (λ h. inl h) (λ eb. inr (
        eb,
        three-way c c' (λ h. inl h) (λ ec. inr (
          ec,
          three-way d d' (λ h. inl h) (λ ed. inr (
            ed,
            three-way e e' (λ h. inl h) (λ ee. inr (ee, three-way f f' (λ h. inl h) (λ ef. inr (ef, inl (omega arith))) (λ h. absurd (omega arith)))) (λ h. absurd (omega arith)),
          ))
              (λ h. absurd (omega arith)),
        )) (λ h. absurd (omega arith)),
      )) (λ h. absurd (omega arith)),
    )) (λ h. absurd (omega arith))

-- a row with a lesser number has a key before that of the other
pub keys-rise : (p : Problem) (u v : List ℕ) (a b : Row) → IsLed p u (stage_of_entry p a.entry) → IsLed p v (stage_of_entry p b.entry) → row_number a < row_number b → IsBefore (digits_of a.entry) (digits_of b.entry)
keys-rise p u v a b la lb less =
    let xs = a.entry.counts in
    let ys = b.entry.counts in
    subst (λ zs. IsBefore (zs ++ a.entry.phase ∷ a.entry.since ∷ a.entry.at ∷ []) (ys ++ b.entry.phase ∷ b.entry.since ∷ b.entry.at ∷ [])) (sym (four xs la.stage.places))
    (subst (λ zs. IsBefore ((get_or xs 0 0 ∷ get_or xs 1 0 ∷ get_or xs 2 0 ∷ get_or xs 3 0 ∷ []) ++ a.entry.phase ∷ a.entry.since ∷ a.entry.at ∷ []) (zs ++ b.entry.phase ∷ b.entry.since ∷ b.entry.at ∷ [])) (sym (four ys lb.stage.places))
    (seven-rise (get_or xs 0 0) (get_or xs 1 0) (get_or xs 2 0) (get_or xs 3 0) a.entry.phase a.entry.since a.entry.at (get_or ys 0 0) (get_or ys 1 0) (get_or ys 2 0) (get_or ys 3 0) b.entry.phase b.entry.since b.entry.at
    (la.digits 1) (la.digits 2) (la.digits 3) la.phase la.since la.at (lb.digits 1) (lb.digits 2) (lb.digits 3) lb.phase lb.since lb.at less))

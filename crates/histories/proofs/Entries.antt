-- Each entry of a node has a place.
use Rattle.std.proofs.Common.{◌≡◌, ℕ, zero, suc, ◌<◌, List, [], ◌∷◌, take, refl, ap, ◌∙◌, inl, inr, arith}
use Rattle.std.proofs.lemmas.Bool.{cases_eq}
use Rattle.histories.specs.Histories.{count, IsEntry}
use Rattle.histories.proofs.Counts.{count-here, count-else}

pub entry : (h : List ℕ) (n c : ℕ) → c < count n h → (place : ℕ) × IsEntry h n c place
entry [] n c inside = absurd (omega arith)
entry (m ∷ h) n c inside = elim (cases_eq m n) [
  | inl here ↦ first (entry h n) c inside here
  | inr there ↦
      let fewer = count-else m n h there in
      let (place, e) = entry h n c (omega arith) in
      let i = e.inside in
      (suc place, record { inside = omega arith; node_there = e.node_there; counted = count-else m n (take place h) there ∙ e.counted })
]
  where
    first : ((c : ℕ) → c < count n h → (place : ℕ) × IsEntry h n c place) → (c : ℕ) → c < count n (m ∷ h) → m ≡ n → (place : ℕ) × IsEntry (m ∷ h) n c place
    first more zero inside here = (zero, record { inside = omega arith; node_there = here; counted = refl })
    first more (suc c) inside here =
        let one : count n (m ∷ h) ≡ suc (count n h) = ap (λ k. count n (k ∷ h)) here ∙ count-here n h in
        let (place, e) = more c (omega arith) in
        let i = e.inside in
        (suc place, record { inside = omega arith; node_there = e.node_there; counted = ap (λ k. count n (k ∷ take place h)) here ∙ count-here n (take place h) ∙ ap suc e.counted })

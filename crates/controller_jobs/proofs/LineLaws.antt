-- The line of a factor, piece after piece.
use Rattle.std.proofs.Common.{◌≡◌, ℕ, List, [], ◌∷◌, ◌++◌, codes, ap, ◌∙◌, append_assoc}
use Rattle.std.specs.Fmt.{decimal}
use Rattle.std.specs.List.{join_with_byte}
use Rattle.net_simulator.specs.declared.totals.Totals.{Totals}
use Rattle.bounded_runs.specs.Totals.{totals_words}
use Rattle.controller_jobs.specs.Controllers.{scale_line}

line-parts : (text : List ℕ) (factor : ℕ) (a b : Totals)
    → (((text ++ decimal factor) ++ 32 ∷ join_with_byte 32 (codes "planned" ∷ totals_words a)) ++ 32 ∷ join_with_byte 32 (codes "actuated" ∷ totals_words b)) ++ 10 ∷ []
    ≡ text ++ scale_line factor a b
line-parts text factor a b = simp append_assoc

-- a text that gained them has gained the line
pub line-gained : (t0 t1 t2 t3 t4 : List ℕ) (n factor : ℕ) (a b : Totals) → n ≡ factor → t1 ≡ t0 ++ decimal n → t2 ≡ t1 ++ 32 ∷ join_with_byte 32 (codes "planned" ∷ totals_words a)
    → t3 ≡ t2 ++ 32 ∷ join_with_byte 32 (codes "actuated" ∷ totals_words b) → t4 ≡ t3 ++ 10 ∷ [] → t4 ≡ t0 ++ scale_line factor a b
line-gained t0 t1 t2 t3 t4 n factor a b same number planned actuated end =
    let one : t1 ≡ t0 ++ decimal factor = number ∙ ap (λ k. t0 ++ decimal k) same in
    let two = planned ∙ ap (λ (l : List ℕ). l ++ 32 ∷ join_with_byte 32 (codes "planned" ∷ totals_words a)) one in
    let three = actuated ∙ ap (λ (l : List ℕ). l ++ 32 ∷ join_with_byte 32 (codes "actuated" ∷ totals_words b)) two in
    end ∙ ap (λ (l : List ℕ). l ++ 10 ∷ []) three ∙ line-parts t0 factor a b

-- What holds of each phase between two.
use Rattle.std.proofs.Common.{◌≡◌, ◌↔◌, ℕ, ◌+◌, ◌-◌, ◌<◌, ◌≤◌, List, ◌++◌, length, get_or, All, sym, ap, subst, ◌∙◌, arith}
use Rattle.std.specs.List.{range_with_len}
use Rattle.std.proofs.lemmas.Bool.{cond_above}
use Rattle.std.proofs.lemmas.List.{get_or-append-add, get_or_append_left, length-append}
use Rattle.std.proofs.lemmas.List.FromFn.{length-range_with_len, get_or-range_with_len}
use Rattle.std.proofs.lemmas.List.Elements.{All-append}
use Rattle.phase_plan.specs.Phases.{between}
use Rattle.phase_plan.specs.declared.Phase.{Phase}

-- all numbers of a range, and each of them
pub all-of-range : (P : ℕ → Type 0) (low high : ℕ) → ((k : ℕ) → low ≤ k → k < high → P k) → All P (range_with_len low (high - low))
all-of-range P low high each i d below =
    let inside : i < high - low = omega (arith, below, length-range_with_len low (high - low)) in
    subst P (sym (get_or-range_with_len low (high - low) i d inside)) (each (low + i) (omega arith) (omega (arith, inside)))

pub each-of-range : (P : ℕ → Type 0) (low high : ℕ) → All P (range_with_len low (high - low)) → (k : ℕ) → low ≤ k → k < high → P k
each-of-range P low high all k from to =
    let inside : k - low < high - low = omega (arith, from, to) in
    let at : get_or (range_with_len low (high - low)) (k - low) 0 ≡ low + (k - low) = get_or-range_with_len low (high - low) (k - low) 0 inside in
    let is : get_or (range_with_len low (high - low)) (k - low) 0 ≡ k = omega (arith, at, from) in
    subst P is (all (k - low) 0 (omega (arith, inside, length-range_with_len low (high - low))))

-- what holds of all elements of two lists holds of those of each
all-parts : (P : ℕ → Type 0) (xs ys : List ℕ) → All P (xs ++ ys) → All P xs × All P ys
all-parts P xs ys all = (
  (λ k d below. subst P (get_or_append_left xs ys d k below) (all k d (omega (arith, below, length-append xs ys)))),
  (λ k d below. subst P (get_or-append-add xs ys k d) (all (length xs + k) d (omega (arith, below, length-append xs ys)))),
)

-- where the ring comes round, the phases between two are those up to the end of the plan and those from its begin on
pub all-round : (P : ℕ → Type 0) (plan : List Phase) (s j count : ℕ) → count ≡ length plan → j ≤ s
    → (All P (range_with_len (s + 1) (count - (s + 1))) × All P (range_with_len 0 (j - 0))) ↔ All P (between plan s j)
all-round P plan s j count is round =
    let up : List ℕ = range_with_len (s + 1) (count - (s + 1)) in
    let low : List ℕ = range_with_len 0 (j - 0) in
    let first : up ++ low ≡ range_with_len (s + 1) (length plan - (s + 1)) ++ low = ap (λ (n : ℕ). range_with_len (s + 1) (n - (s + 1)) ++ low) is in
    let same : j - 0 ≡ j = omega arith in
    let next = ap (λ (n : ℕ). range_with_len (s + 1) (length plan - (s + 1)) ++ range_with_len 0 n) same in
    let whole : up ++ low ≡ between plan s j = cond_above s j (range_with_len (s + 1) (j - (s + 1))) _ _ round (first ∙ next) in
    ((λ both. subst (All P) whole (All-append P up low both.0 both.1)), (λ all. all-parts P up low (subst (All P) (sym whole) all)))

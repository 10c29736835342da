-- Phases within their bounds are those of an intersection's ring.
use Rattle.std.proofs.Common.{◌≡◌, ◌≢◌, ℕ, ◌≤◌, Bool, cond, sym, ◌∙◌, inl, inr, List, [], ◌∷◌, length, map, count_by, All, refl, arith}
use Rattle.std.proofs.lemmas.List.{length-map}
use Rattle.std.proofs.lemmas.List.Sums.{sum_by-cons}
use Rattle.std.proofs.lemmas.List.Elements.{All-map}
use Rattle.phase_plan.specs.Phases.{IsOwnRing, IsPhase, is_unmarked}
use Rattle.net_parts.specs.declared.drafts.DraftPhase.{DraftPhase}
use Rattle.net_parts.specs.Bounds.{IsBoundedPhase, IsUnmarkedCount}

unmarked-same : (phases : List DraftPhase) → count_by is_unmarked (map (λ p. p.phase) phases) ≡ count_by (λ p. is_unmarked p.phase) phases
unmarked-same [] = refl
unmarked-same (p ∷ phases) = omega (
  arith,
  sum_by-cons (λ q. cond (is_unmarked q) 1 0) p.phase (map (λ q. q.phase) phases),
  sum_by-cons (λ (q : DraftPhase). cond (is_unmarked q.phase) 1 0) p phases,
  unmarked-same phases,
)

-- the phases of a node of a draft
pub IsOwnRing-from_bounds : (phases : List DraftPhase) → 2 ≤ length phases → length phases ≤ 4 → count_by (λ p. is_unmarked p.phase) phases ≢ 1 → All IsBoundedPhase phases → IsOwnRing (map (λ p. p.phase) phases)
IsOwnRing-from_bounds phases some few ring bounds = record {
  ring = record {
    count = (simp length-map some, simp length-map few);
    phases = All-map IsPhase (λ p. p.phase) phases (λ k d h. (bounds k d h).phase);
  };
  marks = λ one. ring (sym (unmarked-same phases) ∙ one);
}

-- a count that a ring may have is not one
pub count-not_one : (free_ring : Bool) (count : ℕ) → IsUnmarkedCount free_ring count → count ≢ 1
count-not_one free_ring count (inl many) = λ one. omega (arith, many, one)
count-not_one free_ring count (inr none) = λ one. omega (arith, none.1, one)

use Rattle.std.proofs.Common.{◌≡◌, ℕ, ◌+◌, ◌-◌, Bool, cond, ltb, List, [], ◌∷◌, ◌++◌, length, filter, slice_get, Option, Some, None, refl, sym, ap, ◌∙◌, arith}
use Rattle.std.specs.List.{range_with_len}
use Rattle.std.proofs.lemmas.Bool.{cond_above}
use Rattle.std.proofs.lemmas.List.Elements.{filter-append}
use Rattle.phase_plan.specs.Phases.{is_unmarked_at}
use Rattle.phase_plan.proofs.first_other.Goals as goal

-- the first of two lists is that of the one, where it has one, and else that of the other
first-some : (xs ys : List ℕ) (k : ℕ) → slice_get xs 0 ≡ Some k → slice_get (xs ++ ys) 0 ≡ Some k
first-some [] ys k e = absurd cc
first-some (x ∷ xs) ys k e = e

first-none : (xs ys : List ℕ) → slice_get xs 0 ≡ None → slice_get (xs ++ ys) 0 ≡ slice_get ys 0
first-none [] ys e = refl
first-none (x ∷ xs) ys e = absurd cc

-- the first phase at which the ring stops up to its end, and then from its begin
first-around : (stops : ℕ → Bool) (n s : ℕ) (o : Option ℕ)
    → slice_get (filter stops (range_with_len (s + 1) (n - (s + 1))) ++ filter stops (range_with_len 0 (s - 0))) 0 ≡ o
    → o ≡ slice_get (filter stops (cond (ltb s s) (range_with_len (s + 1) (s - (s + 1))) (range_with_len (s + 1) (n - (s + 1)) ++ range_with_len 0 s))) 0
first-around stops n s o e =
    let begin : s - 0 ≡ s = omega arith in
    let up = range_with_len (s + 1) (n - (s + 1)) in
    sym e
    ∙ ap (λ (m : ℕ). slice_get (filter stops up ++ filter stops (range_with_len 0 m)) 0) begin
    ∙ ap (λ (ks : List ℕ). slice_get ks 0) (sym (filter-append stops up (range_with_len 0 s)))
    ∙ ap (λ (ks : List ℕ). slice_get (filter stops ks) 0) (cond_above s s (range_with_len (s + 1) (s - (s + 1))) (up ++ range_with_len 0 s) (up ++ range_with_len 0 s) (omega arith) refl)

pub returns-in-Some : goal.returns-in-Some
returns-in-Some c =
    first-around (is_unmarked_at c.args.phases.now) (length c.args.phases.now) c.args.s (Some c.in-Some.k) (first-some _ _ c.in-Some.k (sym (sym c.in-Some.is ∙ c.first_unmarked.ensures)))

pub returns-in-None : goal.returns-in-None
returns-in-None c =
    first-around (is_unmarked_at c.args.phases.now) (length c.args.phases.now) c.args.s c.first_unmarked-in-None.result
    (first-none _ _ (sym c.first_unmarked.ensures ∙ c.in-None.is) ∙ sym c.first_unmarked-in-None.ensures)

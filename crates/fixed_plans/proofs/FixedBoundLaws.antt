-- What the row of a phase says of its bound.
use Rattle.std.proofs.Common.{◌≡◌, ℕ, ◌+◌, cond, eqb, ltb, List, None, Some, Result, Ok, Err, find, sym, ap, ◌∙◌}
use Rattle.fixed_plans.specs.FixedBounds.{cycle_bound, row_bound}
use Rattle.fixed_plans.specs.Lines.{cycle_length}
use Rattle.fixed_plans.specs.declared.rows.FixedRow.{FixedRow}
use Rattle.fixed_plans.proofs.FixedWaits.{found}
use Rattle.phase_plan.specs.Phases.{phase_at}
use Rattle.phase_plan.specs.declared.Phase.{Phase}
use Rattle.waits.specs.declared.bounds.NoBound.{NoBound}
use Rattle.waits.specs.declared.bounds.NoBound.TheVariants.{Marked, ShortGreen}

module _ (plan : List Phase) (cycle : List FixedRow) (k : ℕ) where
  pub bound-some : (row : FixedRow) (times : Phase) (length : ℕ) (result : Result ℕ NoBound) → Some row ≡ find (λ (r : FixedRow). eqb r.phase k) cycle → times ≡ phase_at plan k → length ≡ cycle_length plan cycle
      → result ≡ cond (ltb times.loss row.green) (Ok (length + times.loss + 1)) (Err ShortGreen) → result ≡ cycle_bound plan cycle k
  bound-some row times length result some same long is =
      let phase : row.phase ≡ k = (found cycle k row (sym some)).phase in
      is ∙ ap (λ (t : Phase). cond (ltb t.loss row.green) (Ok (length + t.loss + 1)) (Err ShortGreen)) (same ∙ ap (phase_at plan) (sym phase))
      ∙ ap (λ (n : ℕ). row_bound plan n (Some row)) long
      ∙ ap (row_bound plan (cycle_length plan cycle)) some

  pub bound-none : (result : Result ℕ NoBound) → None ≡ find (λ (r : FixedRow). eqb r.phase k) cycle → result ≡ Err Marked → result ≡ cycle_bound plan cycle k
  bound-none result none is = is ∙ ap (row_bound plan (cycle_length plan cycle)) none

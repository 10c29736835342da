use Rattle.std.proofs.Common.{ℕ, eqb, find, option_copied, sym, ap, ◌∙◌}
use Rattle.fixed_plans.specs.declared.rows.FixedRow.{FixedRow}
use Rattle.fixed_plans.proofs.FixedBoundLaws.{bound-some}
use Rattle.fixed_plans.proofs.bounds.cycle_bound.Goals as goal

pub returns-in-Some : goal.returns-in-Some
returns-in-Some c =
    bound-some c.args.plan.now c.args.cycle.now c.args.phase c.in-Some.row.now c.phase.result.now c.cycle_length.result c.row_bound.result
    (ap option_copied (sym c.in-Some.is) ∙ c.row_of.ensures ∙ ap (λ (n : ℕ). find (λ (r : FixedRow). eqb r.phase n) c.args.cycle.now) c.from.ensures) c.phase.ensures.value c.cycle_length.ensures.value c.row_bound.ensures

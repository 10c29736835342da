use Rattle.std.proofs.Common.{subst, sym, ◌∙◌}
use Rattle.fixed_plans.specs.Cycles.{IsCycle}
use Rattle.fixed_plans.specs.Lines.{rows_of}
use Rattle.fixed_plans.proofs.LineLaws.{own-cycle}
use Rattle.fixed_plans.proofs.cycles.node_line.Goals as goal

pub cycle_line-requires-clause-cycle : goal.cycle_line-requires-clause-cycle
cycle_line-requires-clause-cycle c =
    subst (IsCycle c.plan.result.now) (sym (c.as_slice.ensures.value ∙ c.in_ok-own.ensures))
    (subst (λ plan. IsCycle plan (rows_of c.args.rows.now c.args.node)) (sym c.plan.ensures.value) (own-cycle c.args.net.now c.plan.ensures.network c.args.rows.now c.args.node c.requires.node c.requires.plan))

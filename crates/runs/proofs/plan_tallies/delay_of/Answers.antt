use Rattle.std.proofs.Common.{subst}
use Rattle.schedule_meaning.specs.Best.{IsLeast}
use Rattle.schedule_meaning.specs.declared.planners.Answer.{Answer}
use Rattle.schedule_meaning.specs.declared.planners.Answer.TheVariants.{Plan}
use Rattle.runs.proofs.Delays.{delay-le}
use Rattle.runs.proofs.plan_tallies.delay_of.Goals as goal

pub returns-in-Plan-clause-bound : goal.returns-in-Plan-clause-bound
returns-in-Plan-clause-bound c =
    let plan = c.args.plan.now in
    delay-le plan.instance c.plan-plan.ensures.instance (Plan c.in-Plan.sequence c.in-Plan.delay) (subst (λ (a : Answer). IsLeast plan.instance a) c.in-Plan.is c.requires)

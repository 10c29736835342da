use Rattle.std.proofs.Common.{[], sym, subst, ap, ◌∙◌}
use Rattle.switch_rules.specs.Orders.{orders}
use Rattle.schedule_meaning.specs.Best.{IsBest}
use Rattle.schedule_meaning.specs.Choice.{best_after}
use Rattle.schedule_meaning.specs.declared.planners.Answer.TheVariants.{NoPlan}
use Rattle.schedule_meaning.proofs.Choosing.{best-one, search-best, best-least}
use Rattle.schedule_meaning.proofs.planners.PlainPlannerPlanner.best.Goals as goal

pub returns-clause-best : goal.returns-clause-best
returns-clause-best g c =
    let p = c.args.i.now in
    let found = c.in_ok-walk_on.ensures.best ∙ ap (λ prefix. best_after p prefix NoPlan (orders c.count-2.new.counts)) c.new-sequence.ensures.items ∙ ap (λ counts. best_after p [] NoPlan (orders counts)) c.count-2.ensures in
    subst (IsBest p) (sym found) (search-best p)

pub returns-clause-least : goal.returns-clause-least
returns-clause-least g c = best-least c.args.i.now c.walk_on.new.best (returns-clause-best g c)

pub returns-clause-only : goal.returns-clause-only
returns-clause-only g c = λ other h. best-one c.args.i.now other c.walk_on.new.best h (returns-clause-best g c)

use Rattle.std.proofs.Common.{rules, refl}
use Rattle.arrivals.specs.Amounts.{arriving_of}
use Rattle.controller_jobs.specs.Controllers.{scale_line}
use Rattle.controller_jobs.proofs.scale.push_factor.Goals as goal

pub returns-clause-ok : goal.returns-clause-ok
returns-clause-ok c = record {
  line = scale_line c.args.factor c.in_ok-of_plans.of_plans c.in_ok-of_calls.of_calls;
  is = record {
    scaled = arriving_of c.in_ok-scaled.scaled;
    is_scaled = c.in_ok-scaled.ensures.ok;
    of_plans = c.in_ok-of_plans.of_plans;
    are_of_plans = c.in_ok-of_plans.ensures;
    of_calls = c.in_ok-of_calls.of_calls;
    are_of_calls = c.in_ok-of_calls.ensures;
    line = refl;
  };
  text = c.in_ok-push_scale_line.ensures;
}

pub returns-clause-few : goal.returns-clause-few
returns-clause-few c = c.in_ok-scaled.ensures.few

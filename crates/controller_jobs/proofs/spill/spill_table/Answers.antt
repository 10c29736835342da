use Rattle.std.proofs.Common.{ℕ, List, ◌++◌, codes, ap, ◌∙◌}
use Rattle.controller_jobs.specs.Storages.{spilled_line}
use Rattle.controller_jobs.proofs.spill.spill_table.Goals as goal

pub returns : goal.returns
returns c =
    let of_calls = c.in_ok-of_calls.ensures in
    record {
      run = c.in_ok-of_plans.ensures.0;
      runs = c.in_ok-of_plans.ensures.1;
      of_calls = c.in_ok-of_calls.of_calls;
      are_of_calls = of_calls.run;
      lawful = of_calls.lawful of_calls.run;
      safe = of_calls.safe of_calls.run;
      signs = of_calls.signs of_calls.run;
      lines =
          c.in_ok-push_totals-2.ensures
          ∙ ap (λ (t : List ℕ). t ++ spilled_line (codes "actuated") c.in_ok-of_calls.of_calls)
          (c.in_ok-push_totals.ensures ∙ ap (λ (t : List ℕ). t ++ spilled_line (codes "planned") c.in_ok-of_plans.of_plans) c.new-text.ensures.items ∙ ap (spilled_line (codes "planned")) c.in_ok-of_plans.ensures.2);
    }

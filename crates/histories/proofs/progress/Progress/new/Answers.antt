use Rattle.std.proofs.Common.{rules, ap, ◌∙◌}
use Rattle.std.specs.Prelude.{sum_by}
use Rattle.histories.proofs.HowFar.{come-begin}
use Rattle.histories.proofs.progress.Progress.new.Goals as goal

pub returns-clause-come : goal.returns-clause-come
returns-clause-come c = come-begin c.args.net.now c.in_ok-steps.steps.items c.in_ok-steps.ensures.counts c.total-whole.result c.run-rounds.result.rounds c.rounds_without_steps-done.result c.in_ok-left.left.items (c.total-whole.ensures ∙ ap (λ counts. sum_by (λ c. c) counts) c.as_slice-2.ensures.value) (ap (λ r. r.rounds) c.run-rounds.ensures.value) c.rounds_without_steps-done.ensures (search rules)

use Rattle.std.proofs.Common.{◌+◌, ◌-◌, max, sum_by, ap, ◌∙◌, arith}
use Rattle.std.specs.List.{range_with_len}
use Rattle.waits.specs.Waits.{longest_intergreen, longest_span}
use Rattle.phase_plan.specs.declared.Phase.{Phase}
use Rattle.waits.proofs.TableLaws.{red-is}
use Rattle.waits.proofs.bounds.longest_red.Goals as goal

pub returns-clause-value : goal.returns-clause-value
returns-clause-value c =
    red-is c.args.plan.now c.args.look c.args.phase c.longest_intergreen.result c.longest_spans-after.result c.longest_spans-before.result
    (c.longest_intergreen.ensures.value ∙ ap (λ (p : Phase). max (p.yellow + p.clear) c.args.look) c.phase.ensures.value)
    (c.longest_spans-after.ensures.value ∙ ap (λ n. sum_by (longest_span c.args.plan.now (longest_intergreen c.args.plan.now c.args.look)) (range_with_len (c.args.phase + 1) (n - (c.args.phase + 1)))) c.count-count.ensures.count)
    c.longest_spans-before.ensures.value

pub returns-clause-bounds : goal.returns-clause-bounds
returns-clause-bounds c =
    (let p = c.phase.ensures.bounds in
    omega (arith, p.yellow, p.clear, c.requires.look, c.longest_intergreen.ensures.value, c.longest_spans-after.ensures.bounds, c.longest_spans-before.ensures.bounds, c.count-count.ensures.count, c.count-count.ensures.ring.count, c.requires.phase))

use Rattle.std.proofs.Common.{◌<◌, length, drop, sum_by, refl, ap, subst, sym, ◌∙◌, arith}
use Rattle.phase_plan.specs.declared.Phase.{Phase}
use Rattle.schedule_meaning.specs.Instances.{IsSpaced, list_at}
use Rattle.dp_certificate.specs.Proves.{wait_until}
use Rattle.switch_rules.specs.declared.Cluster.{Cluster}
use Rattle.dp_certificate.proofs.LowerBoundLaws.{lines-more}
use Rattle.dp_certificate.proofs.NextLaws.{few-listed}
use Rattle.dp_certificate.proofs.RestLaws.{few-rest, rest-spaced, whole-rest}
use Rattle.dp_certificate.proofs.lower_bound.linear_cost.Goals as goal

pub list_cost-other-requires-clause-few : goal.list_cost-other-requires-clause-few
list_cost-other-requires-clause-few c =
    few-rest c.list.result.now c.from-served.result (omega (arith, few-listed c.args.i.now c.plan.ensures.instance c.loop-phase.phase, ap (length {A = Cluster}) c.list.ensures.value))

pub list_cost-other-requires-clause-spaced : goal.list_cost-other-requires-clause-spaced
list_cost-other-requires-clause-spaced c =
    let inside : c.loop-phase.phase < length c.args.i.now.lists = omega (arith, c.loop-phase-test.true, c.count-phase-end.ensures.count, c.plan.ensures.instance.lists, ap (length {A = Phase}) c.plan.ensures.value) in
    rest-spaced c.from-served.result c.list.result.now (subst IsSpaced (sym c.list.ensures.value) (c.plan.ensures.instance.spaced c.loop-phase.phase _ inside))

pub loop-phase-preserved : goal.loop-phase-preserved
loop-phase-preserved c =
    let line = c.loop-phase.line in
    let other = c.list_cost-other.result in
    record {
      from = omega (arith, c.max.ensures, c.loop-phase.invariant.from, c.list_cost-other.ensures.from);
      to = omega (arith, c.min.ensures, c.loop-phase.invariant.to, c.list_cost-other.ensures.to);
      is = λ t low high.
          lines-more c.args.i.now c.args.counts.now c.loop-phase.phase t _ _ line.steepness line.offset other.steepness other.offset
          (c.loop-phase.invariant.is t (omega (arith, c.max.ensures, low)) (omega (arith, c.min.ensures, high)))
          (c.list_cost-other.ensures.line t (omega (arith, c.max.ensures, low)) (omega (arith, c.min.ensures, high)))
          refl
          (whole-rest t c.from-served.result c.list.result.now
          ∙ ap (λ cs. sum_by (wait_until t) (drop c.from-served.result cs)) c.list.ensures.value
          ∙ ap (λ n. sum_by (wait_until t) (drop n (list_at c.args.i.now.lists c.loop-phase.phase))) c.from-served.ensures);
      small = record {
        steepness = omega (arith, c.loop-phase.invariant.small.steepness, c.list_cost-other.ensures.small.steepness);
        offset = omega (arith, c.loop-phase.invariant.small.offset, c.list_cost-other.ensures.small.offset);
      };
    }

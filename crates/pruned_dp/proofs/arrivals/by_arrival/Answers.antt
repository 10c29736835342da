use Rattle.std.proofs.Common.{◌+◌, ◌∷◌, [], get_or, length-set, refl, subst, sym, ◌∙◌, arith}
use Rattle.dp_certificate.specs.Prefixes.{one_more}
use Rattle.dp_certificate.proofs.NextLaws.{few-listed}
use Rattle.dp_certificate.proofs.Stages.{none-counted}
use Rattle.pruned_dp.proofs.Orders.{GoesOn, arrival-long, goes-end, goes-more, goes-start, next-left, next-within}
use Rattle.pruned_dp.proofs.arrivals.by_arrival.Goals as goal

pub loop-phase-init : goal.loop-phase-init
loop-phase-init c = record {
  places = refl;
  within = λ k. omega (arith, none-counted k);
  order = subst (GoesOn c.args.i.now (0 ∷ 0 ∷ 0 ∷ 0 ∷ [])) (sym c.in_ok-sequence.ensures.items) (goes-start c.args.i.now);
}

pub overflow_add-counts : goal.overflow_add-counts
overflow_add-counts c =
    let some = c.in-Some.ensures.some.some in
    omega (arith, some, few-listed c.args.i.now c.in-Some.ensures.instance c.in-Some.phase)

pub loop-phase-preserved : goal.loop-phase-preserved
loop-phase-preserved c =
    let p = c.args.i.now in
    let counts = c.loop-phase.counts in
    let k = c.in-Some.phase in
    record {
      places = length-set counts k (get_or counts k 0 + 1) ∙ c.loop-phase.invariant.places;
      within = next-within p c.in-Some.ensures.instance counts k c.loop-phase.invariant.places c.in-Some.ensures.some c.loop-phase.invariant.within;
      order = subst (GoesOn p (one_more counts k)) (sym c.in_ok-push.ensures.items) (goes-more p counts c.loop-phase.sequence.items k c.loop-phase.invariant.order c.in-Some.ensures.some);
    }

pub loop-phase-smaller : goal.loop-phase-smaller
loop-phase-smaller c = next-left c.args.i.now c.in-Some.ensures.instance c.loop-phase.counts c.in-Some.phase c.loop-phase.invariant.places c.in-Some.ensures.some

pub returns-clause-order : goal.returns-clause-order
returns-clause-order c = goes-end c.args.i.now c.loop-phase.counts c.loop-phase.sequence.items c.loop-phase.invariant.order c.in_default.ensures.none

pub returns-clause-places : goal.returns-clause-places
returns-clause-places c =
    arrival-long c.args.i.now c.in_default.ensures.instance c.loop-phase.sequence.items
    (goes-end c.args.i.now c.loop-phase.counts c.loop-phase.sequence.items c.loop-phase.invariant.order c.in_default.ensures.none)

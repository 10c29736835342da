use Rattle.std.proofs.Common.{arith}
use Rattle.dp_certificate.specs.Proves.{IsClosed}
use Rattle.cert_checker.proofs.Places.{entry-next, first-not, holds-all, holds-more}
use Rattle.cert_checker.specs.Verdicts.{IsOpenAt}
use Rattle.cert_checker.proofs.walk.first_open.Goals as goal

pub loop-index-preserved : goal.loop-index-preserved
loop-index-preserved g c = record {
  closed =
      holds-more (IsClosed c.args.c.now) c.args.c.now.entries c.entries-entry-items.result.now c.loop-index.index _ c.entries-entry-items.ensures.value c.loop-index-test.true c.loop-index.invariant.closed
      c.in_default.ensures.none;
  cost = omega (arith, c.loop-index.invariant.cost, c.open_phase.ensures.steps);
}

pub returns-clause-none : goal.returns-clause-none
returns-clause-none g c = holds-all (IsClosed c.args.c.now) c.args.c.now.entries c.entries-entry-items.result.now c.loop-index.index c.entries-entry-items.ensures.value c.loop-index-test.false c.loop-index.invariant.closed

pub returns-in-Some-clause-some : goal.returns-in-Some-clause-some
returns-in-Some-clause-some g c =
    first-not (IsClosed c.args.c.now) c.args.c.now.entries c.entries-entry-items.result.now c.loop-index.index _ c.entries-entry-items.ensures.value c.loop-index-test.true c.loop-index.invariant.closed
    (λ h. c.in-Some.ensures.some.1 (h c.in-Some.phase))

pub returns-in-Some-clause-phase : goal.returns-in-Some-clause-phase
returns-in-Some-clause-phase g c =
    entry-next (λ e. IsOpenAt c.args.c.now e c.in-Some.phase) c.args.c.now.entries c.entries-entry-items.result.now c.loop-index.index _ c.entries-entry-items.ensures.value c.loop-index-test.true c.in-Some.ensures.some

use Rattle.std.proofs.Common.{refl}
use Rattle.dp_certificate.specs.Proves.{IsEnded}
use Rattle.cert_checker.proofs.Places.{first-not, holds-all, holds-more}
use Rattle.cert_checker.proofs.walk.first_cheaper.Goals as goal

pub loop-index-preserved : goal.loop-index-preserved
loop-index-preserved c =
    holds-more (IsEnded c.args.c.now) c.args.c.now.entries c.entries-entry-items.result.now c.loop-index.index _ c.entries-entry-items.ensures.value c.loop-index-test.true c.loop-index.invariant
    (c.if-not-is_ended.ensures.0 refl)

pub returns-clause-none : goal.returns-clause-none
returns-clause-none c = holds-all (IsEnded c.args.c.now) c.args.c.now.entries c.entries-entry-items.result.now c.loop-index.index c.entries-entry-items.ensures.value c.loop-index-test.false c.loop-index.invariant

pub returns-then-not-is_ended-clause-some : goal.returns-then-not-is_ended-clause-some
returns-then-not-is_ended-clause-some c =
    first-not (IsEnded c.args.c.now) c.args.c.now.entries c.entries-entry-items.result.now c.loop-index.index _ c.entries-entry-items.ensures.value c.loop-index-test.true c.loop-index.invariant
    (λ h. let t = c.if-not-is_ended.ensures.1 h in absurd (cc))

use Rattle.std.proofs.Common.{◌-◌, ◌∙◌, length, subst, sym, arith}
use Rattle.parallel_dp.specs.Ways.{AreWays, IsFirstWay, NoneLeads, servings_of}
use Rattle.parallel_dp.proofs.LayerLaws.{list-at}
use Rattle.parallel_dp.proofs.WayLaws.{IsGoing, going-end, going-entry, going-next, going-some, is-some, some-holds}
use Rattle.parallel_dp.proofs.ways.follow.Goals as goal

pub first_way-requires-clause-entry : goal.first_way-requires-clause-entry
first_way-requires-clause-entry g c = going-entry c.args.i.now c.requires.lawful c.args.delay c.loop-left.sequence.items c.loop-left.left c.loop-left.here c.loop-left.invariant

pub first_way-requires-clause-ways : goal.first_way-requires-clause-ways
first_way-requires-clause-ways g c =
    (list-at (AreWays c.args.i.now c.args.delay) (servings_of c.args.i.now) c.args.ways.now (c.loop-left.left - 1) _ _ c.requires.ways (omega (arith, c.loop-left.invariant.long, c.loop-left-test.true)) (c.as_slice.ensures ∙ c.index-ways-left.is)).rising

pub unwrap-phase-requires : goal.unwrap-phase-requires
unwrap-phase-requires g c =
    let p = c.args.i.now in
    let left = c.loop-left.left - 1 in
    let ways : AreWays p c.args.delay left c.as_slice.result.now =
    list-at (AreWays p c.args.delay) (servings_of p) c.args.ways.now left _ _ c.requires.ways (omega (arith, c.loop-left.invariant.long, c.loop-left-test.true)) (c.as_slice.ensures ∙ c.index-ways-left.is) in
    is-some c.first_way.result (NoneLeads p c.as_slice.result.now c.loop-left.here (length p.plan)) c.first_way.ensures.none
    (going-some p c.requires.lawful c.args.delay c.requires.delay c.loop-left.sequence.items left c.loop-left.here (subst (λ n. IsGoing p c.args.delay c.loop-left.sequence.items n c.loop-left.here) (omega (arith, c.loop-left-test.true)) c.loop-left.invariant) c.as_slice.result.now ways)

pub loop-left-preserved : goal.loop-left-preserved
loop-left-preserved g c =
    let p = c.args.i.now in
    let left = c.loop-left.left - 1 in
    let r = c.unwrap-phase.result in
    let ways : AreWays p c.args.delay left c.as_slice.result.now =
    list-at (AreWays p c.args.delay) (servings_of p) c.args.ways.now left _ _ c.requires.ways (omega (arith, c.loop-left.invariant.long, c.loop-left-test.true)) (c.as_slice.ensures ∙ c.index-ways-left.is) in
    let way : IsFirstWay p c.as_slice.result.now c.loop-left.here r.0 r.1 = some-holds (λ x. IsFirstWay p c.as_slice.result.now c.loop-left.here x.0 x.1) c.first_way.result r c.unwrap-phase.ensures c.first_way.ensures.some in
    subst (λ xs. IsGoing p c.args.delay xs left r.1) (sym c.in_ok-push.ensures.items)
    (going-next p c.requires.lawful c.args.delay c.requires.delay c.loop-left.sequence.items left c.loop-left.here (subst (λ n. IsGoing p c.args.delay c.loop-left.sequence.items n c.loop-left.here) (omega (arith, c.loop-left-test.true)) c.loop-left.invariant) c.as_slice.result.now ways r.0 r.1 way)

pub returns : goal.returns
returns g c =
    going-end c.args.i.now c.requires.lawful c.args.delay c.requires.delay c.loop-left.sequence.items c.loop-left.here
    (subst (λ n. IsGoing c.args.i.now c.args.delay c.loop-left.sequence.items n c.loop-left.here) (omega (arith, c.loop-left-test.false)) c.loop-left.invariant)

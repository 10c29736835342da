use Rattle.std.proofs.Common.{◌+◌, refl, subst, sym, arith}
use Rattle.parallel_dp.specs.Ways.{IsOnWay}
use Rattle.parallel_dp.proofs.WayLaws.{AreThoseOf, keep, leads-none, skip, those-all}
use Rattle.parallel_dp.proofs.ways.leading_into.Goals as goal
use Rattle.parallel_dp.proofs.ways.leading_into.Goals.{then-leads_into+in_ok-push, else-leads_into}

pub loop-entry-preserved : goal.loop-entry-preserved
loop-entry-preserved g c =
    let layer = c.args.layer.now in
    let n = c.loop-entry.entry-index in
    let inside = c.loop-entry-test.true in
    let Holds = IsOnWay c.args.i.now c.args.delay c.args.ways.now in
    elim c.if-leads_into.branch [
      | then-leads_into+in_ok-push w ↦
          subst (λ v. AreThoseOf Holds layer (n + 1) v.items) (sym w.those-is)
          (subst (AreThoseOf Holds layer (n + 1)) (sym w.in_ok-push.ensures.items)
          (keep Holds layer n c.loop-entry.those.items _ _ inside refl c.loop-entry.invariant c.requires.rising (w.if-leads_into.ensures.some refl)))
      | else-leads_into w ↦
          subst (λ v. AreThoseOf Holds layer (n + 1) v.items) (sym w.those-is)
          (skip Holds layer n c.loop-entry.those.items _ _ inside refl c.loop-entry.invariant
          (leads-none c.args.i.now c.requires.lawful c.args.delay c.args.ways.now _ (w.if-leads_into.ensures.none refl)))
    ]

pub returns : goal.returns
returns g c =
    those-all (IsOnWay c.args.i.now c.args.delay c.args.ways.now) c.args.layer.now c.loop-entry.entry-index c.loop-entry.those.items (omega arith) c.loop-entry.invariant

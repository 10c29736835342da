use Rattle.std.proofs.Common.{◌≡◌, ◌+◌, refl, subst, sym, arith}
use Rattle.dp_certificate.specs.declared.Entry.{Entry}
use Rattle.parallel_dp.proofs.WayLaws.{AreThoseOf, keep, skip, those-all}
use Rattle.parallel_dp.proofs.ways.of_delay.Goals as goal
use Rattle.parallel_dp.proofs.ways.of_delay.Goals.{then-entry-delay+in_ok-push, else-entry-delay}

pub loop-entry-preserved : goal.loop-entry-preserved
loop-entry-preserved c =
    let layer = c.args.layer.now in
    let n = c.loop-entry.entry-index in
    let inside = c.loop-entry-test.true in
    elim c.if-entry-delay.branch [
      | then-entry-delay+in_ok-push w ↦
          subst (λ v. AreThoseOf (λ (e : Entry). e.delay ≡ c.args.delay) layer (n + 1) v.items) (sym w.those-is)
          (subst (AreThoseOf (λ (e : Entry). e.delay ≡ c.args.delay) layer (n + 1)) (sym w.in_ok-push.ensures.items)
          (keep (λ (e : Entry). e.delay ≡ c.args.delay) layer n c.loop-entry.those.items _ _ inside refl c.loop-entry.invariant c.requires w.if-entry-delay.true))
      | else-entry-delay w ↦
          subst (λ v. AreThoseOf (λ (e : Entry). e.delay ≡ c.args.delay) layer (n + 1) v.items) (sym w.those-is)
          (skip (λ (e : Entry). e.delay ≡ c.args.delay) layer n c.loop-entry.those.items _ _ inside refl c.loop-entry.invariant w.if-entry-delay.false)
    ]

pub returns : goal.returns
returns c = those-all (λ (e : Entry). e.delay ≡ c.args.delay) c.args.layer.now c.loop-entry.entry-index c.loop-entry.those.items (omega arith) c.loop-entry.invariant

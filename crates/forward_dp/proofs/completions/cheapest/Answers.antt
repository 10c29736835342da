use Rattle.std.proofs.Common.{◌+◌, sym, subst, arith}
use Rattle.dp_certificate.specs.Certificates.{entry_at}
use Rattle.dp_certificate.specs.Proves.{stage_of_entry}
use Rattle.forward_dp.specs.Completions.{IsBestBelow}
use Rattle.forward_dp.proofs.CompletedEntries.{after-small, step-entry}
use Rattle.forward_dp.proofs.Completing.{keep-unfit}
use Rattle.forward_dp.proofs.completions.cheapest.Goals as goal
use Rattle.forward_dp.proofs.completions.cheapest.Goals.{in-Some, in_default}

pub loop-phase-init : goal.loop-phase-init
loop-phase-init g c = record { best = c.before_any-best.ensures c.args.later.now; steps = omega arith }

pub better-best-requires : goal.better-best-requires
better-best-requires g c = after-small c.args.i.now c.requires.lawful c.args.entries.now c.requires.whole c.args.place (omega (arith, c.requires.place)) c.args.later.now c.requires.place c.requires.later c.loop-phase.phase c.in-Some.there c.in-Some.cost c.in-Some.ensures.some

pub loop-phase-preserved : goal.loop-phase-preserved
loop-phase-preserved g c = record {
  best = elim c.match-after.branch [
    | in-Some w ↦
        subst (IsBestBelow c.args.i.now c.args.later.now (stage_of_entry c.args.i.now (entry_at c.args.entries.now c.args.place)) (c.loop-phase.phase + 1)) (sym w.best-is)
        (step-entry c.args.i.now c.requires.lawful c.args.entries.now c.requires.whole c.args.place (omega (arith, c.requires.place)) c.args.later.now c.requires.place c.requires.later c.loop-phase.phase w.in-Some.there w.in-Some.cost w.in-Some.ensures.some
        c.loop-phase.best w.better-best.result w.better-best.ensures c.loop-phase.invariant.best)
    | in_default w ↦
        subst (IsBestBelow c.args.i.now c.args.later.now (stage_of_entry c.args.i.now (entry_at c.args.entries.now c.args.place)) (c.loop-phase.phase + 1)) (sym w.best-is)
        (keep-unfit c.args.i.now c.args.later.now (stage_of_entry c.args.i.now (entry_at c.args.entries.now c.args.place)) c.loop-phase.phase c.loop-phase.best w.in_default.ensures.none c.loop-phase.invariant.best)
  ];
  steps = omega (arith, c.loop-phase.invariant.steps, c.place_after-after.ensures.servings);
}

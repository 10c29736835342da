use Rattle.std.proofs.Common.{◌<◌, All, length, get_or, sym, subst, ap, ◌∙◌, arith}
use Rattle.schedule_meaning.proofs.Sequences.{not-timed, unknown-not-timed, times-all}
use Rattle.schedule_meaning.proofs.replays.replay.Goals as goal

pub returns-in-Some-clause-refused : goal.returns-in-Some-clause-refused
returns-in-Some-clause-refused g c =
    unknown-not-timed c.args.i.now c.args.seq.now c.in-Some.index c.plan.ensures.instance c.in-Some.ensures.some.0
    (omega (arith, c.in-Some.ensures.some.2, c.count-phases.ensures.count, ap length c.plan.ensures.value))

pub returns-in-Some-wrong_count-clause-refused : goal.returns-in-Some-wrong_count-clause-refused
returns-in-Some-wrong_count-clause-refused g c = not-timed c.args.i.now c.args.seq.now c.in-Some-wrong_count.phase c.in-Some-wrong_count.ensures.some.here

pub walk-requires-clause-times : goal.walk-requires-clause-times
walk-requires-clause-times g c =
    let all : All (λ x. x < length c.args.i.now.plan) c.args.seq.now = subst (λ n. All (λ x. x < n) c.args.seq.now) (c.count-phases.ensures.count ∙ ap length c.plan.ensures.value) c.in_default.ensures.none in
    λ k. times-all c.args.i.now c.args.seq.now c.plan.ensures.instance all c.in_default-wrong_count.ensures.none k ∙ ap (λ counts. get_or counts k 0) (sym c.count.ensures)

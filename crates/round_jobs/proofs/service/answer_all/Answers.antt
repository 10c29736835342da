use Rattle.std.proofs.Common.{arith, inl, inr, rules, subst, sym, List, ℕ}
use Rattle.outside_world.specs.Source.{SourceState}
use Rattle.round_jobs.specs.Gathering.{IsAnsweredAll, IsOf}
use Rattle.round_jobs.proofs.ServeLaws.{serving-broken, serving-cut, serving-ends, serving-more, serving-none}
use Rattle.round_jobs.proofs.service.answer_all.Goals as goal

pub loop-init : goal.loop-init
loop-init g c = record { serving = serving-none c.args.net.now (g.I.Source.state c.args.source.now) (g.O.Sink.state c.args.out.now) _ _ c.none-gathered.ensures (c.none-kept.ensures c.args.net.now); room = search rules }

pub returns-in-Err : goal.returns-in-Err
returns-in-Err g c =
    serving-cut c.args.net.now (g.I.Source.state c.args.source.now) (g.O.Sink.state c.args.out.now) (g.I.Source.state c.loop.source) (g.O.Sink.state c.loop.out) c.loop.gathered c.loop.kept c.loop.counter c.loop.invariant.serving
    (g.I.Source.state c.take_line.new.source) c.in-Err.why c.in-Err.ensures.refused

pub returns-in-Ok-None : goal.returns-in-Ok-None
returns-in-Ok-None g c =
    let ended = rw c.in-Ok-None.field-0-is at c.in-Ok-None.ensures.ok in
    subst (λ (s : SourceState). IsAnsweredAll c.args.net.now (g.I.Source.state c.args.source.now) s (g.O.Sink.state c.args.out.now) (g.O.Sink.state c.finish.new.out) c.finish.result) (sym ended.0)
    (serving-ends c.args.net.now (g.I.Source.state c.args.source.now) (g.O.Sink.state c.args.out.now) (g.I.Source.state c.loop.source) (g.O.Sink.state c.loop.out) c.loop.gathered c.loop.kept c.loop.counter c.loop.invariant.serving
    (g.O.Sink.state c.finish.new.out) c.finish.result (inl ended.1) (c.finish.ensures.put c.loop.invariant.serving.others c.loop.invariant.serving.gathered) c.finish.ensures.others)

pub hear-requires : goal.hear-requires
hear-requires g c = c.loop.invariant.serving.told.told

pub returns-in-Err-hear : goal.returns-in-Err-hear
returns-in-Err-hear g c =
    let taken = rw c.in-Ok-Some.field-0-is at c.in-Ok-Some.ensures.ok in
    let of = subst (λ (kept : List ℕ). IsOf taken.0 c.in-Ok-Some.read kept) (sym c.deref.ensures.value) taken.2 in
    serving-broken c.args.net.now (g.I.Source.state c.args.source.now) (g.O.Sink.state c.args.out.now) (g.I.Source.state c.loop.source) (g.I.Source.state c.take_line.new.source) (g.O.Sink.state c.loop.out) (g.O.Sink.state c.hear.new.out)
    c.loop.gathered c.hear.new.gathered c.loop.kept c.hear.new.kept c.loop.counter taken.0 c.loop.invariant.serving taken.1 c.in-Err-hear.why (c.in-Err-hear.ensures c.loop.invariant.serving.others taken.0 c.loop.invariant.serving.answered.told c.loop.invariant.serving.gathered c.loop.invariant.serving.told of)

pub loop-preserved : goal.loop-preserved
loop-preserved g c =
    let taken = rw c.in-Ok-Some.field-0-is at c.in-Ok-Some.ensures.ok in
    let of = subst (λ (kept : List ℕ). IsOf taken.0 c.in-Ok-Some.read kept) (sym c.deref.ensures.value) taken.2 in
    record {
      serving = serving-more c.args.net.now (g.I.Source.state c.args.source.now) (g.O.Sink.state c.args.out.now) (g.I.Source.state c.loop.source) (g.I.Source.state c.take_line.new.source) (g.O.Sink.state c.loop.out) (g.O.Sink.state c.hear.new.out)
          c.loop.gathered c.hear.new.gathered c.loop.kept c.hear.new.kept c.loop.counter taken.0 c.loop.invariant.serving taken.1 c.in-Ok.field-0 (c.in-Ok.ensures c.loop.invariant.serving.others taken.0 c.loop.invariant.serving.answered.told c.loop.invariant.serving.gathered c.loop.invariant.serving.told of);
      room = omega (arith, c.loop.invariant.room, c.take_line.ensures.capacity);
    }

pub returns : goal.returns
returns g c =
    serving-ends c.args.net.now (g.I.Source.state c.args.source.now) (g.O.Sink.state c.args.out.now) (g.I.Source.state c.loop.source) (g.O.Sink.state c.loop.out) c.loop.gathered c.loop.kept c.loop.counter c.loop.invariant.serving
    _ c.finish-2.result (inr (omega arith)) (c.finish-2.ensures.put c.loop.invariant.serving.others c.loop.invariant.serving.gathered) c.finish-2.ensures.others

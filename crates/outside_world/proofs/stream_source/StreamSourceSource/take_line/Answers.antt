use Rattle.std.proofs.Common.{◌<◌, ◌-◌, ◌∙◌, take, drop, min, vec_capacity, arith, refl}
use Rattle.std.proofs.lemmas.List.{length-drop, length-take}
use Rattle.outside_world.proofs.KeepLaws.{ends-here, goes-on, stream-ended}
use Rattle.outside_world.proofs.stream_source.StreamSourceSource.take_line.Goals as goal

pub overflow_sub-last : goal.overflow_sub-last
overflow_sub-last g c = c.piece_of-count.ensures.some (omega (arith, length-take (c.self.inside.to - c.self.inside.from) (drop c.self.inside.from c.deref.result.now), length-drop c.self.inside.from c.deref.result.now))

pub returns-then-self-clause-line : goal.returns-then-self-clause-line
returns-then-self-clause-line g c =
    stream-ended c.loop.read (vec_capacity c.args.line.now) c.args.most (min (vec_capacity c.args.line.now) c.args.most) c.args.self.now c.fill.new.self c.loop.line.items
    refl (c.in_ok-fill.ensures.faults ∙ c.loop.invariant.same) c.loop.invariant.coming

pub returns-then-last-eq10-clause-line : goal.returns-then-last-eq10-clause-line
returns-then-last-eq10-clause-line g c =
    let some : 0 < c.piece_of-count.result = c.piece_of-count.ensures.some (omega (arith, length-take (c.self.inside.to - c.self.inside.from) (drop c.self.inside.from c.deref.result.now), length-drop c.self.inside.from c.deref.result.now)) in
    ends-here (min (vec_capacity c.args.line.now) c.args.most) (take (c.self.inside.to - c.self.inside.from) (drop c.self.inside.from c.deref.result.now)) c.piece_of-count.result
    (take c.piece_of-count.result (take (c.self.inside.to - c.self.inside.from) (drop c.self.inside.from c.deref.result.now))) c.piece_of-count.ensures.piece refl some
    c.loop.read c.keep-read.result (vec_capacity c.args.line.now) c.args.most c.args.self.now c.self.inside.faults c.loop.line.items c.keep-read.new.line.items
    refl (c.self.view_is ∙ c.in_ok-fill.ensures.faults ∙ c.loop.invariant.same) c.loop.invariant.coming
    (λ came so. c.keep-read.ensures.kept came (vec_capacity c.args.line.now) c.loop.invariant.capacity so)

pub loop-preserved : goal.loop-preserved
loop-preserved g c =
    let some : 0 < c.piece_of-count.result = c.piece_of-count.ensures.some (omega (arith, length-take (c.self.inside.to - c.self.inside.from) (drop c.self.inside.from c.deref.result.now), length-drop c.self.inside.from c.deref.result.now)) in
    record {
      coming = goes-on (min (vec_capacity c.args.line.now) c.args.most) (take (c.self.inside.to - c.self.inside.from) (drop c.self.inside.from c.deref.result.now)) c.piece_of-count.result
          (take c.piece_of-count.result (take (c.self.inside.to - c.self.inside.from) (drop c.self.inside.from c.deref.result.now))) c.piece_of-count.ensures.piece refl some
          c.loop.read c.keep-read.result c.loop.line.items c.keep-read.new.line.items c.loop.invariant.coming
          (λ came so. c.keep-read.ensures.kept came (vec_capacity c.args.line.now) c.loop.invariant.capacity so) c.if-last-eq10.false;
      same = c.self.view_is ∙ c.in_ok-fill.ensures.faults ∙ c.loop.invariant.same;
      capacity = omega (arith, c.loop.invariant.capacity, c.keep-read.ensures.capacity);
      most = c.keep-read.ensures.most c.loop.invariant.most;
    }

pub returns-clause-line : goal.returns-clause-line
returns-clause-line g c =
    stream-ended c.loop.read (vec_capacity c.args.line.now) c.args.most (min (vec_capacity c.args.line.now) c.args.most) c.args.self.now c.loop.self c.loop.line.items
    refl c.loop.invariant.same c.loop.invariant.coming

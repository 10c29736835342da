use Rattle.std.proofs.Common.{ap, arith, get_or, length}
use Rattle.clusters.proofs.TogetherLaws.{together-fits, together-all}
use Rattle.clusters.proofs.cuts.together.Goals as goal

pub add_to-requires-clause-fits : goal.add_to-requires-clause-fits
add_to-requires-clause-fits c = λ k.
    omega (
      arith,
      together-fits c.args.streams.now c.loop-stream.series c.loop-stream.stream-index k c.stream-item.result c.requires.streams.few c.requires.streams.small (omega arith) c.stream-item.is c.loop-stream.invariant.1,
      ap (λ xs. get_or xs k 0) c.as_slice.ensures,
    )

pub returns : goal.returns
returns c = together-all c.args.streams.now c.loop-stream.series c.loop-stream.stream-index (length c.args.series.now) (omega arith) c.loop-stream.invariant.0 c.loop-stream.invariant.1

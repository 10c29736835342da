use Rattle.std.proofs.Common.{arith}
use Rattle.schedule_meaning.specs.Instances.{no_cluster}
use Rattle.dp_certificate.proofs.LowerBoundLaws.{offset-le, upward-late, upward-more, upward-rise}
use Rattle.dp_certificate.proofs.lower_bound.list_cost.Goals as goal

pub returns-then-cluster-at-clause-line : goal.returns-then-cluster-at-clause-line
returns-then-cluster-at-clause-line c =
    upward-late c.args.list.now c.loop-cluster.cluster-index c.loop-cluster.from c.loop-cluster.steepness c.loop-cluster.offset no_cluster c.requires.spaced c.loop-cluster-test.true c.loop-cluster.invariant.is

pub loop-cluster-preserved : goal.loop-cluster-preserved
loop-cluster-preserved c =
    let list = c.args.list.now in
    let index = c.loop-cluster.cluster-index in
    let cluster = c.requires.clusters index no_cluster c.loop-cluster-test.true in
    record {
      low = omega (arith, c.if-cluster-at.false);
      rise = upward-rise list index no_cluster c.requires.spaced c.loop-cluster-test.true;
      is = upward-more list index c.loop-cluster.from c.loop-cluster.steepness c.loop-cluster.offset c.from-steepness.result c.from.result c.from-in-loop-cluster.result no_cluster c.loop-cluster-test.true (c.loop-cluster.invariant.rise c.loop-cluster-test.true) c.loop-cluster.invariant.is
          c.from-steepness.ensures c.from.ensures c.from-in-loop-cluster.ensures;
      steepness = omega (arith, c.loop-cluster.invariant.steepness, c.from-steepness.ensures, cluster.size, cluster.load);
      offset = omega (arith, c.loop-cluster.invariant.offset, offset-le c.from.result c.from-in-loop-cluster.result (omega (arith, c.from.ensures, cluster.size, cluster.load)) (omega (arith, c.from-in-loop-cluster.ensures, cluster.arr)));
    }

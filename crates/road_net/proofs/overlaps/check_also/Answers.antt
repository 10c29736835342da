use Rattle.std.proofs.Common.{◌∙◌, refl, sym, arith}
use Rattle.std.proofs.lemmas.Bool.{false≢true}
use Rattle.net_parts.specs.Parts.{net_of}
use Rattle.road_net.specs.Joins.{IsAlso}
use Rattle.road_net.proofs.Joining.{below-more}
use Rattle.road_net.proofs.overlaps.check_also.Goals as goal

pub returns-then-not-is_also : goal.returns-then-not-is_also
returns-then-not-is_also c = (
  c.loop-l.l,
  refl,
  record {
    below = omega (arith, c.requires.road_count, c.len-l-end.ensures, c.loop-l-test.true);
    before = c.loop-l.invariant;
    here = λ ok. false≢true (sym c.if-not-is_also.true ∙ c.is_also.ensures.1 ok);
  },
)

pub loop-l-preserved : goal.loop-l-preserved
loop-l-preserved c = below-more (IsAlso (net_of c.args.parts.now)) c.loop-l.l c.loop-l.invariant (c.is_also.ensures.0 c.if-not-is_also.false)

use Rattle.std.proofs.Common.{refl, sym, ◌∙◌, arith}
use Rattle.round_decisions.proofs.LineLaws.{from-last, from-next}
use Rattle.round_decisions.proofs.lines.first_from.Goals as goal

pub loop-index-preserved : goal.loop-index-preserved
loop-index-preserved c = record {
  place = refl;
  within = omega (arith, c.loop-index-test.true);
  left = c.loop-index.invariant.left ∙ from-next c.args.second c.loop-index.first c.loop-index.index c.args.rows.now c.loop-index.invariant.place c.loop-index-test.true c.if-rows-index.false;
}

pub returns-after-loop-index-clause-rows : goal.returns-after-loop-index-clause-rows
returns-after-loop-index-clause-rows c =
    sym (c.loop-index.invariant.left ∙ from-last c.args.second c.loop-index.first c.args.rows.now (omega (arith, c.loop-index.invariant.place, c.loop-index-test.false, c.loop-index.auto)))

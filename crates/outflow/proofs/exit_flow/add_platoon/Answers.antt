use Rattle.std.proofs.Common.{subst, arith}
use Rattle.outflow.specs.Steps.{IsShareInto}
use Rattle.outflow.proofs.AddLaws.{adding-fits, adding-more, found-small, shares-of}
use Rattle.outflow.proofs.exit_flow.add_platoon.Goals as goal

pub add_part-requires-clause-fits : goal.add_part-requires-clause-fits
add_part-requires-clause-fits c = λ k le.
    adding-fits c.args.net.now c.args.exit c.args.first c.args.amounts.now c.args.parts.now c.loop-place.amounts c.loop-place.place k c.loop-place.invariant c.requires.small c.requires.few
    (shares-of c.args.net.now c.turns.ensures.network) le

pub add_part-requires-clause-small : goal.add_part-requires-clause-small
add_part-requires-clause-small c = found-small c.args.parts.now c.loop-place.place (record { link = c.at-link.result.0; amounts = c.at-link.result.1.now }) c.requires.small c.at-link.ensures

pub loop-place-preserved : goal.loop-place-preserved
loop-place-preserved c =
    adding-more c.args.net.now c.args.exit c.args.first c.args.amounts.now c.args.parts.now c.loop-place.amounts c.add_part.new.amounts c.loop-place.place (record { link = c.at-link.result.0; amounts = c.at-link.result.1.now }) c.share_into-share.result
    c.loop-place.invariant (omega arith) c.at-link.ensures (omega arith) (omega arith)
    (subst (λ turns. IsShareInto turns c.args.exit c.share_into-share.result) c.turns.ensures.value c.share_into-share.ensures) c.add_part.ensures.near c.add_part.ensures.far

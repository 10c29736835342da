use Rattle.std.proofs.Common.{◌≡◌, ◌∙◌, ◌++◌, take, get_or, ap, arith}
use Rattle.std.proofs.lemmas.List.{length-take}
use Rattle.std.proofs.lemmas.Grind.{get_or_default_zero}
use Rattle.clusters.proofs.SeenLaws.{length-padded, seen-made, zeros}
use Rattle.clusters.proofs.inflows.seen_ahead.Goals as goal

pub returns : goal.returns
returns c =
    let first : c.index_mut.result.now ≡ get_or c.in_ok-amounts.amounts.items 0 0 =
    c.index_mut.ensures.value ∙ get_or_default_zero c.in_ok-amounts.amounts.items 0 c.index_mut.result.now
    (omega (arith, length-padded (take c.min-seen.result c.args.coming.now) c.in_ok-amounts.amounts.items c.args.look (omega (arith, length-take c.min-seen.result c.args.coming.now)) c.in_ok-amounts.ensures)) in
    rw first
    (seen-made c.args.look c.args.travel c.args.queue c.args.coming.now c.in_ok-amounts.amounts.items c.min-seen.result (omega arith) (omega arith) (omega arith)
    (c.in_ok-amounts.ensures
    ∙ ap (λ n. take c.min-seen.result c.args.coming.now ++ zeros n) (omega (arith, length-take c.min-seen.result c.args.coming.now))))

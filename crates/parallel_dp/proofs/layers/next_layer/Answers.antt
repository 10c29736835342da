use Rattle.std.proofs.Common.{All, subst, sym}
use Rattle.std.proofs.lemmas.Result.{IfOk-weaker}
use Rattle.dp_certificate.specs.Certificates.{AreRising}
use Rattle.parallel_dp.specs.Pieces.{IsJoinOfAll, IsNextOf}
use Rattle.parallel_dp.proofs.LayerLaws.{next-of-pieces, pieces-rise}
use Rattle.parallel_dp.proofs.layers.next_layer.Goals as goal

pub join_all-requires : goal.join_all-requires
join_all-requires g c = subst (All AreRising) (sym c.as_slice.ensures.value) (pieces-rise c.args.i.now c.args.layer.now c.args.width c.in_ok-pieces.pieces.items c.in_ok-pieces.ensures)

pub returns : goal.returns
returns g c =
    IfOk-weaker c.join_all.result (λ v. IsJoinOfAll c.as_slice.result.now v.items) (λ v. IsNextOf c.args.i.now c.args.layer.now v.items)
    (λ v join. next-of-pieces c.args.i.now c.args.layer.now c.args.width c.in_ok-pieces.pieces.items v.items c.requires.width.0 c.in_ok-pieces.ensures (subst (λ xs. IsJoinOfAll xs v.items) c.as_slice.ensures.value join)) c.join_all.ensures

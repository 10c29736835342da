use Rattle.std.proofs.Common.{◌∙◌, ◌≡◌, ◌*◌, ◌-◌, IfOk, List, ap, drop, length, subst, take, arith}
use Rattle.std.proofs.lemmas.List.{length-drop, take_all, take_min}
use Rattle.dp_certificate.specs.declared.Entry.{Entry}
use Rattle.parallel_dp.specs.Pieces.{IsNextOf}
use Rattle.parallel_dp.proofs.layers.next_of_piece.Goals as goal

pub returns : goal.returns
returns c =
    let start = c.args.k * c.args.width in
    let rest : List Entry = take (length c.args.layer.now - start) (drop start c.args.layer.now) in
    let same : rest ≡ drop start c.args.layer.now = take_all (length c.args.layer.now - start) (drop start c.args.layer.now) (omega (arith, length-drop start c.args.layer.now)) in
    subst (λ xs. IfOk c.next_in_ledger.result (IsNextOf c.args.i.now xs)) (ap (λ n. take n rest) c.min.ensures ∙ take_min c.args.width rest ∙ ap (take c.args.width) same) c.next_in_ledger.ensures

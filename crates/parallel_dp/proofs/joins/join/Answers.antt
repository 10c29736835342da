use Rattle.std.proofs.Common.{◌-◌, ◌∙◌, ◌++◌, List, ap, drop, length, subst, sym, take, arith}
use Rattle.dp_certificate.specs.declared.Entry.{Entry}
use Rattle.parallel_dp.specs.Pieces.{IsJoinOf}
use Rattle.parallel_dp.proofs.Joining.{rest-of-both}
use Rattle.parallel_dp.proofs.joins.join.Goals as goal

pub returns : goal.returns
returns c =
    let left = c.loop-left.left in
    let right = c.loop-left.right in
    subst (IsJoinOf c.args.a.now c.args.b.now)
    (sym (c.in_ok-extend_from_slice-2.ensures.items ∙ ap (λ (xs : List Entry). xs ++ take (length c.args.b.now - right) (drop right c.args.b.now)) c.in_ok-extend_from_slice.ensures.items))
    (rest-of-both c.args.a.now c.args.b.now left right c.loop-left.joined.items c.requires.first c.requires.second (λ x y. omega (arith, x, y)) c.loop-left.invariant)

use Rattle.std.proofs.Common.{◌-◌, refl, sym, subst, arith}
use Rattle.arrivals.specs.Stored.{EndsWith, IsJoined}
use Rattle.arrivals.proofs.JoinLaws.{joined-after, joined-same}
use Rattle.arrivals.proofs.joining.add_row.Goals as goal

pub returns-then-ends_with : goal.returns-then-ends_with
returns-then-ends_with c =
    joined-same c.args.kept.now.items c.args.row (c.len-last.result - 1) c.index_mut.result.now _ (omega (arith, c.len-last.ensures)) c.index_mut.ensures.value c.requires.order
    (subst (EndsWith c.args.row) c.as_slice.ensures.value (c.ends_with.ensures.same c.if-ends_with.true)) refl refl refl

pub returns : goal.returns
returns c =
    let other = rw c.as_slice.ensures.value at c.ends_with.ensures.other c.if-ends_with.false in
    let small = rw c.as_slice.ensures.value at c.ends_with.ensures.small in
    subst (IsJoined c.args.kept.now.items c.args.row) (sym c.in_ok-push.ensures.items) (joined-after c.args.kept.now.items c.args.row c.requires.order c.requires.ends other small)

use Rattle.std.proofs.Common.{◌≡◌, ◌+◌, ◌<◌, length, get_or, sym, ap, ◌∙◌, subst, arith}
use Rattle.std.proofs.lemmas.List.{get_or_default}
use Rattle.forward_dp.specs.Rows.{time_of}
use Rattle.forward_dp.proofs.Meeting.{AreBehind, behind-left, behind-right, behind-both, behind-end}
use Rattle.forward_dp.proofs.rows.merge.Goals as goal
use Rattle.forward_dp.proofs.rows.merge.Goals.{then-loop-next-test+else-time_of-time, else-loop-next-test, then-next-right+then-time_of-time-2+in_ok-push-2, else-next-right+in_ok-push-3, else-next-right-via-then-next-right+else-time_of-time-2, else-next-right-via-else-next-right}

pub loop-next-preserved : goal.loop-next-preserved
loop-next-preserved c =
    let left = c.args.left.now in
    let right = c.args.right.now in
    subst (AreBehind left right c.loop-row.row-index (c.loop-next.next + 1) c.args.rows.now.items) (sym c.in_ok-push.ensures.items)
    (behind-right left right c.loop-row.row-index c.loop-next.next c.args.rows.now.items c.loop-next.rows.items _ c.requires.right c.loop-next.invariant
    c.loop-next-test.true c.index-right-next-in-loop-next.is
    (λ d h.
    let same : c.time_of-time.result ≡ time_of (get_or left c.loop-row.row-index d) = c.time_of-time.ensures ∙ ap time_of (c.row-item.is ∙ get_or_default left c.loop-row.row-index _ d h) in
    let first : time_of c.index-right-next.result ≡ time_of c.index-right-next-in-loop-next.result = ap time_of (c.index-right-next.is ∙ get_or_default right c.loop-next.next _ _ c.loop-next-test.true ∙ sym c.index-right-next-in-loop-next.is) in
    omega (arith, c.if-time_of-time.true, c.time_of.ensures, same, first)))

pub loop-row-preserved : goal.loop-row-preserved
loop-row-preserved c =
    let left = c.args.left.now in
    let right = c.args.right.now in
    let i = c.loop-row.row-index in
    let n = c.loop-next.next in
    let old = c.args.rows.now.items in
    let inside : i < length left = omega (arith, c.loop-row-test.true) in
    elim c.if-next-right.branch [
      | then-next-right+then-time_of-time-2+in_ok-push-2 w ↦
          subst (λ rows. AreBehind left right (i + 1) c.if-next-right.next old rows.items) (sym w.rows-is)
          (subst (λ m. AreBehind left right (i + 1) m old w.push-then-time_of-time-2.new.self.items) (sym w.next-is)
          (subst (AreBehind left right (i + 1) (n + 1) old) (sym w.in_ok-push-2.ensures.items)
          (behind-both left right i n old c.loop-next.rows.items _ _ w.better_of.result c.requires.left c.requires.right c.loop-next.invariant inside c.row-item.is
          w.if-next-right.true w.index-right-next-then-time_of-time-2.is
          (ap time_of (w.index-right-next-then-time_of-time-2.is ∙ get_or_default right n _ _ w.if-next-right.true ∙ sym w.index-right-next-then-next-right.is) ∙ sym w.time_of-then-next-right.ensures ∙ w.if-time_of-time-2.true ∙ c.time_of-time.ensures)
          w.better_of.ensures.from w.better_of.ensures.first w.better_of.ensures.second)))
      | else-next-right+in_ok-push-3 w ↦
          subst (λ rows. AreBehind left right (i + 1) c.if-next-right.next old rows.items) (sym w.rows-is)
          (subst (λ m. AreBehind left right (i + 1) m old w.push-else-next-right.new.self.items) (sym w.next-is)
          (subst (AreBehind left right (i + 1) n old) (sym w.in_ok-push-3.ensures.items)
          (behind-left left right i n old c.loop-next.rows.items _ c.requires.left c.loop-next.invariant inside c.row-item.is
          (λ d h. elim w.else-next-right.branch [
            | else-next-right-via-then-next-right+else-time_of-time-2 v ↦
                let same : v.time_of-then-next-right.result ≡ time_of (get_or right n d) = v.time_of-then-next-right.ensures ∙ ap time_of (v.index-right-next-then-next-right.is ∙ get_or_default right n _ d h) in
                elim c.loop-next-test.branch [
                  | then-loop-next-test+else-time_of-time u ↦
                      let first : u.time_of.result ≡ time_of (get_or right n d) = u.time_of.ensures ∙ ap time_of (u.index-right-next.is ∙ get_or_default right n _ d h) in
                      omega (arith, u.if-time_of-time.false, v.if-time_of-time-2.false, first, same, c.time_of-time.ensures)
                  | else-loop-next-test u ↦ absurd (omega (arith, h, u.loop-next-test.false))
                ]
            | else-next-right-via-else-next-right v ↦ absurd (omega (arith, h, v.if-next-right.false))
          ]))))
    ]

pub loop-next-2-preserved : goal.loop-next-2-preserved
loop-next-2-preserved c =
    let left = c.args.left.now in
    let right = c.args.right.now in
    subst (AreBehind left right (length left) (c.loop-next-2.next + 1) c.args.rows.now.items) (sym c.in_ok-push-4.ensures.items)
    (behind-right left right (length left) c.loop-next-2.next c.args.rows.now.items c.loop-next-2.rows.items _ c.requires.right c.loop-next-2.invariant
    c.loop-next-2-test.true c.index-right-next-in-loop-next-2.is (λ d h. absurd (omega (arith, h))))

pub returns : goal.returns
returns c =
    behind-end c.args.left.now c.args.right.now (length c.args.left.now) c.loop-next-2.next c.args.rows.now.items c.loop-next-2.rows.items c.loop-next-2.invariant (omega arith) (omega (arith, c.loop-next-2-test.false))

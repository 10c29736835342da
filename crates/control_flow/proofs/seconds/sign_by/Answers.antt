use Rattle.std.proofs.Common.{◌<◌, None, sym, arith, ◌∙◌}
use Rattle.control_flow.proofs.SignLaws.{sign-past, sign-on, sign-change}
use Rattle.control_flow.proofs.seconds.sign_by.Goals as goal

pub returns-then-ended-rows : goal.returns-then-ended-rows
returns-then-ended-rows c = sym (sign-past None c.args.rows.now c.args.second c.args.ended c.requires.order c.if-ended-rows.true c.requires.ended)

pub returns-then-row-second : goal.returns-then-row-second
returns-then-row-second c =
    c.on.ensures
    ∙ sym (sign-on None c.args.rows.now c.args.second c.args.ended c.requires.order c.if-ended-rows.false c.requires.ended (c.requires.next c.if-ended-rows.false) c.if-row-second.true)

pub returns : goal.returns
returns c =
    let some : 0 < c.args.ended = omega (arith, c.if-ended-eq0.false) in
    sym (sign-change c.args.rows.now c.args.second c.args.ended c.requires.order some c.if-ended-rows.false c.requires.ended c.if-row-second.false)

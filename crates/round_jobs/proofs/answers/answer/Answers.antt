use Rattle.std.proofs.Common.{inl}
use Rattle.round_jobs.proofs.answers.answer.Goals as goal

pub returns-in_ok-with_end-in-Ok : goal.returns-in_ok-with_end-in-Ok
returns-in_ok-with_end-in-Ok c = λ records kept lines last is of.
    let reply = c.in-Ok.ensures.ok records kept lines last is of in
    record { after = reply.after; is = inl (c.in-Ok.reply.text.items, reply.decided, reply.told_by, c.in_ok-with_end-in-Ok.ensures); kept = reply.kept }

use Rattle.std.proofs.Common.{inr, refl, List, ℕ, subst}
use Rattle.commands.specs.declared.refusals.Refusal.TheVariants as refusal
use Rattle.round_jobs.specs.Gathering.{IsPut}
use Rattle.round_jobs.specs.Serving.{refused_answer}
use Rattle.round_jobs.proofs.ServeLaws.{on-ok}
use Rattle.round_jobs.proofs.service.put_answer.Goals as goal

pub returns-in-Ok : goal.returns-in-Ok
returns-in-Ok g c = λ lines whole records is kept of.
    let answered = c.in-Ok.ensures records kept lines whole is of in
    (c.in-Ok.answer.text.items, answered.after, answered.is, subst (λ (bytes : List ℕ). IsPut bytes (g.O.Sink.state c.args.out.now) (g.O.Sink.state c.put.new.out) c.put.result) c.deref.ensures.value c.put.ensures, on-ok c.put.result (c.keep_last.ensures c.args.net.now records answered.after kept answered.kept))

pub returns-in-Err : goal.returns-in-Err
returns-in-Err g c = λ lines whole records is kept of. (refused_answer refusal.NoMemory, records, inr (refusal.NoMemory, tt, refl, refl), c.put-in-Err.ensures, on-ok c.put-in-Err.result kept)

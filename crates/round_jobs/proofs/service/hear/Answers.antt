use Rattle.std.proofs.Common.{◌≡◌, true, inl, inr, refl, rules}
use Rattle.round_jobs.proofs.ServeLaws.{ends-kept, ends-whole, heard-broken}
use Rattle.round_jobs.proofs.service.hear.Goals as goal

pub returns-then-not-ends_request : goal.returns-then-not-ends_request
returns-then-not-ends_request g c = λ lines whole records is kept of.
    inl ((λ ends. let yes : c.ends_request.result ≡ true = c.ends_request.ensures.1 (ends-kept whole c.args.read c.args.line.now of ends) in absurd (cc)), c.add.ensures lines whole is of, kept, refl)

pub returns-in-Ok : goal.returns-in-Ok
returns-in-Ok g c = λ lines whole records is kept of.
    let (answer, last, answered, put, told) = c.in-Ok.ensures lines whole records is kept of in
    inr (c.clear.ensures, (answer, last, record { ends = ends-whole whole c.args.read c.args.line.now of (c.ends_request.ensures.0 (search rules)); is = answered }, told, put))

pub returns-in-Err : goal.returns-in-Err
returns-in-Err g c = λ lines whole records is kept of.
    let (answer, last, answered, put, told) = c.in-Err.ensures lines whole records is kept of in
    heard-broken c.args.net.now records lines whole c.args.gathered.now c.put_answer.new.kept (g.O.Sink.state c.args.out.now) (g.O.Sink.state c.put_answer.new.out) answer last c.in-Err.why
    (ends-whole whole c.args.read c.args.line.now of (c.ends_request.ensures.0 (search rules))) answered put

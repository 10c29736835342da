use Rattle.std.proofs.Common.{◌≡◌, ℕ, List, length, subst, ◌∙◌, arith}
use Rattle.outside_world.specs.Sink.{Breaks, Gains}
use Rattle.certificate_form.proofs.PartLaws.{text_is}
use Rattle.certificate_form.proofs.writing.put_certificate.Goals as goal

pub returns-in_err-put_rest-clause-breaks : goal.returns-in_err-put_rest-clause-breaks
returns-in_err-put_rest-clause-breaks g c = λ e.
    let phases : c.from-phases.result ≡ length c.args.c.now.problem.plan = grind arith in
    let is = text_is c.args.c.now c.instance-2.result.now c.from-phases.result c.answer.result.now c.entries.result.now _ _ c.instance-2.ensures c.answer.ensures.value c.entries.ensures.value phases
    c.in_ok-write_front.ensures.text (c.in_ok-reserve.ensures.items ∙ c.in_ok-write_answer.ensures.text) in
    subst (λ (y : List ℕ). Breaks (g.O.Sink.state c.args.out.now) (g.O.Sink.state c.put_rest.new.out) y) is c.in_err-put_rest.ensures.breaks

pub returns-clause-ok : goal.returns-clause-ok
returns-clause-ok g c =
    let phases : c.from-phases.result ≡ length c.args.c.now.problem.plan = grind arith in
    let is = text_is c.args.c.now c.instance-2.result.now c.from-phases.result c.answer.result.now c.entries.result.now _ _ c.instance-2.ensures c.answer.ensures.value c.entries.ensures.value phases
    c.in_ok-write_front.ensures.text (c.in_ok-reserve.ensures.items ∙ c.in_ok-write_answer.ensures.text) in
    subst (λ (y : List ℕ). Gains (g.O.Sink.state c.args.out.now) (g.O.Sink.state c.put_rest.new.out) y) is c.in_ok-put_rest.ensures.ok

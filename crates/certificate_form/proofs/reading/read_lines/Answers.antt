use Rattle.std.proofs.Common.{◌≡◌, ℕ, List, ◌++◌, length, Some, None, arith}
use Rattle.std.specs.Prelude.{codes}
use Rattle.std.proofs.lemmas.Result.{err_from_is_err_and}
use Rattle.instance_form.specs.declared.form.FormFault.TheVariants.{Line}
use Rattle.instance_form.proofs.Loops.{fault_is}
use Rattle.schedule_meaning.specs.Instances.{Problem}
use Rattle.certificate_form.proofs.FirstFault.{front_text, first_fault}
use Rattle.certificate_form.proofs.TailLaws.{tail_text}
use Rattle.certificate_form.proofs.WholeLaws.{no_opening, behind_opening, front_line, whole, room, read_form, read_only, fails_only, fails_line}
use Rattle.certificate_form.proofs.reading.read_lines.Goals as goal
use Rattle.certificate_form.proofs.reading.read_lines.Goals.{In_err-rest, In_ok-rest, In_ok-form}

no_first : (c : In_err-rest) → (rest : List ℕ) → c.args.bytes.now ≡ codes "certificate 1\n" ++ rest → ⊥
no_first c rest e =
    let none : c.literal.result ≡ None = c.in_err-rest.ensures.ok_part in
    rw none at (c.literal.ensures.only rest e)

pub returns-in_err-rest-clause-only : goal.returns-in_err-rest-clause-only
returns-in_err-rest-clause-only c = λ marks claim form. absurd (no_opening marks c.args.bytes.now claim (no_first (goal.at.returns-in_err-rest-clause-only c).In_err-rest) form.text)

pub returns-in_err-rest-clause-first : goal.returns-in_err-rest-clause-first
returns-in_err-rest-clause-first c =
    let none : c.literal.result ≡ None = c.in_err-rest.ensures.ok_part in
    let fault : c.in_err-rest.field-0.0 ≡ Line 1 = fault_is c.literal.result _ _ none c.in_err-rest.ensures.value in
    let p = err_from_is_err_and c.from_residual.result c.from_residual.ensures.1 in
    rw (p.1, p.2, fault) (first_fault c.args.bytes.now (no_first (goal.at.returns-in_err-rest-clause-first c).In_err-rest))

-- the first line is there
opened : (c : In_ok-rest) → c.args.bytes.now ≡ codes "certificate 1\n" ++ c.in_ok-rest.rest.now
opened c =
    let some : c.literal.result ≡ Some c.in_ok-rest.rest = c.in_ok-rest.ensures.ok_part in
    rw some at c.literal.ensures.some

pub returns-in_err-form-clause-only : goal.returns-in_err-form-clause-only
returns-in_err-form-clause-only c = λ marks claim form.
    let p = err_from_is_err_and c.from_residual-in_err-form.result c.from_residual-in_err-form.ensures.1 in
    let a = claim.problem in
    rw (p.1, p.2) (c.in_err-form.ensures.only marks a.plan a.head a.lists (tail_text (length a.plan) claim.answer claim.entries) form.fits.instance form.ring
    (behind_opening marks c.args.bytes.now c.in_ok-rest.rest.now claim (opened (goal.at.returns-in_err-form-clause-only c).In_ok-rest) form.text))

pub returns-in_err-form-clause-first : goal.returns-in_err-form-clause-first
returns-in_err-form-clause-first c =
    let p = err_from_is_err_and c.from_residual-in_err-form.result c.from_residual-in_err-form.ensures.1 in
    rw (p.1, p.2) (front_line c.args.bytes.now c.in_ok-rest.rest.now c.in_err-form.field-0.0 (opened (goal.at.returns-in_err-form-clause-first c).In_ok-rest) c.in_err-form.ensures.first)

-- what the instance's lines say
problem_of : In_ok-form → Problem
problem_of c = record { plan = c.in_ok-form.form.phases.items; head = c.in_ok-form.form.head; lists = c.in_ok-form.form.lists.items }

-- and what stands after them
spelled : (c : In_ok-form) → c.args.bytes.now ≡ front_text c.in_ok-form.form.marks (problem_of c) ++ c.in_ok-form.rest.now
unfolding problem_of
spelled c = whole c.in_ok-form.form.marks (problem_of c) c.args.bytes.now c.in_ok-rest.rest.now c.in_ok-form.rest.now (opened (goal.at.In_ok-form c).In_ok-rest) c.in_ok-form.ensures.ok.1

pub tail-requires-clause-room : goal.tail-requires-clause-room
unfolding problem_of
tail-requires-clause-room c =
    room c.in_ok-form.form.marks (problem_of (goal.at.tail-requires-clause-room c).In_ok-form) c.args.bytes.now c.in_ok-rest.rest.now c.in_ok-form.rest.now c.in_ok-form.line 4294967296 c.in_ok-form.ensures.ok.0.fits c.in_ok-form.ensures.ok.0.ring
    (opened (goal.at.tail-requires-clause-room c).In_ok-rest) c.in_ok-form.ensures.ok.1 c.in_ok-form.ensures.next c.requires

pub returns-in_err-answer-clause-only : goal.returns-in_err-answer-clause-only
unfolding problem_of
returns-in_err-answer-clause-only c = λ marks claim form.
    let d = (goal.at.returns-in_err-answer-clause-only c).In_ok-form in
    let p = err_from_is_err_and c.from_residual-in_err-answer.result c.from_residual-in_err-answer.ensures.1 in
    let phases : c.len-phases.result ≡ length c.in_ok-form.form.phases.items = omega (arith, c.len-phases.ensures, c.in_ok-form.form.phases.ok.0) in
    rw (p.1, p.2) (fails_only c.in_ok-form.form.marks (problem_of d) c.in_ok-form.ensures.ok.0.fits c.in_ok-form.ensures.ok.0.ring c.args.bytes.now c.in_ok-form.rest.now c.in_ok-form.line (spelled d) c.in_ok-form.ensures.next c.in_err-answer.field-0.0 (rw phases at c.in_err-answer.ensures.exact) marks claim form)

pub returns-in_err-answer-clause-first : goal.returns-in_err-answer-clause-first
unfolding problem_of
returns-in_err-answer-clause-first c =
    let d = (goal.at.returns-in_err-answer-clause-first c).In_ok-form in
    let p = err_from_is_err_and c.from_residual-in_err-answer.result c.from_residual-in_err-answer.ensures.1 in
    let phases : c.len-phases.result ≡ length c.in_ok-form.form.phases.items = omega (arith, c.len-phases.ensures, c.in_ok-form.form.phases.ok.0) in
    rw (p.1, p.2) (fails_line c.in_ok-form.form.marks (problem_of d) c.in_ok-form.ensures.ok.0.fits c.in_ok-form.ensures.ok.0.ring c.args.bytes.now c.in_ok-form.rest.now c.in_ok-form.line (spelled d) c.in_ok-form.ensures.next c.in_err-answer.field-0.0 (rw phases at c.in_err-answer.ensures.exact))

pub returns-clause-ok : goal.returns-clause-ok
unfolding problem_of
returns-clause-ok c =
    let d = (goal.at.returns-clause-ok c).In_ok-form in
    let phases : c.len-phases.result ≡ length c.in_ok-form.form.phases.items = omega (arith, c.len-phases.ensures, c.in_ok-form.form.phases.ok.0) in
    read_form c.in_ok-form.form.marks (problem_of d) c.in_ok-form.ensures.ok.0.fits c.in_ok-form.ensures.ok.0.ring c.args.bytes.now c.in_ok-form.rest.now c.in_ok-form.line (spelled d) c.in_ok-form.ensures.next c.in_ok-answer.answer c.in_ok-answer.entries.items (rw phases at c.in_ok-answer.ensures.exact)

pub returns-clause-only : goal.returns-clause-only
unfolding problem_of
returns-clause-only c = λ marks claim form.
    let d = (goal.at.returns-clause-only c).In_ok-form in
    let phases : c.len-phases.result ≡ length c.in_ok-form.form.phases.items = omega (arith, c.len-phases.ensures, c.in_ok-form.form.phases.ok.0) in
    read_only c.in_ok-form.form.marks (problem_of d) c.in_ok-form.ensures.ok.0.fits c.in_ok-form.ensures.ok.0.ring c.args.bytes.now c.in_ok-form.rest.now c.in_ok-form.line (spelled d) c.in_ok-form.ensures.next c.in_ok-answer.answer c.in_ok-answer.entries.items (rw phases at c.in_ok-answer.ensures.exact) marks claim form

use Rattle.std.proofs.Common.{ℕ, List, Option, Some, IfSome, Bor, sym, ap, subst, ◌∙◌}
use Rattle.certificate_form.specs.Lines.{IsFrontText}
use Rattle.certificate_form.specs.declared.lines.Front.{Front}
use Rattle.certificate_form.proofs.EntryLaws.{front_again, front_cut}
use Rattle.certificate_form.proofs.lines.next_front.Goals as goal

pub returns-then-starts_with-clause-exact : goal.returns-then-starts_with-clause-exact
returns-then-starts_with-clause-exact c =
    let again = subst (λ (o : Option (Front × Bor (List ℕ))). IfSome o (λ x. IsFrontText c.args.phases x.0 x.1.now)) c.in-Some.is c.requires in
    (front_again c.args.phases c.in-Some.front c.in-Some.text.now c.args.bytes.now again (sym c.starts_with.ensures.value ∙ c.if-starts_with.true)).0

pub returns-then-starts_with-clause-again : goal.returns-then-starts_with-clause-again
returns-then-starts_with-clause-again c =
    let again = subst (λ (o : Option (Front × Bor (List ℕ))). IfSome o (λ x. IsFrontText c.args.phases x.0 x.1.now)) c.in-Some.is c.requires in
    let front = front_again c.args.phases c.in-Some.front c.in-Some.text.now c.args.bytes.now again (sym c.starts_with.ensures.value ∙ c.if-starts_with.true) in
    subst (IsFrontText c.args.phases c.in-Some.front) (sym front.1) again

pub returns-clause-exact : goal.returns-clause-exact
returns-clause-exact c =
    let cut = front_cut c.args.phases c.args.bytes.now c.in_ok-front.front c.in_ok-front.rest.now c.in_ok-front.ensures.exact in
    ap (λ rest. Some (c.in_ok-front.front, rest)) cut.0 ∙ c.in_ok-front.ensures.exact

pub returns-clause-again : goal.returns-clause-again
returns-clause-again c = (front_cut c.args.phases c.args.bytes.now c.in_ok-front.front c.in_ok-front.rest.now c.in_ok-front.ensures.exact).1

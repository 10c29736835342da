use Rattle.std.proofs.Common.{ℕ, List, [], ◌∷◌, Some, refl, sym, ap, ◌∙◌, subst}
use Rattle.std.proofs.lemmas.Result.{err_from_is_err_and}
use Rattle.histories.specs.Progress.{HasCome}
use Rattle.delay_report.specs.Readers.{steps_if}
use Rattle.delay_report.proofs.texts.take_step.Goals as goal

pub returns-in_err-node-clause-first : goal.returns-in_err-node-clause-first
returns-in_err-node-clause-first c =
    let p = err_from_is_err_and c.from_residual.result c.from_residual.ensures.1 in
    rw (p.1, p.2) (c.in_err-node.ensures.first c.args.steps.now.items)

pub returns-in_ok-push-in-Ok-clause-taken : goal.returns-in_ok-push-in-Ok-clause-taken
returns-in_ok-push-in-Ok-clause-taken c = record {
  more = c.in-Some.node ∷ [];
  parsed = c.in_ok-node.ensures.ok ∙ ap (λ o. Some (steps_if o)) c.in-Some.is;
  new_is = c.in_ok-push-in-Ok.ensures.items;
  come = subst (λ (h : List ℕ). HasCome c.args.net.now h c.take.new.self) (sym c.in_ok-push-in-Ok.ensures.items) (c.in-Ok.ensures.ok c.args.net.now c.args.steps.now.items c.requires.come);
}

pub returns-in-Err-Over-clause-first : goal.returns-in-Err-Over-clause-first
returns-in-Err-Over-clause-first c =
    (refl, (c.in-Some.node, c.in_ok-node.ensures.ok ∙ ap (λ o. Some (steps_if o)) c.in-Some.is, (rw c.in-Err-Over.field-0-is at c.in-Err-Over.ensures.first) c.args.net.now c.args.steps.now.items c.requires.come))

pub returns-in-Err-NotItsTurn-clause-first : goal.returns-in-Err-NotItsTurn-clause-first
returns-in-Err-NotItsTurn-clause-first c =
    (refl, (c.in-Some.node, c.in_ok-node.ensures.ok ∙ ap (λ o. Some (steps_if o)) c.in-Some.is, (rw c.in-Err-NotItsTurn.field-0-is at c.in-Err-NotItsTurn.ensures.first) c.args.net.now c.args.steps.now.items c.requires.come))

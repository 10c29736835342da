use Rattle.std.proofs.Common.{List, None, ap, subst, sym, ◌∙◌}
use Rattle.control_flow.specs.Signs.{sign_at}
use Rattle.control_flow.specs.declared.greens.Green.{Green}
use Rattle.control_flow.specs.Greens.{IsInOrder}
use Rattle.control_flow.proofs.SignLaws.{sign-begun}
use Rattle.control_flow.proofs.seconds.sign_at.Goals as goal

pub returns-in-Some-clause-exact : goal.returns-in-Some-clause-exact
returns-in-Some-clause-exact c =
    c.on.ensures
    ∙ sym (sign-begun None c.rows-rows.result.now c.args.second c.in-Some.row (subst IsInOrder (sym c.rows-rows.ensures.value) c.rows-rows.ensures.order) c.in-Some.ensures.after c.in-Some.ensures.begun)
    ∙ ap (λ (rows : List Green). sign_at rows c.args.second) c.rows-rows.ensures.value

use Rattle.std.proofs.Common.{List, [], ◌∷◌, OnOk, map, subst}
use Rattle.std.proofs.lemmas.Result.{on_ok_weaker}
use Rattle.control_flow.specs.declared.greens.Green.{Green}
use Rattle.round_states.specs.NextTexts.{Keeps}
use Rattle.round_states.specs.StateRecords.{green_record}
use Rattle.round_states.proofs.KeptLaws.{keeps-then}
use Rattle.round_decisions.specs.DecisionTexts.{plan_record}
use Rattle.round_decisions.proofs.KeptRecordLaws.{keeps-plan-of}
use Rattle.round_decisions.proofs.kept_decisions.keep_turn.Goals as goal

pub returns : goal.returns
returns c =
    on_ok_weaker c.add_greens.result
    (λ greens. keeps-then c.args.net.now c.args.kept.now c.add_plan.new.self c.add_greens.new.self (plan_record c.args.net.now c.args.plan.now ∷ []) _ (keeps-plan-of c.args.net.now c.args.plan.now c.args.kept.now c.add_plan.new.self c.in_ok-add_plan.ensures) greens)
    (subst (λ (l : List Green). OnOk c.add_greens.result (Keeps c.args.net.now c.add_plan.new.self c.add_greens.new.self (map (green_record c.args.net.now c.args.plan.now.node) l))) c.rows_from.ensures.value c.add_greens.ensures)

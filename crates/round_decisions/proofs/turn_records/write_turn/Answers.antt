use Rattle.std.proofs.Common.{List, [], ◌∷◌, OnOk, map, subst}
use Rattle.control_flow.specs.declared.greens.Green.{Green}
use Rattle.round_decisions.specs.Lines.{rows_from}
use Rattle.round_decisions.specs.DecisionTexts.{plan_record}
use Rattle.round_states.specs.StateRecords.{green_record}
use Rattle.round_decisions.proofs.DecisionTextLaws.{adds-last}
use Rattle.round_decisions.proofs.turn_records.write_turn.Goals as goal
use Rattle.world_records.specs.Written.{Adds}

pub returns : goal.returns
returns c =
    adds-last c.write_greens.result c.args.out.now c.write_plan.new.out c.write_greens.new.out (plan_record c.args.net.now c.args.plan.now ∷ []) (map (green_record c.args.net.now c.args.plan.now.node) (rows_from c.args.second c.args.line.now))
    c.in_ok-write_plan.ensures (subst (λ (l : List Green). OnOk c.write_greens.result (Adds c.write_plan.new.out c.write_greens.new.out (map (green_record c.args.net.now c.args.plan.now.node) l))) c.rows_from.ensures.value c.write_greens.ensures)

use Rattle.std.proofs.Common.{take}
use Rattle.std.specs.List.{flat_map}
use Rattle.round_states.specs.NextTexts.{Keeps}
use Rattle.round_decisions.specs.DecisionTexts.{turn_records}
use Rattle.round_decisions.specs.Promises.{decided_line}
use Rattle.round_decisions.proofs.kept_decisions.keep_turns.Given as goal

-- the records of the turns so far
abbrev pub invariant-loop-plan : goal.invariant-loop-plan
invariant-loop-plan l = Keeps l.net l.fn.kept l.kept (flat_map (λ plan. turn_records l.net l.second plan (decided_line l.decision plan.node)) (take l.plan-index l.decision.plans))

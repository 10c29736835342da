-- What the calls of the passes tell of a run in threads.
use Rattle.std.specs.Prelude.{◌≡◌, ℕ, ◌*◌, ◌/◌, ◌≤◌, false, IfSome, Some, List, Contains, length, map, slice_get}
use Rattle.std.specs.List.{range_with_len}
use Rattle.board_model.specs.Boards.{Log}
use Rattle.board_model.specs.Calls.{Agree, AreLogsOf, log_at}
use Rattle.board_model.specs.declared.calls.Call.{Call}
use Rattle.link_boards.specs.Passes.{PassView}
use Rattle.histories.specs.Histories.{IsLawful}
use Rattle.histories.specs.Merges.{IsMerge}
use Rattle.histories.specs.Steps.{board_steps}
use Rattle.intersection_actor.specs.declared.records.PlanRecord.{PlanRecord}
use Rattle.histories.specs.Calls.{step_of, steps_of_rounds}
use Rattle.net_parts.specs.Numbers.{Net}
use Rattle.runs.specs.Promises.{IsKeptRun}
use Rattle.runs.specs.declared.records.RunRecord.{RunRecord}

-- The calls of a node's pass are its board steps in all rounds, round by round; and each reading has the version that the plan of its
-- round names for its link.
pub record AreStepsOf (net : Net) (run : RunRecord) (node : ℕ) (calls : List Call) : Type 0 where
  pub steps : map step_of calls ≡ steps_of_rounds net.run.rounds (board_steps net node)
  pub named : (place : ℕ) (call : Call) (plan : PlanRecord) → slice_get calls place ≡ Some call → call.publishes ≡ false
      → Contains run.plans plan → plan.node ≡ node → plan.round ≡ place / length (board_steps net node)
      → Contains plan.used (record { link = call.link; version = call.version })

-- whatever logs these calls have, their merge is lawful
abbrev pub MergeToLawful : Net → (ℕ → List Call) → Type 0
MergeToLawful net calls =
    (logs : List Log) (history : List ℕ) → AreLogsOf calls (log_at logs) → IsMerge logs history → IsLawful net history

-- where the logs of these calls agree with them, this is the run of their merge, with all that a run keeps
abbrev pub IsRunOfCalls : Net → (ℕ → ℕ → ℕ) → (ℕ → List Call) → RunRecord → Type 0
IsRunOfCalls net arriving calls run =
    (logs : List Log) (history : List ℕ) → AreLogsOf calls (log_at logs) → Agree calls (log_at logs)
    → IsMerge logs history
    → IsKeptRun net arriving history run

-- of each node, how many board steps it has in all rounds
abbrev pub node_calls : Net → List ℕ
node_calls net = map (λ node. net.run.rounds * length (board_steps net node)) (range_with_len 0 (length net.node_names))

-- each pass has at least as many calls left as its node has board steps in all rounds
abbrev pub HaveCallsLeft : Net → List PassView → Type 0
HaveCallsLeft net passes =
    (node : ℕ) → IfSome (slice_get passes node) (λ p. net.run.rounds * length (board_steps net node) ≤ p.left)

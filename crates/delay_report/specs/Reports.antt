-- The report of a run: its records, and its text.
use Rattle.std.specs.Prelude.{codes, ℕ, ◌+◌, List, [], ◌∷◌, ◌++◌, length, map, slice_index}
use Rattle.std.specs.Fmt.{decimal}
use Rattle.std.specs.List.{flat_map, join_with_byte, range_with_len}
use Rattle.histories.specs.Histories.{round_at, step_at, version_at}
use Rattle.histories.specs.Steps.{board_steps}
use Rattle.histories.specs.declared.steps.BoardStep.{BoardStep}
use Rattle.histories.specs.declared.steps.BoardStep.TheVariants.{Read, Publish}
use Rattle.intersection_actor.specs.PlanFields.{used_text}
use Rattle.intersection_actor.specs.declared.records.PlanRecord.{PlanRecord}
use Rattle.net_parts.specs.Numbers.{Net}
use Rattle.net_parts.specs.Outline.{link_name_at, node_name_at}
use Rattle.net_simulator.specs.Sums.{end_of_run}
use Rattle.runs.specs.declared.records.RunRecord.{RunRecord}
use Rattle.schedule_meaning.specs.declared.planners.Answer.{Answer}
use Rattle.schedule_meaning.specs.declared.planners.Answer.TheVariants.{Plan, NoPlan}
use Rattle.world_records.specs.Records.{header, shown_records}
pub use Rattle.world_records.specs.Records.{records_text}

-- The record of a board step of a node in a round: the link, and the version that is read, or else made, where `versions` counts
-- the forecasts that were published on each link before it.
abbrev pub step_record : Net → ℕ → ℕ → (ℕ → ℕ) → BoardStep → List (List ℕ)
step_record net round node versions (Read link) =
    codes "step" ∷ decimal round ∷ node_name_at net node ∷ codes "read" ∷ link_name_at net link
    ∷ decimal (versions link) ∷ [] ∷ []
step_record net round node versions (Publish link) =
    codes "step" ∷ decimal round ∷ node_name_at net node ∷ codes "publish" ∷ link_name_at net link
    ∷ decimal (versions link + 1) ∷ [] ∷ []

-- the record of the board step at a place of a history
abbrev pub step_record_at : Net → List ℕ → ℕ → List (List ℕ)
step_record_at net history place =
    step_record net (round_at (board_steps net) history place) (slice_index history place)
    (λ link. version_at (board_steps net) history link place) (step_at (board_steps net) history place)

-- an answer: a plan with its delay and its phases one after another, or none
abbrev pub answer_fields : Answer → List (List ℕ)
answer_fields (Plan sequence delay) = codes "plan" ∷ decimal delay ∷ flat_map decimal sequence ∷ []
answer_fields NoPlan = codes "none" ∷ [] ∷ [] ∷ []

-- the record of a plan: the versions that it used, with a semicolon between each two, and its answer
abbrev pub plan_record : Net → PlanRecord → List (List ℕ)
plan_record net plan =
    codes "plan" ∷ decimal plan.round ∷ node_name_at net plan.node ∷ join_with_byte 59 (map (used_text net) plan.used)
    ∷ answer_fields plan.answer

-- the records of the front of a report: the header, and the steps of the history, in their order
abbrev pub steps_records : Net → List ℕ → List (List (List ℕ))
steps_records net history = header ∷ map (step_record_at net history) (range_with_len 0 (length history))

-- the records of the outcome of a run: the plans by round and node; the greens that are told, by node and time; the totals of each
-- link; and the totals of the whole network
abbrev pub outcome_records : Net → RunRecord → List (List (List ℕ))
outcome_records net run =
    map (plan_record net) run.plans ++ shown_records net run.timelines run.links run.totals (end_of_run net)

-- the records of a report: the steps of the history, and after them the outcome of the run
unfoldable pub report_records : Net → RunRecord → List ℕ → List (List (List ℕ))
report_records net run history = steps_records net history ++ outcome_records net run

-- the text of a report
abbrev pub report_text : Net → RunRecord → List ℕ → List ℕ
report_text net run history = records_text (report_records net run history)

-- The text of what is decided in a round: its records, and what may be told so.
use Rattle.std.specs.Prelude.{codes, ◌≡◌, ℕ, ◌<◌, ◌&&◌, Bool, List, [], ◌∷◌, ◌++◌, All, Option, Some, None, if◌then◌else◌, is_some, length, map}
use Rattle.std.specs.Fmt.{decimal}
use Rattle.std.specs.List.{flat_map, join_with_byte, range_with_len}
use Rattle.control_flow.specs.declared.greens.Green.{Green}
use Rattle.intersection_actor.specs.PlanFields.{used_text}
use Rattle.intersection_actor.specs.declared.records.PlanRecord.{PlanRecord}
use Rattle.intersection_actor.specs.declared.records.Used.{Used}
use Rattle.net_parts.specs.Numbers.{Net}
use Rattle.net_parts.specs.Outline.{link_at, node_name_at}
use Rattle.round_decisions.specs.Lines.{rows_from}
use Rattle.round_decisions.specs.Promises.{decided_line}
use Rattle.round_decisions.specs.Turns.{board_of, tells}
use Rattle.round_decisions.specs.declared.decisions.Decision.{Decision}
use Rattle.round_decisions.specs.declared.decisions.NodeDecision.{NodeDecision}
use Rattle.round_states.specs.States.{begin_of}
use Rattle.round_states.specs.StateRecords.{board_records, green_record, header}
use Rattle.round_states.specs.declared.states.LinkBoard.{LinkBoard}
use Rattle.schedule_meaning.specs.declared.planners.Answer.{Answer}
use Rattle.schedule_meaning.specs.declared.planners.Answer.TheVariants.{Plan, NoPlan}
use Rattle.world_records.specs.Records.{records_text}

-- an answer: its delay and its phases one after another, or that there is none
abbrev pub answer_fields : Answer → List (List ℕ)
answer_fields (Plan sequence delay) = decimal delay ∷ flat_map decimal sequence ∷ []
answer_fields NoPlan = codes "none" ∷ [] ∷ []

-- the record of a plan: the versions that it used, with a semicolon between each two, and its answer
abbrev pub plan_record : Net → PlanRecord → List (List ℕ)
plan_record net plan =
    codes "plan" ∷ node_name_at net plan.node ∷ join_with_byte 59 (map (used_text net) plan.used)
    ∷ answer_fields plan.answer

-- the records of a node's turn: its plan, and the rows of its line that rounds from this second on need
abbrev pub turn_records : Net → ℕ → PlanRecord → List Green → List (List (List ℕ))
turn_records net second plan line = plan_record net plan ∷ map (green_record net plan.node) (rows_from second line)

-- whether a node tells another one on a link
abbrev pub is_told : Net → ℕ → Bool
is_told net link = is_some (link_at net link).from && is_some (link_at net link).to

-- the links whose boards are told: those on which this node tells another one; with no node, those on which any does
abbrev pub is_shown : Net → Option ℕ → ℕ → Bool
is_shown net None link = is_told net link
is_shown net (Some node) link = tells net node link

-- the records of the board of a link, where it is told
abbrev pub board_records_of : Net → Option ℕ → List LinkBoard → ℕ → List (List (List ℕ))
board_records_of net node boards link =
    if is_shown net node link then board_records net link (board_of boards link) else []

-- those of all links, by number
abbrev pub boards_records : Net → Option ℕ → List LinkBoard → List (List (List ℕ))
boards_records net node boards = flat_map (board_records_of net node boards) (range_with_len 0 (length net.link_names))

-- the records of what a decision of a round tells: of the turn of each node, and of the boards
abbrev pub told_records : Net → ℕ → Decision → List (List (List ℕ))
told_records net round d =
    flat_map (λ plan. turn_records net (begin_of net round) plan (decided_line d plan.node)) d.plans
    ++ boards_records net None d.boards

-- the records of a decision of a round: the header, and those of what it tells
abbrev pub decision_records : Net → ℕ → Decision → List (List (List ℕ))
decision_records net round d = header ∷ told_records net round d

-- The records of what one node decides: the header; its turn; and the boards of the links on which it tells another one.
abbrev pub node_decision_records : Net → ℕ → ℕ → NodeDecision → List (List (List ℕ))
node_decision_records net round node d =
    header ∷ turn_records net (begin_of net round) d.plan d.line ++ boards_records net (Some node) d.boards

-- the text of a decision, and that of what one node decides
abbrev pub decision_text : Net → ℕ → Decision → List ℕ
decision_text net round d = records_text (decision_records net round d)

abbrev pub node_decision_text : Net → ℕ → ℕ → NodeDecision → List ℕ
node_decision_text net round node d = records_text (node_decision_records net round node d)

-- a plan names a node of the network, and links of it
pub record IsPlanOf (net : Net) (plan : PlanRecord) : Type 0 where
  pub node : plan.node < length net.node_names
  pub used : All (λ (u : Used). u.link < length net.link_names) plan.used

-- A decision of the network: each plan is of a node that has a line, and each link has a board.
pub record IsDecisionOf (net : Net) (d : Decision) : Type 0 where
  pub plans : All (IsPlanOf net) d.plans
  pub lines : length d.lines ≡ length net.node_names
  pub boards : length d.boards ≡ length net.link_names

-- what a node of the network decides, with a board of each link
pub record IsNodeDecisionOf (net : Net) (d : NodeDecision) : Type 0 where
  pub plan : IsPlanOf net d.plan
  pub boards : length d.boards ≡ length net.link_names

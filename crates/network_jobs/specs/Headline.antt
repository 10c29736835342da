-- What the network commands write: reports of runs, and instances that were planned in them.
use Rattle.std.specs.Prelude.{◌≡◌, ℕ, List, Contains, Some}
use Rattle.arrivals.specs.Amounts.{Amounts, arriving_of}
use Rattle.audit.specs.Audits.{IsCleanText}
use Rattle.delay_report.specs.Reports.{report_text}
use Rattle.delay_report.specs.Texts.{IsHistoryText}
use Rattle.dp_certificate.specs.Certificates.{Claim}
use Rattle.histories.specs.Histories.{turn_order}
use Rattle.intersection_actor.specs.declared.records.PlanRecord.{PlanRecord}
use Rattle.net_parts.specs.Numbers.{Net, number_of}
use Rattle.runs.specs.declared.records.RunRecord.{RunRecord}
use Rattle.scenario_gen.specs.Grids.{IsGrid}
use Rattle.schedule_meaning.specs.Best.{IsLeast}
use Rattle.schedule_meaning.specs.Instances.{Problem}
use Rattle.schedule_meaning.specs.declared.planners.Answer.{Answer}
use Rattle.schedule_meaning.specs.declared.planners.Answer.TheVariants.{Plan, NoPlan}
use Rattle.world_records.specs.Records.{counted_text}
use Rattle.commands.specs.Texts.{Reads}
use Rattle.bounded_runs.specs.Runs.{IsRunOf}
use Rattle.planner_jobs.specs.Kinds.{InstanceText}
use Rattle.network_jobs.specs.Summary.{summary_text}

-- The bytes are the report of the run of this history, and the text of one sheet, which is clean: an audit finds nothing in it.
-- `arriving second link` is what enters a link from outside in a second, in thousandths of a vehicle.
pub record Headline (net : Net) (arriving : ℕ → ℕ → ℕ) (history : List ℕ) (bytes : List ℕ) : Type 0 where
  pub run : RunRecord
  pub runs : IsRunOf net arriving history run
  pub report : bytes ≡ report_text net run history
  pub clean : IsCleanText net arriving bytes

-- The headline for the history that the bytes are a text of, and of no other: which one it is, the machine decides.
pub record ToldHeadline (net : Net) (arriving : ℕ → ℕ → ℕ) (bytes : List ℕ) : Type 0 where
  pub history : List ℕ
  pub headline : Headline net arriving history bytes
  pub is_text : IsHistoryText net bytes history
  pub only : (other : List ℕ) → IsHistoryText net bytes other → other ≡ history

-- The bytes are the records of what the run of the turn order counted, of each link and in all: those at the end of its report.
pub record IsTotalsText (net : Net) (arriving : ℕ → ℕ → ℕ) (bytes : List ℕ) : Type 0 where
  pub run : RunRecord
  pub runs : IsRunOf net arriving (turn_order net) run
  pub text : bytes ≡ counted_text net run.links run.totals

-- one answer says what the other says: both plan with one delay, or both plan nothing
abbrev pub AgreesWith : Answer → Answer → Type 0
AgreesWith (Plan sequence delay) (Plan other said) = delay ≡ said
AgreesWith NoPlan NoPlan = Unit {0}
AgreesWith _ _ = ⊥

-- The bytes are the text of the instance of a plan of a run, that of the node with this name in this round. They are read as this
-- instance and as no other, and every answer of it than which no sequence has less delay agrees with the plan: so does that of
-- every certificate of it that `check` accepts.
pub record IsPlannedText (net : Net) (arriving : ℕ → ℕ → ℕ) (history : List ℕ) (node : List ℕ) (round : ℕ)
    (bytes : List ℕ) : Type 0 where
  pub run : RunRecord
  pub runs : IsRunOf net arriving history run
  pub plan : PlanRecord
  pub among : Contains run.plans plan
  pub of_node : number_of net.node_names node ≡ Some plan.node
  pub of_round : plan.round ≡ round
  pub reads : Reads InstanceText bytes plan.instance
  pub only : (other : Problem) → Reads InstanceText bytes other → other ≡ plan.instance
  pub agrees : (c : Claim) → c.problem ≡ plan.instance → IsLeast c.problem c.answer → AgreesWith c.answer plan.answer

-- the bytes are the summary of the run of the turn order on the grid of a number
pub record IsGridSummary (number side rounds : ℕ) (bytes : List ℕ) : Type 0 where
  pub net : Net
  pub arrivals : Amounts
  pub grid : IsGrid number side rounds net arrivals
  pub run : RunRecord
  pub runs : IsRunOf net (arriving_of arrivals) (turn_order net) run
  pub summary : bytes ≡ summary_text number side rounds run

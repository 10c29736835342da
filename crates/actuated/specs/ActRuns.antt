-- A run of the controller: what each node makes of its line in each round, by what it senses then, and the record of the run.
use Rattle.std.specs.Prelude.{◌≡◌, ℕ, ◌+◌, ◌*◌, ◌<◌, List, Some, length, map}
use Rattle.std.specs.List.{range_with_len}
use Rattle.control_flow.specs.Greens.{head_at, spliced}
use Rattle.control_flow.specs.Signs.{sign_at}
use Rattle.control_flow.specs.Timelines.{first_head, rotation_of}
use Rattle.control_flow.specs.declared.greens.Green.{Green}
use Rattle.switch_rules.specs.declared.Head.{Head}
use Rattle.net_parts.specs.Numbers.{Net}
use Rattle.net_parts.specs.Outline.{plan_at}
use Rattle.net_simulator.specs.Flow.{Cumulative, cumulative_under}
use Rattle.net_simulator.specs.Senses.{sense}
use Rattle.net_simulator.specs.Sums.{end_of_run, link_totals, totals}
use Rattle.net_simulator.specs.Worlds.{line_in}
use Rattle.signal_safety.specs.Rounds.{line_before, shown_every}
use Rattle.audit.specs.declared.line_runs.LineRun.{LineRun}
use Rattle.waits.specs.Bounds.{actuated_bounds}
use Rattle.waits.specs.Discharges.{AreWaitsWithin}
use Rattle.actuated.specs.ActSteps.{act_rounds, act_step}
use Rattle.actuated.specs.Calls.{act_line, calling}
use Rattle.control_flow.specs.declared.greens.Sign.{Sign}

-- Below, `made round node` is the line of a node in a round, and `under shown n` what passed the links in the first n seconds where
-- the signals show this: in the world, `cumulative_under net arriving`.

-- the first line of a node: the ring turns from second 0
abbrev pub first_line : Net → ℕ → List Green
first_line net node = rotation_of (plan_at net node) first_head 0

-- what calls for each phase of a node in second n
abbrev pub calls_at : Net → (ℕ → ℕ → Cumulative) → ℕ → ℕ → List ℕ
calls_at net past n node = map (calling net node (sense net past n node)) (range_with_len 0 (length (plan_at net node)))

-- the next line of a node in second n by what calls for its phases: the old one, spliced with that from its head
pub record IsNextBy (net : Net) (calls : List ℕ) (n node : ℕ) (old next : List Green) : Type 0 where
  pub head : Head
  pub at : head_at (plan_at net node) old n ≡ Some head
  pub is : next ≡ spliced old (act_line (plan_at net node) head calls (n + net.run.look))

-- the same by what the node senses
abbrev pub IsNextLine : Net → (ℕ → ℕ → Cumulative) → ℕ → ℕ → List Green → List Green → Type 0
IsNextLine net past n node old next = IsNextBy net (calls_at net past n node) n node old next

-- the sign of a node in a second, by the lines that the nodes make in the controller's rounds
abbrev pub shown_in : Net → (ℕ → ℕ → List Green) → ℕ → ℕ → Sign
shown_in net = shown_every (act_step net)

-- a node acts in a round: its line becomes the next one when the round begins
abbrev pub Acts : Net → ((ℕ → ℕ → Sign) → ℕ → ℕ → ℕ → Cumulative) → (ℕ → ℕ → List Green) → ℕ → ℕ → Type 0
Acts net under made round node =
    IsNextLine net (under (shown_in net made) (round * act_step net)) (round * act_step net) node
    (line_before (first_line net) made round node) (made round node)

-- each node of the network acts in each of the first `rounds` rounds
abbrev pub AllAct : Net → ((ℕ → ℕ → Sign) → ℕ → ℕ → ℕ → Cumulative) → (ℕ → ℕ → List Green) → ℕ → Type 0
AllAct net under made rounds =
    (round node : ℕ) → round < rounds → node < length net.node_names → Acts net under made round node

-- what passes the links until the last round is over
abbrev pub cumulative_by : Net → (ℕ → ℕ → ℕ) → (ℕ → ℕ → List Green) → ℕ → ℕ → Cumulative
cumulative_by net arriving made = cumulative_under net arriving (shown_in net made) (end_of_run net)

-- The record of a run, where `arriving second link` comes from outside: the nodes act in all rounds; it has the last line of each
-- node, and what the world has counted of each link and in all when the last round is over.
pub record IsActRunBy (net : Net) (arriving : ℕ → ℕ → ℕ) (made : ℕ → ℕ → List Green) (run : LineRun) : Type 0 where
  pub acts : AllAct net (cumulative_under net arriving) made (act_rounds net)
  pub timelines : run.timelines
      ≡ map (line_before (first_line net) made (act_rounds net)) (range_with_len 0 (length net.node_names))
  pub links : run.links
      ≡ map (link_totals net (cumulative_by net arriving made) (end_of_run net))
      (range_with_len 0 (length net.link_names))
  pub all : run.totals ≡ totals net arriving (cumulative_by net arriving made) (end_of_run net)

-- the record of the run of a network and arrivals
pub record IsActRun (net : Net) (arriving : ℕ → ℕ → ℕ) (run : LineRun) : Type 0 where
  pub made : ℕ → ℕ → List Green
  pub by : IsActRunBy net arriving made run

-- in each second of the run the last lines show the signs by which the world moved
abbrev pub ShowsSigns : Net → (ℕ → ℕ → List Green) → LineRun → Type 0
ShowsSigns net made run =
    (second node : ℕ) → second < end_of_run net → node < length net.node_names
    → sign_at (line_in run.timelines node) second ≡ shown_in net made second node

-- each queue of a link without a walk loses something within the bound of its phase, where it has one
abbrev pub KeepsWaits : Net → (ℕ → ℕ → ℕ) → (ℕ → ℕ → List Green) → Type 0
KeepsWaits net arriving made =
    AreWaitsWithin net (actuated_bounds net) (cumulative_by net arriving made) (end_of_run net)

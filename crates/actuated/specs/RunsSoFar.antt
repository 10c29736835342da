-- How far a run has come, whatever the world is that the nodes sense. No public clause names these definitions.
use Rattle.std.specs.Prelude.{◌≡◌, ℕ, ◌*◌, ◌<◌, List, length, slice_index}
use Rattle.control_flow.specs.Signs.{sign_at}
use Rattle.control_flow.specs.declared.greens.Green.{Green}
use Rattle.net_parts.specs.Numbers.{Net}
use Rattle.net_parts.specs.Outline.{plan_at}
use Rattle.net_simulator.specs.Flow.{Cumulative, cumulative_under}
use Rattle.net_simulator.specs.Senses.{near_on}
use Rattle.net_simulator.specs.Worlds.{Stands, WorldState, line_in, signs_by}
use Rattle.signal_safety.specs.Rounds.{line_before}
use Rattle.actuated.specs.ActRuns.{AllAct, first_line, shown_in}
use Rattle.actuated.specs.ActSteps.{act_step}
use Rattle.actuated.specs.Rounds.{IsReady}
use Rattle.control_flow.specs.declared.greens.Sign.{Sign}

-- what is near on each link in a second
abbrev pub AreNear : Net → (ℕ → ℕ → Cumulative) → ℕ → List ℕ → Type 0
AreNear net past second near =
    (l : ℕ) → l < length net.link_names → slice_index near l ≡ near_on net past second net.run.gap l

-- only what the signals show in the seconds below n counts for what passed the links in the first n seconds
abbrev pub CountsBefore : ((ℕ → ℕ → Sign) → ℕ → ℕ → ℕ → Cumulative) → Type 0
CountsBefore under =
    (shown seen : ℕ → ℕ → Sign) (n : ℕ) → ((x node : ℕ) → x < n → shown x node ≡ seen x node)
    → under shown n ≡ under seen n

-- only what the nodes of the network show in the seconds below n counts for what passed the links in the first n seconds
abbrev pub CountsAtNodes : Net → ((ℕ → ℕ → Sign) → ℕ → ℕ → ℕ → Cumulative) → Type 0
CountsAtNodes net under =
    (shown seen : ℕ → ℕ → Sign) (n : ℕ)
    → ((x node : ℕ) → x < n → node < length net.node_names → shown x node ≡ seen x node) → under shown n ≡ under seen n

-- after this number of rounds: these are the lines that the nodes made, by what they sensed of a world in which `under shown n` is
-- what passed the links in the first n seconds; and each is ready for the next round, and shows the signs that the nodes showed
pub record HaveActed (net : Net) (under : (ℕ → ℕ → Sign) → ℕ → ℕ → ℕ → Cumulative) (rounds : ℕ)
    (lines : List (List Green)) : Type 0 where
  pub made : ℕ → ℕ → List Green
  pub acts : AllAct net under made rounds
  pub count : length lines ≡ length net.node_names
  pub are : (node : ℕ) → node < length net.node_names
      → line_in lines node ≡ line_before (first_line net) made rounds node
  pub ready : (node : ℕ) → node < length net.node_names
      → IsReady (plan_at net node) (rounds * act_step net) (line_in lines node)
  pub shown : (x node : ℕ) → x < rounds * act_step net → sign_at (line_in lines node) x ≡ shown_in net made x node

-- after this number of rounds: these are the lines that the nodes made, and the world without a store is the one that moved by them
pub record HavePlayed (net : Net) (arriving : ℕ → ℕ → ℕ) (rounds : ℕ) (lines : List (List Green))
    (w : WorldState) : Type 0 where
  pub acted : HaveActed net (cumulative_under net arriving) rounds lines
  pub second : w.second ≡ rounds * act_step net
  pub stands : Stands net arriving (signs_by (line_in lines)) w

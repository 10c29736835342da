-- How the lines of a run go on round by round, whatever the world is that the nodes sense.
use Rattle.std.specs.Prelude.{◌≡◌, ℕ, ◌+◌, ◌<◌, ◌≤◌, List, length, slice_index}
use Rattle.net_parts.specs.Limits.{most_of_all}
use Rattle.control_flow.specs.Greens.{BeginBy, IsLawful, end_of}
use Rattle.control_flow.specs.Signs.{sign_at}
use Rattle.control_flow.specs.declared.greens.Green.{Green}
use Rattle.net_parts.specs.Numbers.{Net}
use Rattle.net_parts.specs.Outline.{plan_at}
use Rattle.net_simulator.specs.Worlds.{line_in}
use Rattle.phase_plan.specs.declared.Phase.{Phase}
use Rattle.road_net.specs.Totals.{total}
use Rattle.actuated.specs.ActRuns.{IsNextBy, first_line}
use Rattle.actuated.specs.ActSteps.{act_step}
use Rattle.actuated.specs.Calls.{calls_by}

-- a line is ready for a second: it is lawful, its rows begin by 100,000, and it ends after the second
pub record IsReady (plan : List Phase) (second : ℕ) (rows : List Green) : Type 0 where
  pub lawful : IsLawful plan rows
  pub begins : BeginBy 100000 rows
  pub ahead : second < end_of rows

-- the first nodes have their first lines
pub record AreFirstLines (net : Net) (nodes : ℕ) (lines : List (List Green)) : Type 0 where
  pub count : length lines ≡ nodes
  pub are : (node : ℕ) → node < nodes → line_in lines node ≡ first_line net node
  pub ready : (node : ℕ) → node < nodes → IsReady (plan_at net node) 0 (line_in lines node)

-- what a node makes of its line in a second by what calls for its phases: the next line, which shows the same before that second,
-- and is ready for the next round of the controller
pub record IsRenewed (net : Net) (calls : List ℕ) (second node : ℕ) (old new : List Green) : Type 0 where
  pub next : IsNextBy net calls second node old new
  pub past : (x : ℕ) → x < second → sign_at new x ≡ sign_at old x
  pub ready : IsReady (plan_at net node) (second + act_step net) new

-- the first nodes have renewed their lines by what is near on each link, and the others have the old ones
pub record AreRenewed (net : Net) (near : List ℕ) (second nodes : ℕ) (old new : List (List Green)) : Type 0 where
  pub count : length new ≡ length old
  pub renewed : (node : ℕ) → node < nodes
      → IsRenewed net (calls_by net (slice_index near) node) second node (line_in old node) (line_in new node)
  pub rest : (node : ℕ) → nodes ≤ node → line_in new node ≡ line_in old node

-- a number for each link, which together are no more than may ever be on the road
pub record AreAmounts (net : Net) (near : List ℕ) : Type 0 where
  pub count : length near ≡ length net.link_names
  pub few : total (slice_index near) (length net.link_names) ≤ most_of_all

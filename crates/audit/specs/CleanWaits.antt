-- When the lines of a clean sheet bound how long queues wait.
use Rattle.std.specs.Prelude.{◌≡◌, ℕ, ◌<◌, List, length}
use Rattle.control_flow.specs.Greens.{end_of, row_at}
use Rattle.control_flow.specs.declared.greens.Green.{Green}
use Rattle.net_parts.specs.Numbers.{Net}
use Rattle.net_simulator.specs.Worlds.{line_in}
use Rattle.waits.specs.Waits.{AreIntergreensWithin}

-- a line shows the first `until` seconds with intergreens within these: its first row begins with second 0, and its last one ends
-- after them
pub record ShowsFirst (intergreen : ℕ → ℕ) (until : ℕ) (rows : List Green) : Type 0 where
  pub intergreens : AreIntergreensWithin intergreen rows
  pub begins : (row_at rows 0).from ≡ 0
  pub ends : until < end_of rows

-- the line of each node shows the first `until` seconds with intergreens within those of its node
abbrev pub AllShowFirst : Net → (ℕ → ℕ → ℕ) → ℕ → List (List Green) → Type 0
AllShowFirst net intergreens until lines =
    (node : ℕ) → node < length net.node_names → ShowsFirst (intergreens node) until (line_in lines node)

-- The timelines of a network round by round, where `made round node` is the timeline that a node makes in a round.
use Rattle.std.specs.Prelude.{ℕ, zero, suc, ◌/◌, List}
use Rattle.control_flow.specs.Signs.{sign_at}
use Rattle.control_flow.specs.declared.greens.Green.{Green}
use Rattle.net_parts.specs.Numbers.{Net}
use Rattle.control_flow.specs.declared.greens.Sign.{Sign}

-- the timeline of a node before a round: at first that of `first`, and then that which the node made in the round before
abbrev pub line_before : (ℕ → List Green) → (ℕ → ℕ → List Green) → ℕ → ℕ → List Green
line_before first made zero node = first node
line_before first made (suc round) node = made round node

-- the sign of a node in a second, where a round takes this many seconds: in these the signals show the timelines made in it
abbrev pub shown_every : ℕ → (ℕ → ℕ → List Green) → ℕ → ℕ → Sign
shown_every step made x node = sign_at (made (x / step) node) x

-- the sign of a node in a second by the rounds of a network: in each the signals show the timelines made in it
abbrev pub shown_by : Net → (ℕ → ℕ → List Green) → ℕ → ℕ → Sign
shown_by net = shown_every net.run.step

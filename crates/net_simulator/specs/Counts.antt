-- What is counted of each link.
use Rattle.std.specs.Prelude.{◌≡◌, ℕ, ◌+◌, List, slice_index_or}
use Rattle.net_simulator.specs.declared.totals.LinkTotals.{LinkTotals}
use Rattle.net_simulator.specs.declared.totals.Totals.{Totals}

-- nothing is counted yet
abbrev pub no_totals : LinkTotals
no_totals = record { entered = 0; left = 0; delay = 0 }

-- what is counted of the link with this number
abbrev pub counts_at : List LinkTotals → ℕ → LinkTotals
counts_at counts l = slice_index_or counts l no_totals

-- what entered the network has left it or is in it
abbrev pub IsBalanced : Totals → Type 0
IsBalanced t = t.entered ≡ t.left + t.on

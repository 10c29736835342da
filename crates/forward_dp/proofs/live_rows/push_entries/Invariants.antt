use Rattle.std.proofs.Common.{◌≡◌, ◌++◌, map, take}
use Rattle.forward_dp.proofs.live_rows.push_entries.Given as goal

-- the entries so far are after those before
abbrev pub invariant-loop-row : goal.invariant-loop-row
invariant-loop-row l = l.entries.items ≡ l.initial.entries.items ++ map (λ r. r.entry) (take l.row-index l.rows)

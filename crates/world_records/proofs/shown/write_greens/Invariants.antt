use Rattle.std.specs.Prelude.{ℕ, ◌<◌, All}
use Rattle.std.specs.List.{flat_map, range_with_len}
use Rattle.world_records.specs.Records.{green_records}
use Rattle.world_records.specs.Told.{IsToldGreen, told_line}
use Rattle.world_records.specs.Written.{Adds}
use Rattle.world_records.proofs.shown.write_greens.Given as goal

-- the records of the first nodes are written, and their greens can be told
abbrev pub invariant-loop-node : goal.invariant-loop-node
invariant-loop-node l =
    Adds l.fn.out l.out (flat_map (green_records l.net l.lines l.end) (range_with_len 0 l.node))
    × ((node : ℕ) → node < l.node → All IsToldGreen (told_line l.net l.lines l.end node))

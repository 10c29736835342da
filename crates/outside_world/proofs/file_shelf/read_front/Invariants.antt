-- Each turn reads a byte, no more are read than were asked for, and those read are no longer left.
use Rattle.std.proofs.Common.{◌≤◌, length}
use Rattle.std.specs.Io.KnownBytes.{Consumes}
use Rattle.outside_world.proofs.file_shelf.read_front.Given as goal

abbrev pub invariant-loop : goal.invariant-loop
invariant-loop g l = (l.counter ≤ length l.bytes.items) × (length l.bytes.items ≤ l.most) × Consumes (g.R.Read.remaining l.initial.source) (g.R.Read.remaining l.source) l.bytes.items

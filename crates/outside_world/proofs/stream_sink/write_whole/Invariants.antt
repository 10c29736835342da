-- Each turn writes a byte, and what is done is written.
use Rattle.std.proofs.Common.{◌≤◌, length, take}
use Rattle.std.specs.Io.KnownBytes.{Appends}
use Rattle.outside_world.proofs.stream_sink.write_whole.Given as goal

abbrev pub invariant-loop : goal.invariant-loop
invariant-loop g l = (l.counter ≤ l.done) × (l.done ≤ length l.piece) × Appends (g.W.Write.contents l.initial.stream) (g.W.Write.contents l.stream) (take l.done l.piece)

use Rattle.std.proofs.Common.{◌≡◌, ◌≤◌, length, min, vec_capacity}
use Rattle.outside_world.proofs.KeepLaws.{IsComing}
use Rattle.outside_world.proofs.stream_source.StreamSourceSource.take_line.Given as goal

abbrev pub invariant-loop : goal.invariant-loop
invariant-loop g l = record {
  coming : IsComing l.read (min (vec_capacity l.fn.line) l.most) l.line.items;
  same : l.self ≡ l.fn.self;
  capacity : vec_capacity l.fn.line ≤ vec_capacity l.line;
  most : length l.line.items ≤ l.most;
}

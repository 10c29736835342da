use Rattle.std.proofs.Common.{◌≡◌, length, slice_index}
use Rattle.arrivals.specs.Amounts.{arriving_of}
use Rattle.spillback_control.specs.SpillRounds.{HaveSpilled}
use Rattle.spillback_control.proofs.spill_runs.play_rounds.Given as goal

abbrev pub invariant-loop-round : goal.invariant-loop-round
invariant-loop-round l = record {
  near : length l.near.items ≡ length l.net.link_names;
  played : HaveSpilled l.net (arriving_of l.arrivals) (slice_index l.store) l._round l.lines.items l.world;
}

use Rattle.std.proofs.Common.{◌≡◌, ℕ, ◌<◌, slice_index}
use Rattle.net_parts.specs.Outline.{link_at}
use Rattle.spillback_world.specs.Steps.{rate_at}
use Rattle.spillback_world.proofs.signals.serve.Given as goal

-- told of the links so far
abbrev pub invariant-loop-l : goal.invariant-loop-l
invariant-loop-l l = (k : ℕ) → k < l.l → slice_index l.rates k ≡ rate_at l.net l.waits l.shown.signs.now l.shown.since.now l.ready l.second k (link_at l.net k).to

use Rattle.std.proofs.Common.{◌≡◌, filter, is_none}
use Rattle.std.specs.List.{range_with_len}
use Rattle.net_parts.specs.Outline.{link_at}
use Rattle.scenario_gen.proofs.drawing.sources.Given as goal

abbrev pub invariant-loop-link : goal.invariant-loop-link
invariant-loop-link l = l.entered.items ≡ filter (λ k. is_none (link_at l.net k).from) (range_with_len 0 l.link)

use Rattle.std.proofs.Common.{◌≡◌, ◌++◌}
use Rattle.std.specs.Prelude.{slice_index}
use Rattle.std.specs.List.{flat_map, range_with_len}
use Rattle.scenario_gen.specs.Arrivals.{after_words, row_by, word}
use Rattle.scenario_gen.proofs.drawing.push_second.Given as goal

abbrev pub invariant-loop-link : goal.invariant-loop-link
invariant-loop-link l = record {
  rows : l.rows.items ≡ l.fn.rows.items ++ flat_map (λ place. row_by l.second (slice_index l.entered place) (word l.fn.generator place)) (range_with_len 0 l.link-index);
  drawn : l.generator ≡ after_words l.fn.generator l.link-index;
}

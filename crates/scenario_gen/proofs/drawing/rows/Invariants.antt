use Rattle.std.proofs.Common.{◌≡◌, ◌*◌, length}
use Rattle.scenario_gen.specs.Arrivals.{after_words, generator, rows_from}
use Rattle.scenario_gen.proofs.drawing.rows.Given as goal

abbrev pub invariant-loop-second : goal.invariant-loop-second
invariant-loop-second l = record {
  rows : l.rows.items ≡ rows_from (generator l.number) l.entered.items l.second;
  drawn : l.generator ≡ after_words (generator l.number) (l.second * length l.entered.items);
}

use Rattle.parallel_dp.specs.Pieces.{IsLayer}
use Rattle.parallel_dp.specs.Ways.{AreLayers}
use Rattle.parallel_dp.proofs.whole_certificates.all_layers.Given as goal

-- the layers before the one of this many servings, and that one
abbrev pub invariant-loop : goal.invariant-loop
invariant-loop g l = record {
  layers : AreLayers l.i l.counter l.layers.items;
  layer : IsLayer l.i l.counter l.layer.items;
}

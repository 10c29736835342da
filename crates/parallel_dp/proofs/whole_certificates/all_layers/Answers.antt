use Rattle.std.proofs.Common.{All, List, [], ◌∷◌, ◌++◌, ◌+◌, ◌∙◌, ap, subst, sym, arith}
use Rattle.dp_certificate.specs.Certificates.{IsEntry}
use Rattle.dp_certificate.specs.declared.Entry.{Entry}
use Rattle.parallel_dp.specs.Pieces.{IsLayer, IsNextOf}
use Rattle.parallel_dp.specs.Ways.{AreLayers}
use Rattle.parallel_dp.proofs.LayerLaws.{layer-bounds, layer-next, more-lists}
use Rattle.parallel_dp.proofs.whole_certificates.all_layers.Goals as goal

pub next_layer-requires-clause-entries : goal.next_layer-requires-clause-entries
next_layer-requires-clause-entries g c κs within =
    subst (All (IsEntry c.args.i.now)) (sym c.as_slice.ensures.value) (layer-bounds c.args.i.now c.places-count.ensures.instance c.loop.counter c.loop.layer.items c.loop.invariant.layer)

pub loop-preserved : goal.loop-preserved
loop-preserved g c = record {
  layers =
      subst (AreLayers c.args.i.now (c.loop.counter + 1)) (sym (c.in_ok-push.ensures.items ∙ ap (λ (xs : List Entry). c.loop.layers.items ++ xs ∷ []) c.from_vec.ensures))
      (more-lists (IsLayer c.args.i.now) c.loop.counter c.loop.layers.items c.loop.layer.items c.loop.invariant.layers c.loop.invariant.layer);
  layer =
      layer-next c.args.i.now c.places-count.ensures.instance c.loop.counter c.loop.layer.items c.in_ok-next.next.items c.loop.invariant.layer
      (subst (λ xs. IsNextOf c.args.i.now xs c.in_ok-next.next.items) c.as_slice.ensures.value c.in_ok-next.ensures);
}

pub returns-clause-layers : goal.returns-clause-layers
returns-clause-layers g c =
    subst (λ n. AreLayers c.args.i.now n c.push-2.new.self.items) (omega (arith, c.places-count.ensures.value))
    (subst (AreLayers c.args.i.now (c.loop.counter + 1)) (sym (c.in_ok-push-2.ensures.items ∙ ap (λ (xs : List Entry). c.loop.layers.items ++ xs ∷ []) c.from_vec-2.ensures))
    (more-lists (IsLayer c.args.i.now) c.loop.counter c.loop.layers.items c.loop.layer.items c.loop.invariant.layers c.loop.invariant.layer))

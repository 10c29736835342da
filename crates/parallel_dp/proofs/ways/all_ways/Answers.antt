use Rattle.std.proofs.Common.{◌+◌, ◌-◌, ◌∙◌, List, [], ◌∷◌, ◌++◌, ap, length, subst, sym, arith}
use Rattle.dp_certificate.specs.declared.Entry.{Entry}
use Rattle.parallel_dp.specs.Pieces.{IsLayer}
use Rattle.parallel_dp.specs.Ways.{AreAllWays, AreThose, AreWays, IsOnWay, servings_of}
use Rattle.parallel_dp.proofs.LayerLaws.{layer-bounds, list-at, more-lists, no-lists}
use Rattle.parallel_dp.proofs.WayLaws.{ways-end, ways-into}
use Rattle.parallel_dp.proofs.ways.all_ways.Goals as goal

pub loop-left-init : goal.loop-left-init
loop-left-init g c =
    let p = c.args.i.now in
    let count = length c.args.layers.now - 1 in
    let is : IsLayer p count c.as_slice.result.now = list-at (IsLayer p) (servings_of p + 1) c.args.layers.now count _ _ c.requires.layers (omega (arith, c.requires.layers.long)) (c.as_slice.ensures ∙ c.index-layers-count.is) in
    record {
      all = subst (AreAllWays p c.args.delay 0) (sym c.new-all.ensures.items) (no-lists (AreWays p c.args.delay));
      ways = ways-end p c.requires.lawful c.args.delay c.requires.delay c.as_slice.result.now c.in_ok-ways.ways.items (subst (λ n. IsLayer p n c.as_slice.result.now) (omega (arith, c.requires.layers.long)) is) c.in_ok-ways.ensures;
    }

pub leading_into-requires-clause-rising : goal.leading_into-requires-clause-rising
leading_into-requires-clause-rising g c =
    (list-at (IsLayer c.args.i.now) (servings_of c.args.i.now + 1) c.args.layers.now (length c.args.layers.now - 1 - 1 - c.loop-left.left) _ _ c.requires.layers (omega (arith, c.requires.layers.long)) (c.as_slice-layer.ensures ∙ c.index-layers-count-in-loop-left.is)).rising

pub leading_into-requires-clause-entries : goal.leading_into-requires-clause-entries
leading_into-requires-clause-entries g c =
    layer-bounds c.args.i.now c.requires.lawful (length c.args.layers.now - 1 - 1 - c.loop-left.left) c.as_slice-layer.result.now
    (list-at (IsLayer c.args.i.now) (servings_of c.args.i.now + 1) c.args.layers.now (length c.args.layers.now - 1 - 1 - c.loop-left.left) _ _ c.requires.layers (omega (arith, c.requires.layers.long)) (c.as_slice-layer.ensures ∙ c.index-layers-count-in-loop-left.is))

pub loop-left-preserved : goal.loop-left-preserved
loop-left-preserved g c =
    let p = c.args.i.now in
    let n = length c.args.layers.now - 1 - 1 - c.loop-left.left in
    let is : IsLayer p n c.as_slice-layer.result.now = list-at (IsLayer p) (servings_of p + 1) c.args.layers.now n _ _ c.requires.layers (omega (arith, c.requires.layers.long)) (c.as_slice-layer.ensures ∙ c.index-layers-count-in-loop-left.is) in
    record {
      all =
          subst (AreAllWays p c.args.delay (c.loop-left.left + 1)) (sym (c.in_ok-push.ensures.items ∙ ap (λ (xs : List Entry). c.loop-left.all.items ++ xs ∷ []) c.from_vec.ensures))
          (more-lists (AreWays p c.args.delay) c.loop-left.left c.loop-left.all.items c.loop-left.ways.items c.loop-left.invariant.all c.loop-left.invariant.ways);
      ways =
          ways-into p c.requires.lawful c.args.delay c.requires.delay n c.loop-left.left c.as_slice-layer.result.now c.loop-left.ways.items c.in_ok-before.before.items (omega (arith, c.requires.layers.long, c.loop-left-test.true)) is c.loop-left.invariant.ways
          (subst (λ ws. AreThose (IsOnWay p c.args.delay ws) c.as_slice-layer.result.now c.in_ok-before.before.items) c.as_slice-in-loop-left.ensures.value c.in_ok-before.ensures);
    }

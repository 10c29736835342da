use Rattle.std.proofs.Common.{◌∙◌, refl}
use Rattle.std.proofs.lemmas.List.Sorted.{IsPermutation-refl, IsPermutation-trans}
use Rattle.histories.proofs.merging.place_by_stamps.Goals as goal

pub loop-place-init : goal.loop-place-init
loop-place-init c = record { same = IsPermutation-refl c.args.drawn.now.items; count = refl }

pub loop-place-preserved : goal.loop-place-preserved
loop-place-preserved c = record {
  same = IsPermutation-trans c.args.drawn.now.items c.loop-place.drawn.items c.settle.new.drawn.items c.loop-place.invariant.same c.settle.ensures.same;
  count = c.settle.ensures.count ∙ c.loop-place.invariant.count;
}

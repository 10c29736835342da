use Rattle.std.proofs.Common.{rules, refl}
use Rattle.std.proofs.lemmas.List.Sorted.{IsPermutation-refl, IsPermutation-swap, IsPermutation-trans}
use Rattle.histories.proofs.merging.settle.Goals as goal

pub loop-init : goal.loop-init
loop-init c = record { same = IsPermutation-refl c.args.drawn.now.items; count = refl }

pub loop-preserved : goal.loop-preserved
loop-preserved c =
    let swapped = IsPermutation-swap c.loop.drawn.items c.swap.new.self.items c.args.place c.index.result.now.0 (search rules) (search rules) c.swap.ensures.items in
    record {
      same = IsPermutation-trans c.args.drawn.now.items c.loop.drawn.items c.swap.new.self.items c.loop.invariant.same swapped;
      count = search rules;
    }

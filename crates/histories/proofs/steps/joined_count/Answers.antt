use Rattle.std.proofs.Common.{ℕ, Bool, List, take, arith, length-take}
use Rattle.std.proofs.lemmas.List.Sums.{length-filter, count_by-le-length}
use Rattle.histories.specs.Sides.{has_node}
use Rattle.histories.proofs.steps.joined_count.Goals as goal

pub overflow_add-count : goal.overflow_add-count
overflow_add-count c =
    let p : ℕ → Bool = has_node c.args.net.now c.args.side in
    let front : List ℕ = take c.loop-link.link-index c.args.links.now in
    omega (arith, c.loop-link.invariant, c.requires.few, c.loop-link-test.true, length-filter p front, count_by-le-length p front, length-take c.loop-link.link-index c.args.links.now)

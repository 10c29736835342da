use Rattle.std.proofs.Common.{◌≡◌, ◌++◌, List, ℕ, map, ap, subst, ◌∙◌}
use Rattle.std.specs.Prelude.{IsPermutation}
use Rattle.std.proofs.lemmas.List.{take_all}
use Rattle.std.proofs.lemmas.List.Sorted.{IsPermutation-trans}
use Rattle.board_model.specs.Boards.{Log}
use Rattle.histories.specs.Merges.{IsMerge, all_events, stamp_and_node}
use Rattle.histories.proofs.Ordered.{in-order, merged, drawn-more, if-ok}
use Rattle.histories.proofs.merging.merge.Goals as goal

pub loop-log-preserved : goal.loop-log-preserved
loop-log-preserved c = drawn-more c.args.logs.now c.loop-log.log-index c.log-item.result c.loop-log.drawn.items c.push_drawn.new.drawn.items c.loop-log-test.true c.loop-log.invariant (c.in_ok-push_drawn.ensures ∙ ap (λ (log : Log). c.loop-log.drawn.items ++ map stamp_and_node log.events) c.log-item.is)

pub returns : goal.returns
returns c =
    let keys : List (ℕ × ℕ) = c.sort_unstable.new.self.items in
    let whole : c.loop-log.drawn.items ≡ map stamp_and_node (all_events c.args.logs.now) = c.loop-log.invariant ∙ ap (λ l. map stamp_and_node (all_events l)) (take_all c.loop-log.log-index c.args.logs.now c.loop-log-test.false) in
    if-ok (λ h. h ≡ map (λ (pair : ℕ × ℕ). pair.1) c.as_slice.result.now) (IsMerge c.args.logs.now)
    (λ h e. merged c.args.logs.now keys h (subst (λ l. IsPermutation l keys) whole (IsPermutation-trans c.loop-log.drawn.items c.place_by_stamps.new.drawn.items keys c.place_by_stamps.ensures c.sort_unstable.ensures.permutation)) (in-order keys c.sort_unstable.ensures.sorted) (e ∙ ap (map (λ (pair : ℕ × ℕ). pair.1)) c.as_slice.ensures.value))
    c.nodes_of.result c.nodes_of.ensures

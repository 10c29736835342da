use Rattle.std.proofs.Common.{ℕ, List, [], ◌∷◌, ◌++◌, map, slice_index, sum_by, sym, ap, ◌∙◌, arith}
use Rattle.std.specs.List.{range_with_len}
use Rattle.std.proofs.lemmas.List.FromFn.{map-range_with_len_more}
use Rattle.net_parts.specs.Outline.{phase_links_at}
use Rattle.actuated.proofs.near_calls.list_calls.Goals as goal

pub loop-phase-preserved : goal.loop-phase-preserved
loop-phase-preserved c =
    let f : ℕ → ℕ = λ k. sum_by (slice_index c.args.near.now) (phase_links_at c.args.net.now c.args.node k) in
    let k : ℕ = c.loop-phase.phase in
    c.in_ok-push.ensures.items ∙ ap (λ (l : List ℕ). l ++ c.sum_near.result ∷ []) c.loop-phase.invariant
    ∙ ap (λ (t : ℕ). map f (range_with_len 0 k) ++ t ∷ []) (c.sum_near.ensures ∙ ap (λ (ls : List ℕ). sum_by (slice_index c.args.near.now) ls) c.phase_links.ensures.value) ∙ sym (map-range_with_len_more f 0 k k (omega arith))

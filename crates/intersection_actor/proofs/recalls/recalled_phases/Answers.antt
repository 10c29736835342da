use Rattle.std.proofs.Common.{ℕ, List, [], ◌∷◌, ◌++◌, map, sym, ap, ◌∙◌, arith}
use Rattle.std.specs.List.{range_with_len}
use Rattle.std.proofs.lemmas.List.FromFn.{map-range_with_len_more}
use Rattle.phase_plan.specs.declared.Phase.{Phase}
use Rattle.control_flow.specs.Recalls.{without_mark}
use Rattle.net_parts.specs.Outline.{plan_at}
use Rattle.intersection_actor.specs.Commits.{is_recalled}
use Rattle.intersection_actor.proofs.recalls.recalled_phases.Goals as goal

pub loop-k-preserved : goal.loop-k-preserved
loop-k-preserved c =
    let f : ℕ → Phase = without_mark (plan_at c.args.net.now c.args.node) (is_recalled c.args.net.now c.args.node c.args.sensed.now c.args.recall) in
    let k : ℕ = c.loop-k.k in
    c.in_ok-push.ensures.items ∙ ap (λ (l : List Phase). l ++ c.recalled_phase.result ∷ []) c.loop-k.invariant
    ∙ ap (λ (t : Phase). map f (range_with_len 0 k) ++ t ∷ []) c.recalled_phase.ensures ∙ sym (map-range_with_len_more f 0 k k (omega arith))

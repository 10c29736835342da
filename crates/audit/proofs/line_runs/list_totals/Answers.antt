use Rattle.std.proofs.Common.{◌≡◌, ℕ, List, [], ◌∷◌, ◌++◌, map, sym, ap, ◌∙◌, arith}
use Rattle.std.specs.List.{range_with_len}
use Rattle.std.proofs.lemmas.List.FromFn.{map-range_with_len_more}
use Rattle.net_simulator.specs.Counts.{counts_at}
use Rattle.net_simulator.specs.declared.totals.LinkTotals.{LinkTotals}
use Rattle.audit.proofs.line_runs.list_totals.Goals as goal

pub loop-link-preserved : goal.loop-link-preserved
loop-link-preserved c =
    let f : ℕ → LinkTotals = counts_at c.args.world.now.counts in
    let k : ℕ = c.loop-link.link in
    let links : c.push.new.self.items ≡ map f (range_with_len 0 k) ++ f k ∷ [] =
    c.in_ok-push.ensures.items ∙ ap (λ (l : List LinkTotals). l ++ c.link_totals.result ∷ []) c.loop-link.invariant ∙ ap (λ (t : LinkTotals). map f (range_with_len 0 k) ++ t ∷ []) c.link_totals.ensures in
    links ∙ sym (map-range_with_len_more f 0 k k (omega arith))

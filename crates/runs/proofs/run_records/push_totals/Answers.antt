use Rattle.std.proofs.Common.{◌≡◌, ℕ, ◌∷◌, [], ◌++◌, length, map, sym, ap, ◌∙◌, arith}
use Rattle.std.specs.List.{range_with_len}
use Rattle.std.proofs.lemmas.List.FromFn.{length-map-range_with_len, map-range_with_len_more}
use Rattle.net_simulator.specs.Counts.{counts_at}
use Rattle.net_simulator.specs.declared.totals.LinkTotals.{LinkTotals}
use Rattle.runs.proofs.run_records.push_totals.Goals as goal

pub push_reserved-requires : goal.push_reserved-requires
push_reserved-requires c =
    let i = c.loop-link.invariant in
    let long : length c.loop-link.links.items ≡ c.loop-link.link = ap length i.totals ∙ length-map-range_with_len (counts_at c.args.world.now.counts) 0 c.loop-link.link in
    omega (arith, long, i.capacity, c.requires.capacity, c.links-link-end.ensures.value, c.loop-link-test.true, c.loop-link.links.ok.0)

pub loop-link-preserved : goal.loop-link-preserved
loop-link-preserved c =
    let i = c.loop-link.invariant in
    let counts : ℕ → LinkTotals = counts_at c.args.world.now.counts in
    record {
      totals =
          c.push_reserved.ensures.items ∙ ap (λ l. l ++ c.link_totals.result ∷ []) i.totals ∙ ap (λ t. map counts (range_with_len 0 c.loop-link.link) ++ t ∷ []) c.link_totals.ensures
          ∙ sym (map-range_with_len_more counts 0 c.loop-link.link c.loop-link.link (omega arith));
      capacity = c.push_reserved.ensures.capacity ∙ i.capacity;
    }

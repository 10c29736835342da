use Rattle.std.proofs.Common.{All, Contains, take, inl, inr, subst, sym, ◌∙◌, arith}
use Rattle.std.proofs.lemmas.List.{take_all}
use Rattle.std.proofs.lemmas.List.Elements.{All-more, All-weaker, Contains-get_or}
use Rattle.forward_dp.specs.Rows.{IsNoWorse}
use Rattle.forward_dp.specs.declared.rows.Row.{Row}
use Rattle.forward_dp.proofs.Keeping.{no-worse-trans}
use Rattle.forward_dp.proofs.best_of.Goals as goal

pub loop-row-preserved : goal.loop-row-preserved
loop-row-preserved c =
    let rows = c.args.rows.now in
    let now = c.better_of-best.result in
    record {
      among = elim c.better_of-best.ensures.from [
        | inl e ↦ subst (Contains rows) (sym e) c.loop-row.invariant.among
        | inr e ↦ subst (Contains rows) (sym (e ∙ c.row-item.is)) (Contains-get_or rows c.loop-row.row-index _ c.loop-row-test.true)
      ];
      best = All-more (λ (r : Row). IsNoWorse now r.entry.delay r.order) rows c.loop-row.row-index _ c.loop-row-test.true
          (All-weaker (λ (r : Row). IsNoWorse c.loop-row.best r.entry.delay r.order) (λ (r : Row). IsNoWorse now r.entry.delay r.order) (λ r h. no-worse-trans now c.loop-row.best r.entry.delay r.order c.better_of-best.ensures.first h) (take c.loop-row.row-index rows) c.loop-row.invariant.best)
          (subst (λ (r : Row). IsNoWorse now r.entry.delay r.order) c.row-item.is c.better_of-best.ensures.second);
    }

pub returns-clause-best : goal.returns-clause-best
returns-clause-best c =
    subst (All (λ (r : Row). IsNoWorse c.loop-row.best r.entry.delay r.order)) (take_all c.loop-row.row-index c.args.rows.now (omega arith)) c.loop-row.invariant.best

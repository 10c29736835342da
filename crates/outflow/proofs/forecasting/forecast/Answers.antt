use Rattle.std.proofs.Common.{ℕ, ap, arith, replicate, ◌≡◌, ◌∙◌, ◌+◌, ◌-◌, ◌≤◌, List, All, get_or, length, subst, sym}
use Rattle.std.specs.List.{range_with_len}
use Rattle.std.proofs.lemmas.List.{take-replicate}
use Rattle.std.proofs.lemmas.Result.{IfOk-weaker}
use Rattle.board_model.specs.declared.forecasts.Row.{Row}
use Rattle.clusters.specs.Windows.{counts_of}
use Rattle.net_parts.specs.Outline.{link_at}
use Rattle.net_parts.specs.declared.drafts.Run.{Run}
use Rattle.outflow.specs.Outflow.{departures, told_forecast, positive_rows}
use Rattle.outflow.proofs.ForecastLaws.{exit-there, forecast-later, forecast-made}
use Rattle.outflow.proofs.forecasting.forecast.Goals as goal

pub fill_exit_flow-requires-clause-exit : goal.fill_exit_flow-requires-clause-exit
fill_exit_flow-requires-clause-exit c =
    exit-there c.args.net.now c.args.node c.args.exit c.exit_links-exits.result.now c.exit_links-exits.ensures.network (λ k d lt. (c.exit_links-exits.ensures.links.have k d lt).0) c.exit_links-exits.ensures.value c.requires.exit

pub fill_exit_flow-requires-clause-amounts : goal.fill_exit_flow-requires-clause-amounts
fill_exit_flow-requires-clause-amounts c =
    let look = ap (λ (run : Run). run.look) c.run.ensures.value in
    take-replicate c.run.result.look 180 (let z : ℕ = 0 in z) (omega (arith, look, c.run.ensures.network.outline.run.look.1)) ∙ ap (λ n. replicate n (let z : ℕ = 0 in z)) look

pub rows-requires-clause-few : goal.rows-requires-clause-few
rows-requires-clause-few c = c.fill_exit_flow.ensures.few

pub rows-requires-clause-most : goal.rows-requires-clause-most
rows-requires-clause-most c = c.fill_exit_flow.ensures.most

pub returns-clause-value : goal.returns-clause-value
returns-clause-value c =
    IfOk-weaker c.rows.result
    (λ forecast. forecast ≡ positive_rows (λ d. get_or c.fill_exit_flow.new.amounts (d - c.args.now) 0) (range_with_len c.args.now (length c.fill_exit_flow.new.amounts)))
    (λ forecast. forecast ≡ told_forecast c.args.net.now c.args.exit c.args.now (departures c.args.w.now.lists (counts_of c.args.w.now.lists) c.args.phases.now c.args.served.now))
    (λ forecast made. made ∙ forecast-made c.args.net.now c.args.exit c.args.now (departures c.args.w.now.lists (counts_of c.args.w.now.lists) c.args.phases.now c.args.served.now) c.fill_exit_flow.new.amounts c.fill_exit_flow.ensures)
    c.rows.ensures

pub returns-clause-later : goal.returns-clause-later
returns-clause-later c =
    let P : List Row → Type 0 = All (λ row. c.args.now + (link_at c.args.net.now c.args.exit).travel ≤ row.second) in
    IfOk-weaker c.rows.result
    (λ forecast. forecast ≡ positive_rows (λ d. get_or c.fill_exit_flow.new.amounts (d - c.args.now) 0) (range_with_len c.args.now (length c.fill_exit_flow.new.amounts)))
    (λ forecast. All (λ (row : Row). c.args.now + (link_at c.args.net.now c.args.exit).travel ≤ row.second) forecast)
    (λ forecast made.
    subst P (sym (made ∙ forecast-made c.args.net.now c.args.exit c.args.now (departures c.args.w.now.lists (counts_of c.args.w.now.lists) c.args.phases.now c.args.served.now) c.fill_exit_flow.new.amounts c.fill_exit_flow.ensures))
    (forecast-later c.args.net.now c.args.exit c.args.now (departures c.args.w.now.lists (counts_of c.args.w.now.lists) c.args.phases.now c.args.served.now) c.fill_exit_flow.new.amounts c.fill_exit_flow.ensures))
    c.rows.ensures

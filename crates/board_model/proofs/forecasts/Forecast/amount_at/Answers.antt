use Rattle.std.proofs.Common.{arith, ap, sym, ◌∙◌}
use Rattle.std.specs.Option.{is_some}
use Rattle.std.proofs.lemmas.Bool.{ltb-true, ltb-false}
use Rattle.board_model.specs.Forecasts.{amount_at}
use Rattle.board_model.proofs.Halves.{seconds-rise, halves-found, halves-none}
use Rattle.board_model.proofs.forecasts.Forecast.amount_at.Goals as goal

pub first_from-requires : goal.first_from-requires
first_from-requires c = seconds-rise c.as_slice-rows.result.now (rw c.as_slice-rows.ensures.value c.self.invariant.rising)

pub returns-in-Some-clause-value : goal.returns-in-Some-clause-value
returns-in-Some-clause-value c =
    let rows = c.as_slice-rows.result.now in
    let same = c.as_slice-rows.ensures.value in
    let there = c.in-Some.ensures.lookup in
    let found = halves-found rows c.args.second _ c.in-Some.row.now (rw same c.self.invariant.rising) c.first_from.ensures.split (ltb-true _ _ (sym there.0)) (ap (λ r. r.second) (sym there.1) ∙ c.if-row-second.true) in
    ap (λ r. r.amount) there.1 ∙ found ∙ ap (λ l. amount_at l c.args.second) (same ∙ c.self.view_is)

pub returns-in_default-clause-value : goal.returns-in_default-clause-value
returns-in_default-clause-value c =
    let rows = c.as_slice-rows.result.now in
    let same = c.as_slice-rows.ensures.value in
    let there = c.in-Some.ensures.lookup in
    let none = halves-none rows c.args.second _ c.in-Some.row.now (rw same c.self.invariant.rising) c.first_from.ensures.split c.first_from.ensures.bound (λ _ e. c.if-row-second.false (ap (λ r. r.second) there.1 ∙ e)) in
    none ∙ ap (λ l. amount_at l c.args.second) (same ∙ c.self.view_is)

pub returns-in_default-2-clause-value : goal.returns-in_default-2-clause-value
returns-in_default-2-clause-value c =
    let rows = c.as_slice-rows.result.now in
    let same = c.as_slice-rows.ensures.value in
    let past = ltb-false _ _ (sym c.get.ensures.lookup.0 ∙ ap is_some c.in_default.is) in
    let none = halves-none rows c.args.second _ record { second = 0; amount = 0 } (rw same c.self.invariant.rising) c.first_from.ensures.split c.first_from.ensures.bound (λ h _. omega (arith, past)) in
    none ∙ ap (λ l. amount_at l c.args.second) (same ∙ c.self.view_is)

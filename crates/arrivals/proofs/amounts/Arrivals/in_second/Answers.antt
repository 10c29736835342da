use Rattle.std.proofs.Common.{◌≡◌, ◌-◌, eqb, filter, take, drop, length, ap, subst, ◌∙◌, arith}
use Rattle.std.proofs.lemmas.List.{length-drop, take_all}
use Rattle.std.specs.Prelude.{AllPairs}
use Rattle.arrivals.specs.declared.rows.ArrivalRow.{ArrivalRow}
use Rattle.arrivals.specs.Amounts.{Amounts, IsBefore}
use Rattle.arrivals.proofs.SecondLaws.{of-second, second-is}
use Rattle.arrivals.proofs.amounts.Arrivals.in_second.Goals as goal

pub returns-clause-value : goal.returns-clause-value
returns-clause-value c =
    let is : c.as_slice-rows.result.now ≡ c.args.self.now.rows = c.as_slice-rows.ensures.value ∙ ap (λ (a : Amounts). a.rows) c.self.view_is in
    let rows = c.as_slice-rows.result.now in
    let from = c.first_from.result in
    let left : take (length rows - from) (drop from rows) ≡ drop from rows = take_all (length rows - from) (drop from rows) (omega (arith, length-drop from rows)) in
    of-second c.as_slice-rows.result.now c.args.second c.first_from.result c.first_after.result (take (length rows - from) (drop from rows)) left c.first_from.ensures.split.0 c.first_from.ensures.split.1 c.first_after.ensures.split.0 c.first_after.ensures.split.1
    ∙ ap (filter (λ (row : ArrivalRow). eqb row.second c.args.second)) is

pub returns-clause-rising : goal.returns-clause-rising
returns-clause-rising c = (second-is _ c.args.self.now.rows c.args.second (returns-clause-value c) (subst (λ (a : Amounts). AllPairs IsBefore a.rows) c.self.view_is c.self.invariant.order)).0

pub returns-clause-amounts : goal.returns-clause-amounts
returns-clause-amounts c = (second-is _ c.args.self.now.rows c.args.second (returns-clause-value c) (subst (λ (a : Amounts). AllPairs IsBefore a.rows) c.self.view_is c.self.invariant.order)).1

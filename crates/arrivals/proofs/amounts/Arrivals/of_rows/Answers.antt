use Rattle.std.proofs.Common.{◌≤◌, All, sum_by, sym, ap, ◌∙◌, subst, rules, arith}
use Rattle.std.specs.List.Sorted.{IsNonDecreasingBy}
use Rattle.std.proofs.lemmas.List.Sorted.{All-permutation, IsNonDecreasingBy-from_sort_by_key, sum_by-IsPermutation}
use Rattle.arrivals.specs.declared.rows.ArrivalRow.{ArrivalRow}
use Rattle.arrivals.specs.Rows.{amount_of, arriving_by}
use Rattle.arrivals.specs.Stored.{order_of}
use Rattle.arrivals.proofs.RowLaws.{arriving-permutation}
use Rattle.arrivals.proofs.amounts.Arrivals.of_rows.Goals as goal

pub join-requires-clause-order : goal.join-requires-clause-order
join-requires-clause-order c =
    subst (IsNonDecreasingBy order_of) (sym c.as_slice.ensures.value) (IsNonDecreasingBy-from_sort_by_key order_of _ c.sort_unstable_by_key.ensures.sorted (λ a r q k. search rules))

pub join-requires-clause-least : goal.join-requires-clause-least
join-requires-clause-least c =
    let least = All-permutation (λ (row : ArrivalRow). 1 ≤ row.amount) c.args.rows.items c.sort_unstable_by_key.new.self.items c.sort_unstable_by_key.ensures.permutation c.requires.least in
    subst (All (λ (row : ArrivalRow). 1 ≤ row.amount)) (sym c.as_slice.ensures.value) least

pub join-requires-clause-few : goal.join-requires-clause-few
join-requires-clause-few c =
    omega (arith, sum_by-IsPermutation amount_of c.args.rows.items c.sort_unstable_by_key.new.self.items c.sort_unstable_by_key.ensures.permutation, ap (sum_by amount_of) c.as_slice.ensures.value, c.requires.few)

pub returns-clause-sums : goal.returns-clause-sums
returns-clause-sums c l x =
    c.in_ok-rows.ensures.sums l x
    ∙ ap (λ rows. arriving_by rows x l) c.as_slice.ensures.value
    ∙ arriving-permutation c.args.rows.items c.sort_unstable_by_key.new.self.items c.sort_unstable_by_key.ensures.permutation l x

use Rattle.std.proofs.Common.{◌≡◌, get_or, sum_by, ap, ◌∙◌, arith}
use Rattle.std.proofs.lemmas.List.{get_or_default, take_all}
use Rattle.std.proofs.lemmas.List.Sums.{sum_by_more_le}
use Rattle.arrivals.specs.declared.rows.ArrivalRow.{ArrivalRow}
use Rattle.arrivals.specs.Rows.{amount_of, arriving_by}
use Rattle.arrivals.proofs.JoinLaws.{has-more, has-none}
use Rattle.arrivals.proofs.joining.join.Goals as goal

pub loop-row-init : goal.loop-row-init
loop-row-init c = has-none c.args.rows.now c.new-kept.result.items c.new-kept.ensures.items

pub add_row-requires-clause-order : goal.add_row-requires-clause-order
add_row-requires-clause-order c = c.loop-row.invariant.order

pub add_row-requires-clause-ends : goal.add_row-requires-clause-ends
add_row-requires-clause-ends c = c.loop-row.invariant.ends (record { second = 0; link = 0; amount = 0 }) c.loop-row-test.true

pub add_row-requires-clause-few : goal.add_row-requires-clause-few
add_row-requires-clause-few c = omega (arith, c.loop-row.invariant.whole, sum_by_more_le amount_of c.args.rows.now c.loop-row.row-index (record { second = 0; link = 0; amount = 0 }) c.loop-row-test.true, c.requires.few)

pub loop-row-preserved : goal.loop-row-preserved
loop-row-preserved c =
    let d : ArrivalRow = record { second = 0; link = 0; amount = 0 } in
    let r : ArrivalRow = get_or c.args.rows.now c.loop-row.row-index d in
    let here : r ≡ get_or c.args.rows.now c.loop-row.row-index r = get_or_default c.args.rows.now c.loop-row.row-index d r c.loop-row-test.true in
    has-more c.args.rows.now c.loop-row.row-index r c.loop-row-test.true here c.requires.order c.requires.least c.loop-row.kept.items c.add_row.new.kept.items c.loop-row.invariant c.in_ok-add_row.ensures

pub returns-clause-kept : goal.returns-clause-kept
returns-clause-kept c = record {
  order = c.loop-row.invariant.order;
  least = c.loop-row.invariant.least;
  few = omega (arith, c.loop-row.invariant.whole, ap (sum_by amount_of) (take_all c.loop-row.row-index c.args.rows.now c.loop-row-test.false), c.requires.few);
}

pub returns-clause-sums : goal.returns-clause-sums
returns-clause-sums c l x = c.loop-row.invariant.sums l x ∙ ap (λ rows. arriving_by rows x l) (take_all c.loop-row.row-index c.args.rows.now c.loop-row-test.false)

use Rattle.std.proofs.Common.{◌≡◌, get_or, subst, arith, length-take}
use Rattle.std.proofs.lemmas.List.{get_or_default, take_all}
use Rattle.std.proofs.lemmas.Result.{err_from_is_err_and}
use Rattle.arrivals.specs.declared.rows.ArrivalRow.{ArrivalRow}
use Rattle.arrivals.specs.Rows.{AreRows}
use Rattle.arrivals.proofs.FaultLaws.{checked-more, checked-none, row-fault}
use Rattle.arrivals.proofs.RowLaws.{rows-count}
use Rattle.arrivals.proofs.checks.check_all.Goals as goal

pub loop-index-init : goal.loop-index-init
loop-index-init c = checked-none c.args.net.now

pub overflow_cast-index : goal.overflow_cast-index
overflow_cast-index c = omega (arith, rows-count c.args.net.now _ c.loop-index.invariant.lawful, length-take c.loop-index.index c.args.rows.now)

pub overflow_add-index : goal.overflow_add-index
overflow_add-index c = omega (arith, rows-count c.args.net.now _ c.loop-index.invariant.lawful, length-take c.loop-index.index c.args.rows.now)

pub check-requires : goal.check-requires
check-requires c = omega (arith, c.loop-index.invariant.adds, c.loop-index.invariant.lawful.few)

pub returns-in_err-whole-clause-first : goal.returns-in_err-whole-clause-first
returns-in_err-whole-clause-first c =
    let p = err_from_is_err_and c.from_residual.result c.from_residual.ensures.1 in
    let d : ArrivalRow = record { second = 0; link = 0; amount = 0 } in
    let r : ArrivalRow = get_or c.args.rows.now c.loop-index.index d in
    let here : r ≡ get_or c.args.rows.now c.loop-index.index r = get_or_default c.args.rows.now c.loop-index.index d r c.loop-index-test.true in
    rw (p.1, p.2) (row-fault c.args.net.now c.args.rows.now c.loop-index.index r c.loop-index-test.true here c.loop-index.invariant.lawful _ c.loop-index.whole c.loop-index.invariant.adds c.in_err-whole.ensures.first)

pub loop-index-preserved : goal.loop-index-preserved
loop-index-preserved c =
    let d : ArrivalRow = record { second = 0; link = 0; amount = 0 } in
    let r : ArrivalRow = get_or c.args.rows.now c.loop-index.index d in
    let here : r ≡ get_or c.args.rows.now c.loop-index.index r = get_or_default c.args.rows.now c.loop-index.index d r c.loop-index-test.true in
    checked-more c.args.net.now c.args.rows.now c.loop-index.index r c.loop-index-test.true here c.loop-index.whole c.in_ok-whole.whole c.loop-index.invariant c.in_ok-whole.ensures.taken c.in_ok-whole.ensures.sum

pub returns-clause-lawful : goal.returns-clause-lawful
returns-clause-lawful c = subst (AreRows c.args.net.now) (take_all c.loop-index.index c.args.rows.now c.loop-index-test.false) c.loop-index.invariant.lawful

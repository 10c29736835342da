use Rattle.std.proofs.Common.{◌+◌, ◌++◌, ◌∷◌, [], length, sum, refl, ap, ◌∙◌, arith}
use Rattle.dp_certificate.proofs.Stages.{none-counted}
use Rattle.forward_dp.specs.Numbers.{counts_number}
use Rattle.forward_dp.specs.Tables.{HasEntries, IsCellMade, all_rows}
use Rattle.forward_dp.proofs.Few.{rows-keys}
use Rattle.forward_dp.proofs.Filling.{all-steps, ends-sum, small-last}
use Rattle.forward_dp.proofs.Parting.{entered-ready, table-ends, table-starts, way-gone, way-made}
use Rattle.forward_dp.proofs.table.table.Goals as goal

pub loop-next-init : goal.loop-next-init
loop-next-init g c = record {
  gone = [];
  held = c.requires.past;
  keeps_entries = refl;
  way = table-starts c.args.i.now c.args.limit c.first_row.ensures.instance c.requires.delay c.first_row.result _ c.first_row.ensures.row c.requires.none.gone c.requires.none.earlier (c.in_ok-push.ensures.items ∙ ap (λ xs. xs ++ c.first_row.result ∷ []) c.requires.none.latest) c.requires.none.apart;
  within = λ k. omega (arith, none-counted k);
  empty = c.requires.empty;
  cost = omega arith;
}

pub next_counts-requires-clause-small : goal.next_counts-requires-clause-small
next_counts-requires-clause-small g c = small-last c.args.i.now c.list_lengths-last.result c.first_row.ensures.instance c.list_lengths-last.ensures

pub enter-requires : goal.enter-requires
enter-requires g c = omega (arith, way-gone c.args.i.now c.args.limit c.loop-next.counts 4 c.loop-next.invariant.gone c.loop-next.rows c.loop-next.ends c.first_row.ensures.instance c.loop-next.invariant.way)

pub fill_cell-requires-clause-cell : goal.fill_cell-requires-clause-cell
fill_cell-requires-clause-cell g c =
    let e = c.in_ok-enter.ensures.entered c.loop-next.invariant.gone c.loop-next.invariant.held in
    (e.past, e.held, entered-ready c.args.i.now c.args.limit c.first_row.ensures.instance c.list_lengths-last.result c.loop-next.counts c.in-Some.next c.loop-next.invariant.gone c.loop-next.rows c.enter.new.self c.loop-next.ends (HasEntries c.enter.new.past) c.list_lengths-last.ensures c.in-Some.ensures.some c.loop-next.invariant.within c.loop-next.invariant.way e)

pub loop-next-preserved : goal.loop-next-preserved
loop-next-preserved g c =
    let e = c.in_ok-enter.ensures.entered c.loop-next.invariant.gone c.loop-next.invariant.held in
    let made : IsCellMade (HasEntries c.fill_cell.new.past) c.args.i.now c.args.limit c.in-Some.next c.fill_cell.new.rows c.fill_cell.new.ends =
    c.in_ok-fill_cell.ensures.filled e.past e.held
    (entered-ready c.args.i.now c.args.limit c.first_row.ensures.instance c.list_lengths-last.result c.loop-next.counts c.in-Some.next c.loop-next.invariant.gone c.loop-next.rows c.enter.new.self c.loop-next.ends (HasEntries c.enter.new.past) c.list_lengths-last.ensures c.in-Some.ensures.some c.loop-next.invariant.within c.loop-next.invariant.way e) in
    record {
      gone = made.gone;
      held = made.held;
      keeps_entries = c.fill_cell.ensures.keeps_entries ∙ c.enter.ensures.keeps_entries ∙ c.loop-next.invariant.keeps_entries;
      way = way-made (HasEntries c.fill_cell.new.past) c.args.i.now c.args.limit c.in-Some.next c.fill_cell.new.rows c.fill_cell.new.ends made;
      within = c.in-Some.ensures.some.within;
      empty = c.in_ok-fill_cell.ensures.empty;
      cost = omega (arith, c.loop-next.invariant.cost, c.in_ok-fill_cell.ensures.steps);
    }

pub returns-clause-whole : goal.returns-clause-whole
returns-clause-whole g c = (
  c.loop-next.invariant.gone,
  c.loop-next.invariant.held,
  table-ends c.args.i.now c.args.limit c.first_row.ensures.instance c.list_lengths-last.result c.loop-next.counts c.loop-next.invariant.gone c.loop-next.rows c.loop-next.ends c.list_lengths-last.ensures c.loop-next.invariant.within c.in_default.ensures.none c.loop-next.invariant.way,
)

pub returns-in_err-enter-clause-servings : goal.returns-in_err-enter-clause-servings
returns-in_err-enter-clause-servings g c keys all =
    let way = c.loop-next.invariant.way in
    let rows = all_rows c.loop-next.invariant.gone c.loop-next.rows in
    all-steps (length c.args.i.now.plan) c.args.steps.now c.loop-next.steps (sum c.loop-next.ends) (length rows) (length keys) c.loop-next.invariant.cost
    (ends-sum (length c.args.i.now.plan) rows (counts_number c.loop-next.counts + 1) 4 c.loop-next.ends way.ends_are) (rows-keys c.args.i.now c.args.limit rows keys way.table.made way.table.within all)

pub returns-clause-servings : goal.returns-clause-servings
returns-clause-servings g c keys all =
    let way = c.loop-next.invariant.way in
    let rows = all_rows c.loop-next.invariant.gone c.loop-next.rows in
    all-steps (length c.args.i.now.plan) c.args.steps.now c.loop-next.steps (sum c.loop-next.ends) (length rows) (length keys) c.loop-next.invariant.cost
    (ends-sum (length c.args.i.now.plan) rows (counts_number c.loop-next.counts + 1) 4 c.loop-next.ends way.ends_are) (rows-keys c.args.i.now c.args.limit rows keys way.table.made way.table.within all)

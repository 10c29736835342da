use Rattle.std.proofs.Common.{◌≡◌, ◌+◌, ◌<◌, ◌≤◌, length, sum, get_or, set, refl, ap, sym, subst, ◌∙◌, arith}
use Rattle.forward_dp.specs.Groups.{IsEmpty}
use Rattle.phase_plan.specs.declared.Phase.{Phase}
use Rattle.forward_dp.specs.Numbers.{counts_number}
use Rattle.forward_dp.specs.Tables.{HasEntries, all_rows}
use Rattle.forward_dp.proofs.Few.{rows-keys}
use Rattle.forward_dp.proofs.Filling.{ends-cost, ends-one, ends-sum, most-one, most-steps}
use Rattle.forward_dp.proofs.Parting.{HasCome, cell-ends, cell-goes-on, cell-passes, cell-starts, group-ready}
use Rattle.forward_dp.proofs.table.fill_cell.Goals as goal
use Rattle.forward_dp.proofs.table.fill_cell.Goals.{then-counts-phase-gt0+in_ok-ends, else-counts-phase-gt0}

pub loop-phase-init : goal.loop-phase-init
loop-phase-init g c = record {
  made = λ gone held ready. cell-starts (HasEntries c.args.past.now) c.args.task.now.i.now c.args.task.now.limit c.args.counts.now gone c.args.rows.now c.args.ends.now held ready;
  keeps_entries = refl;
  empty = c.requires.empty;
  cost = omega arith;
}

pub fill_group-requires-clause-group : goal.fill_group-requires-clause-group
fill_group-requires-clause-group g c =
    let gone = c.requires.cell.0 in
    let inside : c.loop-phase.phase < length c.args.task.now.i.now.plan = omega (arith, c.loop-phase-test.true, c.count-phase-end.ensures.count, ap (length {A = Phase}) c.plan.ensures.value) in
    let come : HasCome (HasEntries c.loop-phase.past) c.args.task.now.i.now c.args.task.now.limit c.args.counts.now c.loop-phase.phase c.loop-phase.rows c.loop-phase.ends = c.loop-phase.invariant.made gone c.requires.cell.1 c.requires.cell.2 in
    (come.gone, group-ready c.args.task.now.i.now c.args.task.now.limit c.args.counts.now c.loop-phase.phase gone come.gone c.args.rows.now c.loop-phase.rows c.args.ends.now c.loop-phase.ends c.requires.cell.2 inside c.if-counts-phase-gt0.true come.way)

pub loop-phase-preserved : goal.loop-phase-preserved
loop-phase-preserved g c =
    let p = c.args.task.now.i.now in
    let counts = c.args.counts.now in
    let k = c.loop-phase.phase in
    let few : length p.plan ≤ 4 = c.plan.ensures.instance.plan.count.1 in
    let inside : k < length p.plan = omega (arith, c.loop-phase-test.true, c.count-phase-end.ensures.count, ap (length {A = Phase}) c.plan.ensures.value) in
    record {
      made = λ gone held ready.
          let come : HasCome (HasEntries c.loop-phase.past) p c.args.task.now.limit counts k c.loop-phase.rows c.loop-phase.ends = c.loop-phase.invariant.made gone held ready in
          elim c.if-counts-phase-gt0.branch [
            | then-counts-phase-gt0+in_ok-ends w ↦
                subst (λ past. HasCome (HasEntries past) p c.args.task.now.limit counts (k + 1) c.if-counts-phase-gt0.rows c.if-counts-phase-gt0.ends) (sym w.past-is)
                (subst (λ rows. HasCome (HasEntries w.fill_group.new.past) p c.args.task.now.limit counts (k + 1) rows c.if-counts-phase-gt0.ends) (sym w.rows-is)
                (subst (HasCome (HasEntries w.fill_group.new.past) p c.args.task.now.limit counts (k + 1) w.fill_group.new.rows) (sym w.ends-is)
                (cell-goes-on (HasEntries w.fill_group.new.past) p c.args.task.now.limit counts k w.in_ok-ends.field-0 come.gone c.loop-phase.rows w.fill_group.new.rows c.loop-phase.ends come.way inside few
                (w.in_ok-ends.ensures.filled come.gone come.held (group-ready p c.args.task.now.limit counts k gone come.gone c.args.rows.now c.loop-phase.rows c.args.ends.now c.loop-phase.ends ready inside w.if-counts-phase-gt0.true come.way)))))
            | else-counts-phase-gt0 w ↦
                subst (λ past. HasCome (HasEntries past) p c.args.task.now.limit counts (k + 1) c.if-counts-phase-gt0.rows c.if-counts-phase-gt0.ends) (sym w.past-is)
                (subst (λ rows. HasCome (HasEntries c.loop-phase.past) p c.args.task.now.limit counts (k + 1) rows c.if-counts-phase-gt0.ends) (sym w.rows-is)
                (subst (HasCome (HasEntries c.loop-phase.past) p c.args.task.now.limit counts (k + 1) c.loop-phase.rows) (sym w.ends-is)
                (cell-passes (HasEntries c.loop-phase.past) p c.args.task.now.limit counts k gone c.args.rows.now c.loop-phase.rows c.args.ends.now c.loop-phase.ends ready inside w.if-counts-phase-gt0.false come)))
          ];
      keeps_entries = elim c.if-counts-phase-gt0.branch [
        | then-counts-phase-gt0+in_ok-ends w ↦ ap (λ past. past.keeps_entries) w.past-is ∙ w.fill_group.ensures.keeps_entries ∙ c.loop-phase.invariant.keeps_entries
        | else-counts-phase-gt0 w ↦ ap (λ past. past.keeps_entries) w.past-is ∙ c.loop-phase.invariant.keeps_entries
      ];
      empty = elim c.if-counts-phase-gt0.branch [
        | then-counts-phase-gt0+in_ok-ends w ↦ subst IsEmpty (sym w.reached-is) w.in_ok-ends.ensures.empty
        | else-counts-phase-gt0 w ↦ subst IsEmpty (sym w.reached-is) c.loop-phase.invariant.empty
      ];
      cost = elim c.if-counts-phase-gt0.branch [
        | then-counts-phase-gt0+in_ok-ends w ↦
            let places : length c.loop-phase.ends ≡ 4 = (c.loop-phase.invariant.made c.requires.cell.0 c.requires.cell.1 c.requires.cell.2).way.ends_are.places in
            subst (λ ends. c.if-counts-phase-gt0.steps + sum c.args.ends.now ≤ c.args.steps.now + sum ends) (sym w.ends-is)
            (subst (λ steps. steps + sum c.args.ends.now ≤ c.args.steps.now + sum (set c.loop-phase.ends k w.in_ok-ends.field-0)) (sym w.steps-is)
            (ends-cost c.loop-phase.ends k w.in_ok-ends.field-0 c.args.steps.now c.loop-phase.steps w.fill_group.new.steps (sum c.args.ends.now) (omega (arith, places, inside, few)) c.loop-phase.invariant.cost w.in_ok-ends.ensures.steps))
        | else-counts-phase-gt0 w ↦
            subst (λ ends. c.if-counts-phase-gt0.steps + sum c.args.ends.now ≤ c.args.steps.now + sum ends) (sym w.ends-is)
            (subst (λ steps. steps + sum c.args.ends.now ≤ c.args.steps.now + sum c.loop-phase.ends) (sym w.steps-is) c.loop-phase.invariant.cost)
      ];
    }

pub returns-in_err-ends-clause-most : goal.returns-in_err-ends-clause-most
returns-in_err-ends-clause-most g c keys all =
    let p = c.args.task.now.i.now in
    let few : length p.plan ≤ 4 = c.plan.ensures.instance.plan.count.1 in
    let inside : c.loop-phase.phase < length p.plan = omega (arith, c.loop-phase-test.true, c.count-phase-end.ensures.count, ap (length {A = Phase}) c.plan.ensures.value) in
    let come : HasCome (HasEntries c.loop-phase.past) p c.args.task.now.limit c.args.counts.now c.loop-phase.phase c.loop-phase.rows c.loop-phase.ends = c.loop-phase.invariant.made c.requires.cell.0 c.requires.cell.1 c.requires.cell.2 in
    let gone = come.gone in
    let way = come.way in
    most-one (length p.plan) c.args.steps.now c.loop-phase.steps c.fill_group.new.steps (sum c.args.ends.now) (sum c.loop-phase.ends) (length (all_rows gone c.loop-phase.rows)) (length keys) (get_or c.loop-phase.ends c.loop-phase.phase 0)
    c.loop-phase.invariant.cost
    (c.fill_group.ensures.most gone (group-ready p c.args.task.now.limit c.args.counts.now c.loop-phase.phase c.requires.cell.0 gone c.args.rows.now c.loop-phase.rows c.args.ends.now c.loop-phase.ends c.requires.cell.2 inside c.if-counts-phase-gt0.true way))
    (ends-one (length p.plan) (all_rows gone c.loop-phase.rows) (counts_number c.args.counts.now + 1) c.loop-phase.phase c.loop-phase.phase c.loop-phase.ends way.ends_are inside few)
    (rows-keys p c.args.task.now.limit (all_rows gone c.loop-phase.rows) keys way.table.made way.table.within all)

pub returns-clause-filled : goal.returns-clause-filled
returns-clause-filled g c gone held ready =
    cell-ends (HasEntries c.loop-phase.past) c.args.task.now.i.now c.args.task.now.limit c.args.counts.now c.loop-phase.phase gone c.args.rows.now c.loop-phase.rows c.args.ends.now c.loop-phase.ends ready
    (omega (arith, c.loop-phase-test.false, c.count-phase-end.ensures.count, ap (length {A = Phase}) c.plan.ensures.value)) (c.loop-phase.invariant.made gone held ready)

pub returns-clause-most : goal.returns-clause-most
returns-clause-most g c keys all =
    let come : HasCome (HasEntries c.loop-phase.past) c.args.task.now.i.now c.args.task.now.limit c.args.counts.now c.loop-phase.phase c.loop-phase.rows c.loop-phase.ends = c.loop-phase.invariant.made c.requires.cell.0 c.requires.cell.1 c.requires.cell.2 in
    let gone = come.gone in
    let way = come.way in
    most-steps (length c.args.task.now.i.now.plan) c.args.steps.now c.loop-phase.steps c.loop-phase.steps (sum c.args.ends.now) (sum c.loop-phase.ends) (length (all_rows gone c.loop-phase.rows)) (length keys) c.loop-phase.invariant.cost (omega arith)
    (ends-sum (length c.args.task.now.i.now.plan) (all_rows gone c.loop-phase.rows) (counts_number c.args.counts.now + 1) c.loop-phase.phase c.loop-phase.ends way.ends_are) (rows-keys c.args.task.now.i.now c.args.task.now.limit (all_rows gone c.loop-phase.rows) keys way.table.made way.table.within all)

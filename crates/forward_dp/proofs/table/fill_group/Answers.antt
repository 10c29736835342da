use Rattle.std.proofs.Common.{◌≡◌, ℕ, ◌+◌, ◌-◌, ◌≤◌, List, length, take, drop, refl, length-drop, arith}
use Rattle.std.proofs.lemmas.List.{length-take}
use Rattle.forward_dp.proofs.Reaching.{reached-rising}
use Rattle.forward_dp.specs.Tables.{HasEntries}
use Rattle.forward_dp.specs.declared.rows.Row.{Row}
use Rattle.forward_dp.proofs.Parting.{has-left, ready-few, ready-filled, ready-found, ready-gone, ready-long, ready-within}
use Rattle.forward_dp.proofs.table.fill_group.Goals as goal

-- a step for each row of the slice: no more than there are rows from the given place up to its end
steps-end : (source : List Row) (from base skip start end old new : ℕ) → skip ≡ from - base → skip ≤ start → start ≤ end → end ≤ length source → new ≤ old + length (take (end - start) (drop start source)) → new + from ≤ old + (base + end)
steps-end source from base skip start end old new is_skip first second within steps = omega (arith, length-take (end - start) (drop start source), length-drop start source)

-- and so up to the last row of all
steps-most : (source : List Row) (from base skip start end old new most : ℕ) → skip ≡ from - base → skip ≤ start → start ≤ end → end ≤ length source → base + length source ≤ most → new ≤ old + length (take (end - start) (drop start source)) → new + from ≤ old + most
steps-most source from base skip start end old new most is_skip first second within long steps = omega (arith, steps-end source from base skip start end old new is_skip first second within steps)

pub base-base-requires : goal.base-base-requires
base-base-requires g c = omega (arith, ready-gone c.args.task.now.i.now c.args.task.now.limit c.args.group.now.counts c.args.group.now.phase c.args.group.now.from c.requires.group.0 c.args.rows.now c.requires.group.1)

pub cell-start-requires : goal.cell-start-requires
cell-start-requires g c = omega (arith, c.saturating_sub.ensures, ready-within c.args.task.now.i.now c.args.task.now.limit c.args.group.now.counts c.args.group.now.phase c.args.group.now.from c.base-base.result c.source-source.result.now c.requires.group.0 c.args.rows.now c.requires.group.1 c.base-base.ensures c.source-source.ensures)

pub reach-requires-clause-source : goal.reach-requires-clause-source
reach-requires-clause-source g c =
    (ready-found c.args.task.now.i.now c.args.task.now.limit c.args.group.now.counts c.args.group.now.phase c.args.group.now.from c.base-base.result c.saturating_sub.result c.cell-start.result.0 c.cell-start.result.1 c.source-source.result.now c.requires.group.0 c.args.rows.now c.list.result.now _ c.requires.group.1 c.base-base.ensures c.source-source.ensures c.list.ensures.value c.saturating_sub.ensures c.cell-start.ensures.start c.cell-start.ensures.end).is

pub append_to-requires-clause-rising : goal.append_to-requires-clause-rising
append_to-requires-clause-rising g c = reached-rising c.args.task.now.i.now c.args.task.now.limit c.args.group.now.phase _ _ _ c.reach.new.self c.in_ok-reach.ensures.reached

pub overflow_add-result : goal.overflow_add-result
overflow_add-result g c =
    omega (arith, c.cell-start.ensures.end.within, ready-long c.args.task.now.i.now c.args.task.now.limit c.args.group.now.counts c.args.group.now.phase c.args.group.now.from c.base-base.result c.source-source.result.now c.requires.group.0 c.args.rows.now c.requires.group.1 c.base-base.ensures c.source-source.ensures, ready-few c.args.task.now.i.now c.args.task.now.limit c.args.group.now.counts c.args.group.now.phase c.args.group.now.from c.requires.group.0 c.args.rows.now c.requires.group.1)

pub leave-requires : goal.leave-requires
leave-requires g c = omega (arith, ready-gone c.args.task.now.i.now c.args.task.now.limit c.args.group.now.counts c.args.group.now.phase c.args.group.now.from c.requires.group.0 c.args.rows.now c.requires.group.1)

pub returns-clause-filled : goal.returns-clause-filled
returns-clause-filled g c gone held ready =
    ready-filled (HasEntries c.leave.new.past) c.args.task.now.i.now c.args.task.now.limit c.args.group.now.counts c.args.group.now.phase c.args.group.now.from (c.base-base.result + c.cell-start.result.0) (c.base-base.result + c.cell-start.result.1) gone _ c.args.rows.now c.leave.new.self _ _ c.reach.new.self ready
    (ready-found c.args.task.now.i.now c.args.task.now.limit c.args.group.now.counts c.args.group.now.phase c.args.group.now.from c.base-base.result c.saturating_sub.result c.cell-start.result.0 c.cell-start.result.1 c.source-source.result.now gone c.args.rows.now c.list.result.now _ ready c.base-base.ensures c.source-source.ensures c.list.ensures.value c.saturating_sub.ensures c.cell-start.ensures.start c.cell-start.ensures.end)
    c.in_ok-reach.ensures.reached
    (has-left (HasEntries c.leave.new.past) c.args.task.now.i.now c.args.task.now.limit c.args.group.now.counts c.args.group.now.phase c.args.group.now.from c.is_last.result gone c.args.rows.now c.leave.new.self ready (c.in_ok-leave.ensures.left gone held) c.is_last.ensures.0)
    c.in_ok-append_to.ensures.joined refl refl refl

pub returns-in_err-reach-clause-most : goal.returns-in_err-reach-clause-most
returns-in_err-reach-clause-most g c gone ready =
    steps-most c.source-source.result.now c.args.group.now.from c.base-base.result c.saturating_sub.result c.cell-start.result.0 c.cell-start.result.1 c.args.steps.now c.reach.new.steps _ c.saturating_sub.ensures c.cell-start.ensures.start.rise c.cell-start.ensures.end.rise c.cell-start.ensures.end.within
    (ready-long c.args.task.now.i.now c.args.task.now.limit c.args.group.now.counts c.args.group.now.phase c.args.group.now.from c.base-base.result c.source-source.result.now gone c.args.rows.now ready c.base-base.ensures c.source-source.ensures) c.reach.ensures.steps

pub returns-in_err-leave-clause-most : goal.returns-in_err-leave-clause-most
returns-in_err-leave-clause-most g c gone ready =
    steps-most c.source-source.result.now c.args.group.now.from c.base-base.result c.saturating_sub.result c.cell-start.result.0 c.cell-start.result.1 c.args.steps.now c.reach.new.steps _ c.saturating_sub.ensures c.cell-start.ensures.start.rise c.cell-start.ensures.end.rise c.cell-start.ensures.end.within
    (ready-long c.args.task.now.i.now c.args.task.now.limit c.args.group.now.counts c.args.group.now.phase c.args.group.now.from c.base-base.result c.source-source.result.now gone c.args.rows.now ready c.base-base.ensures c.source-source.ensures) c.reach.ensures.steps

pub returns-in_err-append_to-clause-most : goal.returns-in_err-append_to-clause-most
returns-in_err-append_to-clause-most g c gone ready =
    steps-most c.source-source.result.now c.args.group.now.from c.base-base.result c.saturating_sub.result c.cell-start.result.0 c.cell-start.result.1 c.args.steps.now c.reach.new.steps _ c.saturating_sub.ensures c.cell-start.ensures.start.rise c.cell-start.ensures.end.rise c.cell-start.ensures.end.within
    (ready-long c.args.task.now.i.now c.args.task.now.limit c.args.group.now.counts c.args.group.now.phase c.args.group.now.from c.base-base.result c.source-source.result.now gone c.args.rows.now ready c.base-base.ensures c.source-source.ensures) c.reach.ensures.steps

pub returns-clause-most : goal.returns-clause-most
returns-clause-most g c gone ready =
    steps-most c.source-source.result.now c.args.group.now.from c.base-base.result c.saturating_sub.result c.cell-start.result.0 c.cell-start.result.1 c.args.steps.now c.reach.new.steps _ c.saturating_sub.ensures c.cell-start.ensures.start.rise c.cell-start.ensures.end.rise c.cell-start.ensures.end.within
    (ready-long c.args.task.now.i.now c.args.task.now.limit c.args.group.now.counts c.args.group.now.phase c.args.group.now.from c.base-base.result c.source-source.result.now gone c.args.rows.now ready c.base-base.ensures c.source-source.ensures) c.reach.ensures.steps

pub returns-clause-steps : goal.returns-clause-steps
returns-clause-steps g c = steps-end c.source-source.result.now c.args.group.now.from c.base-base.result c.saturating_sub.result c.cell-start.result.0 c.cell-start.result.1 c.args.steps.now c.reach.new.steps c.saturating_sub.ensures c.cell-start.ensures.start.rise c.cell-start.ensures.end.rise c.cell-start.ensures.end.within c.reach.ensures.steps

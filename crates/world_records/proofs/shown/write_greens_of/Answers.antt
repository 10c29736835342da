use Rattle.std.proofs.Common.{◌<◌, ◌≤◌, Bool, List, slice_index_or, subst, arith}
use Rattle.std.proofs.lemmas.List.{get_or_default}
use Rattle.control_flow.specs.Greens.{no_green}
use Rattle.control_flow.specs.declared.greens.Green.{Green}
use Rattle.road_net.specs.Through.{is_through}
use Rattle.world_records.specs.Told.{told_by}
use Rattle.world_records.proofs.ToldLaws.{late-row, told-adds, told-fits, told-more}
use Rattle.world_records.proofs.shown.write_greens_of.Goals as goal

pub returns-then-by-end-clause-records : goal.returns-then-by-end-clause-records
returns-then-by-end-clause-records c =
    let rows : List Green = c.args.greens.now in
    let i = c.loop-green.green-index in
    let row : Green = slice_index_or rows i no_green in
    let late : c.args.end ≤ told_by (is_through c.args.net.now c.args.node) c.loop-green.last row =
    subst (λ (t : Bool). c.args.end ≤ told_by t c.loop-green.last row) c.is_through-through.ensures.value (let e = c.told_by-by.ensures in let f = c.if-by-end.true in omega arith) in
    told-adds c.args.net.now c.args.node c.args.end rows i c.loop-green.last c.args.out.now c.loop-green.out c.loop-green.invariant
    (late-row c.args.net.now c.args.node c.args.end rows i c.loop-green.last row (omega arith) (get_or_default rows i no_green row (omega arith)) late)

pub returns-then-by-end-clause-told : goal.returns-then-by-end-clause-told
returns-then-by-end-clause-told c =
    let rows : List Green = c.args.greens.now in
    let i = c.loop-green.green-index in
    let row : Green = slice_index_or rows i no_green in
    let late : c.args.end ≤ told_by (is_through c.args.net.now c.args.node) c.loop-green.last row =
    subst (λ (t : Bool). c.args.end ≤ told_by t c.loop-green.last row) c.is_through-through.ensures.value (let e = c.told_by-by.ensures in let f = c.if-by-end.true in omega arith) in
    told-fits c.args.net.now c.args.node c.args.end rows i c.loop-green.last c.args.out.now c.loop-green.out c.loop-green.invariant
    (late-row c.args.net.now c.args.node c.args.end rows i c.loop-green.last row (omega arith) (get_or_default rows i no_green row (omega arith)) late)

pub loop-green-preserved : goal.loop-green-preserved
loop-green-preserved c =
    let rows : List Green = c.args.greens.now in
    let i = c.loop-green.green-index in
    let row : Green = slice_index_or rows i no_green in
    let before : told_by (is_through c.args.net.now c.args.node) c.loop-green.last row < c.args.end =
    subst (λ (t : Bool). told_by t c.loop-green.last row < c.args.end) c.is_through-through.ensures.value (let e = c.told_by-by.ensures in let f = c.if-by-end.false in omega arith) in
    told-more c.args.net.now c.args.node c.args.end rows i c.loop-green.last row c.args.out.now c.loop-green.out c.write_green.new.out
    (omega arith) (get_or_default rows i no_green row (omega arith)) before c.loop-green.invariant c.in_ok-write_green.ensures.records c.in_ok-write_green.ensures.told

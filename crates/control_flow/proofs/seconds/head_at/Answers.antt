use Rattle.std.proofs.Common.{◌≡◌, ◌≤◌, None, Some, sym, ap, ◌∙◌, arith}
use Rattle.std.specs.Option.{option_map}
use Rattle.switch_rules.specs.declared.Head.{Head}
use Rattle.control_flow.specs.Greens.{IsGreen, head_in, row_after}
use Rattle.control_flow.specs.declared.greens.Green.{Green}
use Rattle.control_flow.proofs.ApartLaws.{are-apart}
use Rattle.control_flow.proofs.RowLaws.{row_after-none, row_after-some}
use Rattle.control_flow.proofs.SpliceLaws.{head_in-by, joins-head}
use Rattle.control_flow.proofs.seconds.head_at.Goals as goal

pub unreachable-requires : goal.unreachable-requires
unreachable-requires c =
    let none : row_after c.args.line.now c.args.now ≡ None = sym c.row_after.ensures.value ∙ c.in_default.is in
    omega (arith, row_after-none c.args.line.now c.args.now none)

pub head_in-requires-clause-green : goal.head_in-requires-clause-green
head_in-requires-clause-green c =
    let some : row_after c.args.line.now c.args.now ≡ Some c.in-Some.row = sym c.row_after.ensures.value ∙ c.in-Some.is in
    (row_after-some (IsGreen c.args.plan.now) c.args.line.now c.args.now c.in-Some.row c.requires.lawful.greens some).0

pub head_in-requires-clause-behind : goal.head_in-requires-clause-behind
head_in-requires-clause-behind c =
    let some : row_after c.args.line.now c.args.now ≡ Some c.in-Some.row = sym c.row_after.ensures.value ∙ c.in-Some.is in
    (row_after-some (IsGreen c.args.plan.now) c.args.line.now c.args.now c.in-Some.row c.requires.lawful.greens some).1

pub returns-clause-value : goal.returns-clause-value
returns-clause-value c =
    let some : row_after c.args.line.now c.args.now ≡ Some c.in-Some.row = sym c.row_after.ensures.value ∙ c.in-Some.is in
    ap (option_map (head_in c.args.plan.now c.args.now)) some ∙ ap (λ (h : Head). Some h) (sym c.head_in.ensures.value)

pub returns-clause-begins_by : goal.returns-clause-begins_by
returns-clause-begins_by c n later begins =
    let some : row_after c.args.line.now c.args.now ≡ Some c.in-Some.row = sym c.row_after.ensures.value ∙ c.in-Some.is in
    let from = (row_after-some (λ (row : Green). row.from ≤ n) c.args.line.now c.args.now c.in-Some.row begins some).0 in
    rw c.head_in.ensures.value (head_in-by c.args.plan.now c.args.now c.in-Some.row n later from)

pub returns-clause-joins : goal.returns-clause-joins
returns-clause-joins c next begin = joins-head c.args.plan.now c.args.line.now c.args.now c.head_in.result next (returns-clause-value c) begin

pub returns-clause-apart : goal.returns-clause-apart
returns-clause-apart c = are-apart c.args.plan.now c.args.line.now c.count.ensures.ring c.requires.lawful

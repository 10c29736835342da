use Rattle.std.proofs.Common.{◌≡◌, ℕ, ◌+◌, ◌++◌, Bool, List, Vec, Global, rules, sym, ap, subst, ◌∙◌, arith}
use Rattle.control_flow.specs.declared.greens.Green.{Green}
use Rattle.control_flow.specs.Greens.{BeginBy, IsLawful}
use Rattle.control_flow.specs.Timelines.{line_of, turned, HasGreens}
use Rattle.control_flow.proofs.ServingLaws.{IsServingOf-keeps, IsServingOf-head}
use Rattle.control_flow.proofs.ApartLaws.{are-apart}
use Rattle.control_flow.proofs.OrderLaws.{order-lawful}
use Rattle.control_flow.proofs.TurningLaws.{IsLineFrom, none-called}
use Rattle.control_flow.proofs.MakingLaws.{line_of-line, line_of-by, line_of-greens, next-serving, line-kept, line-left, line-over}
use Rattle.control_flow.proofs.timelines.timeline.Goals as goal
use Rattle.control_flow.proofs.timelines.timeline.Goals.{then-not-next+in_ok-leave, else-not-next}

pub bounds-served-index : goal.bounds-served-index
bounds-served-index c =
    let l = c.loop-index in
    (next-serving c.args.plan.now l.current c.args.phases.now c.args.served.now l.index c.loop-index-test.true l.invariant.servings).below

pub offset_bounds-served-index : goal.offset_bounds-served-index
offset_bounds-served-index c =
    let l = c.loop-index in
    let next = next-serving c.args.plan.now l.current c.args.phases.now c.args.served.now l.index c.loop-index-test.true l.invariant.servings in
    let below = next.below in
    search rules

pub leave-requires-clause-phase : goal.leave-requires-clause-phase
leave-requires-clause-phase c =
    let l = c.loop-index in
    (next-serving c.args.plan.now l.current c.args.phases.now c.args.served.now l.index c.loop-index-test.true l.invariant.servings).one.phase

pub leave-requires-clause-begin : goal.leave-requires-clause-begin
leave-requires-clause-begin c =
    let l = c.loop-index in
    let next = next-serving c.args.plan.now l.current c.args.phases.now c.args.served.now l.index c.loop-index-test.true l.invariant.servings in
    (IsServingOf-keeps c.args.plan.now l.current _ _ c.law_of_rings.ensures l.invariant.head next.one).anew c.if-not-next.true

pub loop-index-preserved : goal.loop-index-preserved
loop-index-preserved c =
    let l = c.loop-index in
    let plan = c.args.plan.now in
    let next = next-serving plan l.current c.args.phases.now c.args.served.now l.index c.loop-index-test.true l.invariant.servings in
    let keeps = IsServingOf-keeps plan l.current _ _ c.law_of_rings.ensures l.invariant.head next.one in
    let head = IsServingOf-head plan l.current _ _ c.law_of_rings.ensures l.invariant.head next.one in
    elim c.if-not-next.branch [
      | then-not-next+in_ok-leave w ↦ record {
        rows = line-left plan l.current c.args.phases.now c.args.served.now l.index c.args.until l.rows.items _ _ c.loop-index-test.true next.below w.if-not-next.true l.invariant.rows
            (ap (λ (v : Vec Green Global). v.items) w.rows-is ∙ w.in_ok-leave.ensures);
        servings = next.others;
        head = head;
        reach = omega (arith, keeps.reach);
      }
      | else-not-next w ↦ record {
        rows = rw w.rows-is (line-kept plan l.current c.args.phases.now c.args.served.now l.index c.args.until l.rows.items _ c.loop-index-test.true next.below w.if-not-next.false l.invariant.rows);
        servings = next.others;
        head = head;
        reach = omega (arith, keeps.reach);
      }
    ]

made : (c : goal.In_ok-turn) → c.turn.new.rows.items ≡ line_of c.args.plan.now c.args.head.now c.args.phases.now c.args.served.now c.args.until
made c =
    let l = c.loop-index in
    c.in_ok-turn.ensures
    ∙ ap (λ (stops : ℕ → Bool). l.rows.items ++ turned c.args.plan.now stops l.current (l.current.since + c.phase.result.now.greatest) c.args.until) (none-called c.args.plan.now)
    ∙ line-over c.args.plan.now l.current c.phase.result.now c.args.phases.now c.args.served.now l.index c.args.until l.rows.items _ c.loop-index-test.false c.phase.ensures.value l.invariant.rows

made-lawful : (c : goal.In_ok-turn) → IsLawful c.args.plan.now c.turn.new.rows.items
made-lawful c = rw (made c) ((line_of-line c.args.plan.now c.args.phases.now c.args.served.now c.args.head.now c.args.until c.law_of_rings.ensures c.requires.head c.requires.reach c.requires.servings).lawful)

pub from_rows-requires : goal.from_rows-requires
from_rows-requires c = order-lawful c.args.plan.now _ c.law_of_rings.ensures (made-lawful c)

value : (c : goal.After-from_rows) → c.from_rows.result ≡ line_of c.args.plan.now c.args.head.now c.args.phases.now c.args.served.now c.args.until
value c =
    let l = c.loop-index in
    c.from_rows.ensures ∙ c.in_ok-turn.ensures
    ∙ ap (λ (stops : ℕ → Bool). l.rows.items ++ turned c.args.plan.now stops l.current (l.current.since + c.phase.result.now.greatest) c.args.until) (none-called c.args.plan.now)
    ∙ line-over c.args.plan.now l.current c.phase.result.now c.args.phases.now c.args.served.now l.index c.args.until l.rows.items _ c.loop-index-test.false c.phase.ensures.value l.invariant.rows

line : (c : goal.After-from_rows) → IsLineFrom c.args.plan.now c.args.head.now c.args.until c.from_rows.result
line c =
    let facts = line_of-line c.args.plan.now c.args.phases.now c.args.served.now c.args.head.now c.args.until c.law_of_rings.ensures c.requires.head c.requires.reach c.requires.servings in
    subst (IsLineFrom c.args.plan.now c.args.head.now c.args.until) (sym (value c)) facts

pub returns-clause-value : goal.returns-clause-value
returns-clause-value c = value c

pub returns-clause-greens : goal.returns-clause-greens
returns-clause-greens c =
    let facts = line_of-greens c.args.plan.now c.args.phases.now c.args.served.now c.args.head.now c.args.until c.law_of_rings.ensures c.requires.head c.requires.reach c.requires.servings in
    subst (λ (rows : List Green). HasGreens rows c.args.phases.now c.args.served.now) (sym (value c)) facts

pub returns-clause-lawful : goal.returns-clause-lawful
returns-clause-lawful c = (line c).lawful

pub returns-clause-begin : goal.returns-clause-begin
returns-clause-begin c = (line c).begin

pub returns-clause-end : goal.returns-clause-end
returns-clause-end c = (line c).end

pub returns-clause-begins_by : goal.returns-clause-begins_by
returns-clause-begins_by c = λ n since last greens.
    let facts = line_of-by c.args.plan.now c.args.phases.now c.args.served.now c.args.head.now c.args.until n c.law_of_rings.ensures c.requires.head c.requires.servings since last greens in
    subst (BeginBy n) (sym (value c)) facts

pub returns-clause-apart : goal.returns-clause-apart
returns-clause-apart c = are-apart c.args.plan.now _ c.law_of_rings.ensures (line c).lawful

use Rattle.std.proofs.Common.{ℕ, false, ◌+◌, ◌-◌, ◌||◌, Bool, List, ◌++◌, filter, sym, ap, ◌∙◌, arith}
use Rattle.std.specs.List.{range_with_len}
use Rattle.phase_plan.specs.Phases.{is_unmarked_at}
use Rattle.phase_plan.proofs.RingLaws.{stops-first}
use Rattle.control_flow.specs.declared.greens.Green.{Green}
use Rattle.control_flow.specs.Timelines.{begin_after, shortest_greens}
use Rattle.control_flow.proofs.MakingLaws.{behind-step, shortest-step}
use Rattle.control_flow.proofs.timelines.add_shortest.Goals as goal

pub loop-phase-preserved-then-not-is_shown : goal.loop-phase-preserved-then-not-is_shown
loop-phase-preserved-then-not-is_shown c =
    let l = c.loop-phase in
    let plan = c.args.plan.now in
    let all : Bool = c.args.all in
    let same = sym (stops-first (λ (k : ℕ). is_unmarked_at plan k || all) l.phase c.args.high false c.loop-phase-test.true (sym c.is_shown.ensures ∙ c.if-not-is_shown.true)) in
    record {
      rows = ap (λ (ks : List ℕ). l.rows.items ++ shortest_greens plan l.from ks) same ∙ l.invariant.rows;
      behind = ap (begin_after plan l.from) same ∙ l.invariant.behind;
      bounds = omega (arith, l.invariant.bounds);
    }

pub loop-phase-preserved : goal.loop-phase-preserved
loop-phase-preserved c =
    let l = c.loop-phase in
    let plan = c.args.plan.now in
    let all : Bool = c.args.all in
    let test : ℕ → Bool = λ k. is_unmarked_at plan k || all in
    let p = c.phase-times in
    let below = c.loop-phase-test.true in
    let shown = sym c.is_shown.ensures ∙ c.if-not-is_shown.false in
    record {
      rows = ap (λ (rows : List Green). rows ++ shortest_greens plan (l.from + p.result.now.least + p.result.now.yellow + p.result.now.clear) (filter test (range_with_len (l.phase + 1) (c.args.high - (l.phase + 1))))) c.in_ok-push.ensures.items
          ∙ shortest-step plan test l.phase c.args.high l.from p.result.now l.rows.items _ below p.ensures.value shown l.invariant.rows;
      behind = behind-step plan test l.phase c.args.high l.from _ p.result.now below p.ensures.value shown l.invariant.behind;
      bounds = omega (arith, l.invariant.bounds, p.ensures.bounds.least, p.ensures.bounds.yellow, p.ensures.bounds.clear);
    }

use Rattle.std.proofs.Common.{◌≡◌, ℕ, List, [], Bool, ap, ◌∙◌, arith}
use Rattle.std.proofs.lemmas.Result.{IfOk-weaker}
use Rattle.phase_plan.specs.Phases.{is_unmarked_at}
use Rattle.phase_plan.proofs.RingLaws.{phase-bounds}
use Rattle.control_flow.specs.declared.greens.Green.{Green}
use Rattle.control_flow.specs.Timelines.{rotation_of, stops_at, turned}
use Rattle.control_flow.proofs.TurningLaws.{none-called}
use Rattle.control_flow.proofs.timelines.rotation.Goals as goal

pub rotation_by_calls-requires-clause-latest : goal.rotation_by_calls-requires-clause-latest
rotation_by_calls-requires-clause-latest c =
    let times = phase-bounds c.args.plan.now c.args.head.now.phase c.law_of_rings.ensures c.requires.head.phase in
    omega (arith, c.earliest_end-earliest.ensures.value, c.requires.head.within, times.greatest)

pub returns-clause-value : goal.returns-clause-value
returns-clause-value c =
    let plan = c.args.plan.now in
    let head = c.args.head.now in
    let until = c.args.until in
    IfOk-weaker c.rotation_by_calls.result (λ (line : List Green). line ≡ turned plan (stops_at plan []) head c.earliest_end-earliest.result until) (λ (line : List Green). line ≡ rotation_of plan head until)
    (λ line is. is ∙ ap (λ (s : ℕ → Bool). turned plan s head c.earliest_end-earliest.result until) (none-called plan) ∙ ap (λ (to : ℕ). turned plan (is_unmarked_at plan) head to until) c.earliest_end-earliest.ensures.value)
    c.rotation_by_calls.ensures.value

-- What the line from a head keeps, and how a line goes on.
use Rattle.std.proofs.Common.{◌≡◌, ℕ, ◌+◌, ◌<◌, ◌≤◌, List, Some, length, sym, ap, subst, ◌∙◌, arith}
use Rattle.std.proofs.lemmas.Bool.{cond_both}
use Rattle.phase_plan.specs.Phases.{IsRing, phase_at}
use Rattle.phase_plan.specs.declared.Phase.{Phase}
use Rattle.phase_plan.proofs.RingLaws.{phase-bounds}
use Rattle.switch_rules.specs.Serving.{IsHead, earliest_end}
use Rattle.switch_rules.specs.declared.Head.{Head}
use Rattle.control_flow.specs.Greens.{BeginBy, IsContinued, end_of, head_at, spliced}
use Rattle.control_flow.specs.Timelines.{first_head, rotation_of, stops_at}
use Rattle.control_flow.specs.declared.greens.Green.{Green}
use Rattle.control_flow.proofs.TurningLaws.{passes-called, turned-by, turned-line}
use Rattle.net_parts.specs.Limits.{most_seconds}
use Rattle.net_parts.specs.Numbers.{Net}
use Rattle.net_parts.specs.Outline.{plan_at}
use Rattle.net_simulator.specs.Flow.{Cumulative}
use Rattle.road_net.specs.Network.{IsNetwork}
use Rattle.signal_safety.proofs.Lines.{plan-is}
use Rattle.signal_safety.proofs.Rounds.{IsLine, IsNext, IsSoonHead, KeepsLine, head-of, rotation-next, spliced-keeps}
use Rattle.actuated.specs.Calls.{act_line, held_until, is_held}
use Rattle.actuated.specs.ActRuns.{IsNextLine}
use Rattle.actuated.specs.ActSteps.{act_step}
use Rattle.actuated.specs.Rounds.{IsRenewed}

-- the green of a head ends within its bounds
pub ends-between : (plan : List Phase) (head : Head) (calls : List ℕ) → IsRing plan → IsHead plan head
    → (earliest_end plan head ≤ held_until plan head calls) × (held_until plan head calls ≤ head.since + (phase_at plan head.phase).greatest)
ends-between plan head calls p h =
    let times = phase-bounds plan head.phase p h.phase in
    let most : ℕ = head.since + (phase_at plan head.phase).greatest in
    let fits : earliest_end plan head ≤ most = omega (arith, h.within, times.greatest) in
    cond_both (is_held calls head.phase) most (earliest_end plan head) (λ to. (earliest_end plan head ≤ to) × (to ≤ most))
    (λ e. (fits, omega arith))
    (λ e. (omega arith, fits))

pub act-next : (plan : List Phase) (head : Head) (calls : List ℕ) (until : ℕ) → IsRing plan → IsSoonHead plan head → until + 20 ≤ 100000 → IsNext plan head (act_line plan head calls until)
act-next plan head calls until p h soon =
    let ends = ends-between plan head calls p h.is in
    let to : ℕ = held_until plan head calls in
    let line = turned-line plan (stops_at plan calls) p (passes-called plan calls) head to until h.is (omega (arith, h.reach)) (omega (arith, ends.0)) ends.1 (omega (arith, ends.0)) in
    record {
      line = record { lawful = line.lawful; begins = turned-by plan (stops_at plan calls) p (passes-called plan calls) head to until 100000 h.is.phase h.since soon };
      goes = line.begin;
    }

module _ (net : Net) (network : IsNetwork net) (node : ℕ) (below : node < length net.node_names) where
  plan : IsRing (plan_at net node)
  plan = plan-is net network node below

  pub first-is-line : IsLine (plan_at net node) (rotation_of (plan_at net node) first_head 0)
  first-is-line =
      let count = plan.count.0 in
      (rotation-next (plan_at net node) first_head 0 plan (record { is = record { phase = omega arith; begun = omega arith; within = omega arith }; since = omega arith; reach = omega arith }) (omega arith)).line

  pub next-keeps : (past : ℕ → ℕ → Cumulative) (n : ℕ) (old new : List Green) → n ≤ most_seconds → IsLine (plan_at net node) old → IsNextLine net past n node old new → KeepsLine (plan_at net node) old n new
  next-keeps past n old new early line next =
      let look = network.outline.run.look.1 in
      let head = head-of (plan_at net node) old n next.head line (omega arith) next.at in
      subst (KeepsLine (plan_at net node) old n) (sym next.is) (spliced-keeps (plan_at net node) old n next.head _ plan line next.at (act-next (plan_at net node) next.head _ (n + net.run.look) plan head (omega arith)))

-- what a node makes of its line
pub renewed : (net : Net) (s node : ℕ) (old next new : List Green) (head : Head) (calls : List ℕ) (until : ℕ)
    → act_step net ≤ net.run.look → head_at (plan_at net node) old s ≡ Some head → next ≡ act_line (plan_at net node) head calls until → until ≡ s + net.run.look
    → new ≡ spliced old next → IsContinued (plan_at net node) old s next new → BeginBy 100000 old → BeginBy 100000 next → until < end_of next
    → IsRenewed net calls s node old new
renewed net s node old next new head calls until within at made soon is continued first more ends = record {
  next = record { head = head; at = at; is = is ∙ ap (spliced old) (made ∙ ap (act_line (plan_at net node) head calls) soon) };
  past = continued.past;
  ready = record { lawful = continued.lawful; begins = continued.begins_by 100000 first more; ahead = omega (arith, continued.end, ends, soon, within) };
}

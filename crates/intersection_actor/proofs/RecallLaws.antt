-- What the phases of a round keep of those of the node.
use Rattle.std.proofs.Common.{◌≡◌, ℕ, List, Option, Some, None, length, refl}
use Rattle.phase_plan.specs.Phases.{IsRing}
use Rattle.switch_rules.specs.Serving.{IsHead}
use Rattle.switch_rules.specs.declared.Head.{Head}
use Rattle.control_flow.specs.Greens.{IsLawful}
use Rattle.control_flow.specs.declared.greens.Green.{Green}
use Rattle.control_flow.proofs.RecallLaws.{head-still, lawful-still, length-recalled, ring-still}
use Rattle.net_parts.specs.Numbers.{Net}
use Rattle.net_parts.specs.Outline.{plan_at}
use Rattle.road_net.specs.declared.senses.Sensed.{Sensed}
use Rattle.intersection_actor.specs.Commits.{is_recalled, plan_by, round_plan}
use Rattle.intersection_actor.specs.Steps.{IsNextLine}

module _ (net : Net) (node : ℕ) (sensed : Sensed) where
  length-by : (o : Option ℕ) → length (plan_by net node sensed o) ≡ length (plan_at net node)
  length-by None = refl
  length-by (Some recall) = length-recalled (plan_at net node) (is_recalled net node sensed recall)

  pub length-round : length (round_plan net node sensed) ≡ length (plan_at net node)
  length-round = length-by net.run.recall

  plan-by : (o : Option ℕ) → IsRing (plan_at net node) → IsRing (plan_by net node sensed o)
  plan-by None p = p
  plan-by (Some recall) p = ring-still (plan_at net node) (is_recalled net node sensed recall) p

  pub plan-round : IsRing (plan_at net node) → IsRing (round_plan net node sensed)
  plan-round = plan-by net.run.recall

  head-by : (o : Option ℕ) (head : Head) → IsHead (plan_at net node) head → IsHead (plan_by net node sensed o) head
  head-by None head h = h
  head-by (Some recall) head h = head-still (plan_at net node) (is_recalled net node sensed recall) head h

  pub head-round : (head : Head) → IsHead (plan_at net node) head → IsHead (round_plan net node sensed) head
  head-round = head-by net.run.recall

  lawful-by : (o : Option ℕ) (rows : List Green) → IsLawful (plan_by net node sensed o) rows → IsLawful (plan_at net node) rows
  lawful-by None rows lawful = lawful
  lawful-by (Some recall) rows lawful = lawful-still (plan_at net node) (is_recalled net node sensed recall) rows lawful

  pub lawful-round : (rows : List Green) → IsLawful (round_plan net node sensed) rows → IsLawful (plan_at net node) rows
  lawful-round = lawful-by net.run.recall

  pub line-still : (head : Head) (until : ℕ) (line : List Green) → IsNextLine (round_plan net node sensed) head until line → IsNextLine (plan_at net node) head until line
  line-still head until line next = record { lawful = lawful-round line next.lawful; goes_on = next.goes_on; begins = next.begins; later = next.later }

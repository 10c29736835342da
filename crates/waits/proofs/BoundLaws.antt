-- No queue waits longer than the bound of its phase, where lines cover a run.
use Rattle.std.proofs.Common.{◌≡◌, ℕ, ◌+◌, ◌<◌, ◌⊎◌, Bool, true, false, cond, ltb, List, length, IfSome, Option, None, Some, Ok, Err, refl, sym, ap, subst, ◌∙◌, inl, inr, arith}
use Rattle.std.specs.Option.{option_map_or}
use Rattle.std.proofs.lemmas.Bool.{cond_below, ltb-true}
use Rattle.std.proofs.lemmas.List.Elements.{All-get_or}
use Rattle.std.proofs.lemmas.Option.{none-some}
use Rattle.foundation.proofs.ResultLaws.{same_Ok}
use Rattle.control_flow.specs.declared.greens.Green.{Green}
use Rattle.net_parts.specs.Numbers.{Net, no_link}
use Rattle.net_parts.specs.Outline.{IsLink, link_at, plan_at}
use Rattle.net_simulator.specs.Flow.{cumulative_under}
use Rattle.net_simulator.specs.Worlds.{signs_by}
use Rattle.phase_plan.specs.Phases.{is_unmarked_at, phase_at}
use Rattle.phase_plan.specs.declared.Phase.{Phase}
use Rattle.road_net.specs.Network.{IsNetwork}
use Rattle.waits.specs.Discharges.{AreEmptied, AreWaitsWithin, AreWholeLines, Discharges, green_bound, longest_wait, recalled_wait, wait_bound, wait_bounds}
use Rattle.waits.specs.declared.bounds.NoBound.TheVariants.{Marked, ShortGreen}
use Rattle.waits.proofs.Emptying.{emptying-law}
use Rattle.waits.proofs.Waiting.{waiting-law}

-- a phase that has this bound
pub record HasBound (plan : List Phase) (intergreen : ℕ → ℕ) (k wait : ℕ) : Type 0 where
  pub unmarked : is_unmarked_at plan k ≡ true
  pub long : (phase_at plan k).loss < (phase_at plan k).least
  pub is : longest_wait plan intergreen k ≡ wait

-- a marked phase that has this bound, as it is recalled within so many seconds
pub record HasRecalledBound (plan : List Phase) (intergreen : ℕ → ℕ) (until_recalled : Option ℕ) (k wait : ℕ) : Type 0 where
  pub seconds : ℕ
  pub until : until_recalled ≡ Some seconds
  pub long : (phase_at plan k).loss < (phase_at plan k).least
  pub is : recalled_wait plan intergreen seconds k ≡ wait

is-long : (plan : List Phase) (k most wait : ℕ) → green_bound plan k most ≡ Ok wait → ((phase_at plan k).loss < (phase_at plan k).least) × (most ≡ wait)
is-long plan k most wait e = by (ltb (phase_at plan k).loss (phase_at plan k).least) refl e
  where
    by : (b : Bool) → ltb (phase_at plan k).loss (phase_at plan k).least ≡ b → cond b (Ok most) (Err ShortGreen) ≡ Ok wait → ((phase_at plan k).loss < (phase_at plan k).least) × (most ≡ wait)
    by true less is = (ltb-true (phase_at plan k).loss (phase_at plan k).least less, same_Ok most wait is)
    by false less is = absurd (cc)

pub has-bound : (plan : List Phase) (intergreen : ℕ → ℕ) (until_recalled : Option ℕ) (k wait : ℕ) → wait_bound plan intergreen until_recalled k ≡ Ok wait
    → HasBound plan intergreen k wait ⊎ HasRecalledBound plan intergreen until_recalled k wait
has-bound plan intergreen until_recalled k wait e = by (is_unmarked_at plan k) refl until_recalled e
  where
    by : (b : Bool) → is_unmarked_at plan k ≡ b → (o : Option ℕ)
        → cond b (green_bound plan k (longest_wait plan intergreen k)) (option_map_or (λ seconds. green_bound plan k (recalled_wait plan intergreen seconds k)) o (Err Marked)) ≡ Ok wait
        → HasBound plan intergreen k wait ⊎ HasRecalledBound plan intergreen o k wait
    by true unmarked o is = (let (long, most) = is-long plan k (longest_wait plan intergreen k) wait is in inl (record { unmarked = unmarked; long = long; is = most }))
    by false marked None is = absurd (cc)
    by false marked (Some seconds) is = (let (long, most) = is-long plan k (recalled_wait plan intergreen seconds k) wait is in inr (record { seconds = seconds; until = refl; long = long; is = most }))

-- and the other way round, whatever recalls
pub bound-is : (plan : List Phase) (intergreen : ℕ → ℕ) (k wait : ℕ) → HasBound plan intergreen k wait → wait_bound plan intergreen None k ≡ Ok wait
bound-is plan intergreen k wait has =
    ap (λ (b : Bool). cond b (green_bound plan k (longest_wait plan intergreen k)) (Err Marked)) has.unmarked
    ∙ sym (cond_below (phase_at plan k).loss (phase_at plan k).least (Ok (longest_wait plan intergreen k)) (Err ShortGreen) has.long)
    ∙ ap Ok has.is

-- the node at the end of a link is one of the network
pub node-inside : (net : Net) → IsNetwork net → (l node : ℕ) → l < length net.link_names → (link_at net l).to ≡ Some node → node < length net.node_names
node-inside net network l node inside ends =
    let link : IsLink (length net.node_names) (link_at net l) = All-get_or (IsLink (length net.node_names)) net.links l no_link (let f = network.outline.road_count in omega (arith, f, inside)) network.outline.links in
    subst (λ (o : Option ℕ). IfSome o (λ n. n < length net.node_names)) ends link.to

module _ (net : Net) (network : IsNetwork net) (arriving : ℕ → ℕ → ℕ) (lines : ℕ → List Green) (intergreens : ℕ → ℕ → ℕ) (end : ℕ)
    (covers : AreWholeLines net intergreens end lines) where
  pub waits-within : AreWaitsWithin net (wait_bounds net intergreens) (cumulative_under net arriving (signs_by lines) end) end
  waits-within l node wait n inside ends plain bound room stands =
      let line = covers node (node-inside net network l node inside ends) in
      elim (has-bound (plan_at net node) (intergreens node) None (link_at net l).phase wait bound) [
        | inl has ↦
            subst (λ (w : ℕ). Discharges (cumulative_under net arriving (signs_by lines) end) l n (n + w)) has.is
            (waiting-law net network arriving lines (intergreens node) l node end n inside ends plain has.unmarked has.long line.lawful line.intergreens (omega (arith, line.begins)) (omega (arith, room, has.is)) line.ends stands)
        | inr has ↦ absurd (none-some has.seconds has.until)
      ]

  pub empties : AreEmptied net intergreens (cumulative_under net arriving (signs_by lines) end) end
  empties l node n greens inside ends plain unmarked room =
      let line = covers node (node-inside net network l node inside ends) in
      emptying-law net network arriving lines (intergreens node) l node end n greens inside ends plain unmarked line.lawful line.intergreens (omega (arith, line.begins)) room line.ends

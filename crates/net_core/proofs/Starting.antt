-- The parts of a run before the first round.
use Rattle.std.proofs.Common.{◌≡◌, ℕ, ◌<◌, List, [], Some, None, length, refl, sym, ap, ◌∙◌, inl, inr, arith}
use Rattle.std.proofs.lemmas.Bool.{cases_lt}
use Rattle.std.proofs.lemmas.List.{get_or_past}
use Rattle.arrivals.specs.Amounts.{Amounts, arriving_of}
use Rattle.histories.specs.Histories.{version_at}
use Rattle.histories.specs.Steps.{board_steps}
use Rattle.intersection_actor.specs.Acting.{Acting}
use Rattle.intersection_actor.specs.declared.records.PlanRecord.{PlanRecord}
use Rattle.net_parts.specs.Numbers.{Net, no_link}
use Rattle.net_parts.specs.Outline.{link_at}
use Rattle.net_parts.specs.declared.roads.Link.{Link}
use Rattle.net_simulator.specs.Worlds.{WorldState, Stands}
use Rattle.road_net.specs.Network.{IsNetwork}
use Rattle.runs.specs.Runs.{forecast_at, shown_by}
use Rattle.runs.specs.Resting.{AreNew}
use Rattle.runs.proofs.Resting.{new-rest, no_commitment, zero-times}
use Rattle.net_core.specs.States.{AreBlank, Between}
use Rattle.net_core.specs.declared.parts.Board.{Board}
use Rattle.control_flow.specs.declared.greens.Sign.{Sign}

-- a link that ends at a node exists
link-there : (net : Net) (l t : ℕ) → (link_at net l).to ≡ Some t → l < length net.links
link-there net l t to = elim (cases_lt l (length net.links)) [
  | inl inside ↦ inside
  | inr past ↦ absurd (let e : None ≡ Some t = sym (ap (λ (k : Link). k.to) (get_or_past net.links l no_link past)) ∙ to in cc)
]

pub at-first : (net : Net) → IsNetwork net → (arrivals : Amounts) (history : List ℕ) (actors : List Acting) (boards : List Board) (world : WorldState) (plans : List PlanRecord) → history ≡ [] → AreNew net (length net.node_names) actors → AreBlank (length net.link_names) boards
    → world.second ≡ 0 → ((arriving : ℕ → ℕ → ℕ) (shown : ℕ → ℕ → Sign) → Stands net arriving shown world) → plans ≡ [] → Between net arrivals history 0 actors boards world plans
at-first net network arrivals history actors boards world plans none new blank second stands unplanned = record {
  heard = λ r n. [];
  made = λ r n. no_commitment;
  rounds_done = none;
  most = omega arith;
  running = record {
    commits = λ r n less below. absurd (omega arith);
    along = λ place link inside step. absurd (let e : length history ≡ 0 = ap length none in omega arith);
    boards_are = record {
      all = blank.all;
      versions = λ link f t d from to. blank.versions link d (there link t to) ∙ sym (no-version link);
      forecasts = λ link f t d from to. blank.forecasts link d (there link t to) ∙ sym (no-forecast link);
    };
    second = second ∙ zero-times net.run.step;
    stands = stands (arriving_of arrivals) (shown_by net (λ r n. no_commitment));
    planned = unplanned;
  };
  all = new.all;
  fresh = λ later n most. refl;
  rests = λ n d below. new-rest net (λ r m. no_commitment) actors (length net.node_names) n d new below;
}
  where
    there : (link t : ℕ) → (link_at net link).to ≡ Some t → link < length net.link_names
    there link t to = omega (arith, link-there net link t to, network.outline.road_count)

    no-version : (link : ℕ) → version_at (board_steps net) history link (length history) ≡ 0
    no-version link = ap (version_at (board_steps net) history link) (ap length none)

    no-forecast : (link : ℕ) → forecast_at net (λ r n. no_commitment) link (version_at (board_steps net) history link (length history)) ≡ []
    no-forecast link = ap (forecast_at net (λ r n. no_commitment) link) (no-version link)

-- one more board
pub blank-none : (boards : List Board) → boards ≡ [] → AreBlank 0 boards
blank-none boards none = record { all = ap length none; versions = λ k d less. absurd (omega arith); forecasts = λ k d less. absurd (omega arith) }

-- Actors that rest, the new ones among them, and the world that moves by their lines.
use Rattle.std.proofs.Common.{◌≡◌, ℕ, ◌+◌, ◌*◌, ◌<◌, ◌≤◌, false, List, [], ◌∷◌, ◌++◌, length, get_or, sym, ap, subst, ◌∙◌, inl, inr, arith}
use Rattle.std.proofs.lemmas.Bool.{cases_lt}
use Rattle.std.proofs.lemmas.List.{get_or_append_left, get_or_push, length_push}
use Rattle.std.proofs.lemmas.Nat.{div_below}
use Rattle.board_model.specs.declared.boards.Heard.{Heard}
use Rattle.control_flow.specs.Greens.{end_of}
use Rattle.control_flow.specs.Signs.{sign_at}
use Rattle.intersection_actor.specs.Acting.{Acting}
use Rattle.intersection_actor.specs.Commits.{Commitment}
use Rattle.intersection_actor.specs.Rounds.{IsNew, IsOf}
use Rattle.intersection_actor.specs.declared.records.Want.TheVariants.{Done}
use Rattle.net_parts.specs.Numbers.{Net}
use Rattle.net_simulator.specs.Flow.{Cumulative, cumulative_under}
use Rattle.net_simulator.specs.Senses.{sense}
use Rattle.net_simulator.specs.Worlds.{WorldState, Stands, signs_by}
use Rattle.road_net.specs.Network.{IsNetwork}
use Rattle.signal_safety.proofs.Rounds.{shows}
use Rattle.runs.specs.Runs.{AllCommit, line_before, sensed_in, shown_by}
use Rattle.runs.proofs.Keep.{all-keep}
use Rattle.net_simulator.proofs.AtNodes.{past-at-nodes, stands-at-nodes}
use Rattle.schedule_meaning.specs.declared.planners.Answer.TheVariants.{NoPlan}
use Rattle.runs.specs.Resting.{AreNew, Rests}

-- some actor, and some commit, where there is none
abbrev pub no_acting : Acting
no_acting = record { node = 0; line = []; records = []; want = Done; round = 0; left = []; sensed = record { now = 0; links = [] }; heard = []; window = record { lists = []; waiting = 0 }; phases = []; served = [] }

abbrev pub no_commitment : Commitment
no_commitment = record {
  head = record { phase = 0; since = 0; at = 0; fresh = false };
  platoons = [];
  window = record { lists = []; waiting = 0 };
  problem = record { plan = []; head = record { phase = 0; since = 0; at = 0; fresh = false }; lists = [] };
  answer = NoPlan;
  served = [];
  next = [];
  line = [];
}

-- the lines before a round show what the world moved by
module _ (net : Net) (network : IsNetwork net) (arriving : ℕ → ℕ → ℕ) (round : ℕ) (heard : ℕ → ℕ → List Heard) (made : ℕ → ℕ → Commitment) (most : round ≤ net.run.rounds) (commits : AllCommit net arriving heard made round) where
  pub before-shows : (x node : ℕ) → x < round * net.run.step → node < length net.node_names → sign_at (line_before net made round node) x ≡ shown_by net made x node
  before-shows x node less below = shows net network (line_before net made) round (all-keep net network arriving heard made round most commits) round (omega arith) x node below (div_below x net.run.step round network.outline.run.step.0 less)

  pub before-stands : (world : WorldState) → world.second ≡ round * net.run.step → Stands net arriving (shown_by net made) world → Stands net arriving (signs_by (line_before net made round)) world
  before-stands world second stands = stands-at-nodes net network arriving (shown_by net made) (signs_by (line_before net made round)) world
      (λ x node less below. sym (before-shows x node (omega (arith, second)) below)) stands

  -- what a node senses of such a world
  pub sense-is : (world : WorldState) → world.second ≡ round * net.run.step → (n : ℕ)
      → sense net (cumulative_under net arriving (signs_by (line_before net made round)) world.second) world.second n ≡ sensed_in net arriving made round n
  sense-is world second n =
      ap (λ s. sense net (cumulative_under net arriving (signs_by (line_before net made round)) s) s n) second
      ∙ ap (λ (p : ℕ → ℕ → Cumulative). sense net p (round * net.run.step) n) (past-at-nodes net network arriving (signs_by (line_before net made round)) (shown_by net made) (round * net.run.step) (λ x node less below. before-shows x node less below))

pub zero-times : (s : ℕ) → 0 ≡ 0 * s
zero-times s = omega arith

-- new actors rest before the first round
pub new-rest : (net : Net) (made : ℕ → ℕ → Commitment) (actors : List Acting) (nodes n : ℕ) (a : Acting) → AreNew net nodes actors → n < nodes → Rests net made 0 n (get_or actors n a)
new-rest net made actors nodes n a new below =
    let is = new.new n a below in
    record {
      node_is = is.node;
      of = new.of n a below;
      want = is.want;
      line = is.line;
      ahead = (let P : ℕ → Type 0 = λ z. z < end_of (get_or actors n a).line in subst P (zero-times net.run.step) is.ahead);
      records = is.records;
    }

-- one more actor
pub new-none : (net : Net) (actors : List Acting) → actors ≡ [] → AreNew net 0 actors
new-none net actors none = record { all = ap length none; new = λ k d less. absurd (omega arith); of = λ k d less. absurd (omega arith) }

pub new-more : (net : Net) (n : ℕ) (actors : List Acting) (a : Acting) → AreNew net n actors → IsNew net n a → IsOf net a → AreNew net (n + 1) (actors ++ a ∷ [])
new-more net n actors a were new of = record {
  all = length_push actors a ∙ ap (λ k. k + 1) were.all;
  new = λ k d less. elim (cases_lt k n) [
    | inl before ↦ subst (IsNew net k) (sym (get_or_append_left actors (a ∷ []) d k (omega (arith, were.all)))) (were.new k d before)
    | inr at ↦ (let e : k ≡ n = omega arith in subst (λ m. IsNew net m (get_or (actors ++ a ∷ []) m d)) (sym e) (subst (IsNew net n) (sym (get_or_push actors a d n were.all)) new))
  ];
  of = λ k d less. elim (cases_lt k n) [
    | inl before ↦ subst (IsOf net) (sym (get_or_append_left actors (a ∷ []) d k (omega (arith, were.all)))) (were.of k d before)
    | inr at ↦ (let e : k ≡ n = omega arith in subst (λ m. IsOf net (get_or (actors ++ a ∷ []) m d)) (sym e) (subst (IsOf net) (sym (get_or_push actors a d n were.all)) of))
  ];
}

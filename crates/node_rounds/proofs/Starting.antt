-- Before the first round.
use Rattle.std.proofs.Common.{◌≡◌, ℕ, ◌-◌, ◌*◌, ◌<◌, ◌≤◌, List, [], All, length, get_or, vec_capacity, sym, subst, ◌∙◌, inl, inr, arith}
use Rattle.std.specs.Global.{Vec}
use Rattle.std.proofs.lemmas.Bool.{cases_lt}
use Rattle.std.proofs.lemmas.List.Elements.{All-nil}
use Rattle.arrivals.specs.Amounts.{Amounts, arriving_of}
use Rattle.board_model.specs.declared.calls.Call.{Call}
use Rattle.link_boards.specs.Passes.{AreAllPasses, BoardsView, PassView, calls_in}
use Rattle.histories.specs.Steps.{board_steps}
use Rattle.histories.proofs.Lists.{pairs-nil}
use Rattle.intersection_actor.specs.Acting.{Acting}
use Rattle.intersection_actor.specs.declared.records.PlanRecord.{PlanRecord}
use Rattle.histories.specs.Calls.{IsRising}
use Rattle.net_parts.specs.Numbers.{Net}
use Rattle.net_simulator.specs.Worlds.{WorldState, Stands}
use Rattle.runs.specs.Runs.{shown_by}
use Rattle.runs.specs.Resting.{AreNew}
use Rattle.node_rounds.specs.Rounds.{Between}
use Rattle.node_rounds.proofs.Passes.{calls-at, calls-past, no_pass}
use Rattle.runs.proofs.Resting.{new-rest, no_commitment, zero-times}
use Rattle.control_flow.specs.declared.greens.Sign.{Sign}

-- passes without a call have none
no-calls : (boards : BoardsView) (passes : List PassView) → All (λ (p : PassView). p.calls ≡ []) passes → (n : ℕ) → calls_in passes n ≡ []
no-calls boards passes none n = elim (cases_lt n (length passes)) [
  | inl inside ↦ calls-at passes n (no_pass boards) inside ∙ none n (no_pass boards) inside
  | inr past ↦ calls-past passes n past
]

pub at-first : (net : Net) (arrivals : Amounts) (boards : BoardsView) (passes : List PassView) (actors : List Acting) (world : WorldState) → AreNew net (length net.node_names) actors → world.second ≡ 0
    → ((arriving : ℕ → ℕ → ℕ) (shown : ℕ → ℕ → Sign) → Stands net arriving shown world) → length passes ≡ length net.node_names → AreAllPasses boards passes → All (λ (p : PassView). p.calls ≡ []) passes
    → ((node : ℕ) (p : PassView) → node < length net.node_names → net.run.rounds * length (board_steps net node) ≤ (get_or passes node p).left) → (plans : Vec PlanRecord) → plans.items ≡ [] → net.run.rounds * length net.node_names ≤ vec_capacity plans
    → Between net arrivals boards 0 passes actors world plans
at-first net arrivals boards passes actors world new second stands all own none left plans unplanned capacity = record {
  heard = λ r n. [];
  made = λ r n. no_commitment;
  mark = 0;
  most = omega arith;
  commits = λ r n less below. absurd (omega arith);
  second = second ∙ zero-times net.run.step;
  stands = stands (arriving_of arrivals) (shown_by net (λ r n. no_commitment));
  all = new.all;
  rests = λ n a below. new-rest net (λ r m. no_commitment) actors (length net.node_names) n a new below;
  planned = record { done = unplanned; capacity = capacity };
  own = record { all = all; own = own; left = λ n p below. (let P : ℕ → Type 0 = λ r. r * length (board_steps net n) ≤ (get_or passes n p).left in subst P (let e : net.run.rounds ≡ net.run.rounds - 0 = omega arith in e) (left n p below)); known = λ n p below. omega arith };
  calls = no-calls boards passes none;
  rising = λ n. subst IsRising (sym (no-calls boards passes none n)) (pairs-nil (λ (early late : Call). early.stamp < late.stamp));
  below = λ n. subst (All (λ (c : Call). c.stamp < 0)) (sym (no-calls boards passes none n)) (All-nil _);
}

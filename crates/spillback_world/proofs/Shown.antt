-- What passes the links depends only on what the signals show before.
use Rattle.std.proofs.Common.{◌≡◌, ℕ, zero, suc, ◌<◌, ◌-◌, Bool, cond, min, List, [], ◌∷◌, ◌++◌, Option, Some, None, length, slice_index, refl, ap, subst, ◌∙◌}
use Rattle.net_parts.specs.Numbers.{Net}
use Rattle.net_parts.specs.Outline.{link_at, turns_at}
use Rattle.road_net.specs.Network.{IsNetwork}
use Rattle.net_simulator.specs.Flow.{Cumulative, passed_in, waiting, may_go, rate}
use Rattle.net_simulator.specs.Moves.{history_by}
use Rattle.net_simulator.specs.Senses.{stood}
use Rattle.net_simulator.specs.Worlds.{Keeps}
use Rattle.net_simulator.proofs.AtNodes.{alike-at-nodes}
use Rattle.net_simulator.proofs.LightLaws.{AreAlike, alike-shown, are-shown-same, may-same, rate-same}
use Rattle.net_simulator.proofs.MoveLaws.{MoveAlike, by-same}
use Rattle.spillback_world.specs.Filling.{fitting}
use Rattle.spillback_world.specs.StoredTotals.{stored_totals}
use Rattle.spillback_world.specs.Storage.{all_goes, goes_of, held_by, let_in, next_goes, opening, outside, cumulative_in, stored_moves}
use Rattle.spillback_world.specs.Worlds.{SpillState, Stands}
use Rattle.control_flow.specs.declared.greens.Sign.{Sign}

module _ (net : Net) (store : ℕ → ℕ) (one other : ℕ → ℕ → Sign) (n : ℕ) (alike : AreAlike net n one other) (past : ℕ → ℕ → Cumulative) (x : ℕ) (early : x < n) where
  next-same : (goes : List ℕ) (l : ℕ) (to : Option ℕ) → (link_at net l).to ≡ to → next_goes net store (opening net one past x) goes l to ≡ next_goes net store (opening net other past x) goes l to
  next-same goes l None to = refl
  next-same goes l (Some node) to =
      let rates : cond (may_go net one past x l node) (rate net one past x l) 0 ≡ cond (may_go net other past x l node) (rate net other past x l) 0 =
      ap (λ (b : Bool). cond b (rate net one past x l) 0) (may-same net n one other alike past x l node early to) ∙ ap (λ a. cond (may_go net other past x l node) a 0) (rate-same net n one other alike past x l early) in
      ap (λ r. fitting (turns_at net l) (λ e. store e - held_by net (opening net one past x) goes e) (min r (waiting net past x l))) rates

  goes-same : (m : ℕ) → goes_of net store one past x m ≡ goes_of net store other past x m
  unfolding all_goes
  goes-same zero = refl
  goes-same (suc l) =
      ap (λ (g : List ℕ). g ++ next_goes net store (opening net one past x) g l (link_at net l).to ∷ []) (goes-same l)
      ∙ ap (λ a. goes_of net store other past x l ++ a ∷ []) (next-same (goes_of net store other past x l) l (link_at net l).to refl)

  pub moves-same : (arriving : ℕ → ℕ → ℕ) → MoveAlike net (record { goes = slice_index (goes_of net store one past x (length net.link_names)); comes = let_in net arriving store one past x (goes_of net store one past x (length net.link_names)) })
      (record { goes = slice_index (goes_of net store other past x (length net.link_names)); comes = let_in net arriving store other past x (goes_of net store other past x (length net.link_names)) })
  moves-same arriving = record {
    goes = λ l inside. ap (λ g. slice_index g l) (goes-same (length net.link_names));
    comes = λ l inside. ap (λ g. let_in net arriving store one past x g l) (goes-same (length net.link_names));
  }

module _ (net : Net) (arriving : ℕ → ℕ → ℕ) (store : ℕ → ℕ) (shown seen : ℕ → ℕ → Sign) (n : ℕ) where
  -- signs under which the links are green alike move the world alike
  pub past-alike : AreAlike net n shown seen → cumulative_in net arriving store shown n ≡ cumulative_in net arriving store seen n
  past-alike alike =
      ap passed_in (by-same net (stored_moves net arriving store shown) (stored_moves net arriving store seen) n (λ x less. moves-same net store shown seen n alike (passed_in (history_by net (stored_moves net arriving store seen) x)) x less arriving))

  pub past-same : ((x node : ℕ) → x < n → shown x node ≡ seen x node) → cumulative_in net arriving store shown n ≡ cumulative_in net arriving store seen n
  past-same same = past-alike (alike-shown net n shown seen (λ x l node less to. same x node less))

-- a timeline counts only by what it shows in the seconds below the world's
pub stands-under : (net : Net) (arriving : ℕ → ℕ → ℕ) (store : ℕ → ℕ) (shown seen : ℕ → ℕ → Sign) (w : SpillState) → ((x node : ℕ) → x < w.second → shown x node ≡ seen x node) → Stands net arriving store shown w → Stands net arriving store seen w
stands-under net arriving store shown seen w same stands =
    let alike = alike-shown net w.second shown seen (λ x l node less to. same x node less) in
    let e : cumulative_in net arriving store shown w.second ≡ cumulative_in net arriving store seen w.second = past-alike net arriving store shown seen w.second alike in
    record {
      shape = stands.shape;
      by = stands.by;
      keeps = subst (λ (p : ℕ → ℕ → Cumulative). Keeps net p w.queues w.recent w.waits w.second) e stands.keeps;
      held = λ l h. subst (λ (p : ℕ → ℕ → Cumulative). slice_index w.held l ≡ (p w.second l).entered - (p w.second l).left) e (stands.held l h);
      totals = subst (λ (p : ℕ → ℕ → Cumulative). w.totals ≡ stored_totals net arriving p w.second) e stands.totals;
      stood = λ l h. subst (λ (p : ℕ → ℕ → Cumulative). slice_index w.stood l ≡ stood net p w.second l) e (stands.stood l h);
      outside = λ l h. subst (λ (p : ℕ → ℕ → Cumulative). slice_index w.outside l ≡ outside arriving p w.second l) e (stands.outside l h);
      lights = are-shown-same net w.second shown seen w.signs w.since alike (λ x node less below. same x node less) stands.lights;
    }

-- only what the nodes of the network show counts
pub past-at-nodes : (net : Net) → IsNetwork net → (arriving : ℕ → ℕ → ℕ) (store : ℕ → ℕ) (shown seen : ℕ → ℕ → Sign) (n : ℕ) → ((x node : ℕ) → x < n → node < length net.node_names → shown x node ≡ seen x node)
    → cumulative_in net arriving store shown n ≡ cumulative_in net arriving store seen n
past-at-nodes net network arriving store shown seen n same = past-alike net arriving store shown seen n (alike-at-nodes net network shown seen n same)

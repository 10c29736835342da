-- What a round's commits rest on: those of the rounds before.
use Rattle.std.proofs.Common.{◌≡◌, ℕ, zero, suc, ◌*◌, ◌/◌, ◌<◌, length, refl, ap, subst, arith}
use Rattle.std.proofs.lemmas.Nat.{div_below}
use Rattle.board_model.specs.declared.boards.Heard.{Heard}
use Rattle.clusters.specs.Inflow.{IsHeardOf}
use Rattle.control_flow.specs.Signs.{sign_at}
use Rattle.control_flow.specs.declared.greens.Green.{Green}
use Rattle.intersection_actor.specs.Commits.{Commitment, IsCommit}
use Rattle.net_parts.specs.Numbers.{Net}
use Rattle.net_simulator.specs.Flow.{Cumulative}
use Rattle.net_simulator.specs.Senses.{sense}
use Rattle.road_net.specs.Network.{IsNetwork}
use Rattle.road_net.specs.declared.senses.Sensed.{Sensed}
use Rattle.std.specs.Prelude.{List}
use Rattle.runs.specs.Runs.{Commits, line_before, cumulative_by, sensed_in, shown_by}
use Rattle.net_simulator.proofs.AtNodes.{past-at-nodes}

module _ (net : Net) (network : IsNetwork net) (arriving : ℕ → ℕ → ℕ) (made other : ℕ → ℕ → Commitment) where
  -- the commits before a round are the same
  abbrev pub SameBefore : ℕ → Type 0
  SameBefore r = (s n : ℕ) → s < r → n < length net.node_names → made s n ≡ other s n

  pub lines-same : (r n : ℕ) → SameBefore r → n < length net.node_names → line_before net made r n ≡ line_before net other r n
  lines-same zero n before below = refl
  lines-same (suc r) n before below = ap (λ (c : Commitment). c.line) (before r n (omega arith) below)

  pub past-same : (r : ℕ) → SameBefore r → cumulative_by net arriving made (r * net.run.step) ≡ cumulative_by net arriving other (r * net.run.step)
  past-same r before = past-at-nodes net network arriving (shown_by net made) (shown_by net other) (r * net.run.step) (λ x n less below. ap (λ (c : Commitment). sign_at c.line x) (before (x / net.run.step) n (div_below x net.run.step r network.outline.run.step.0 less) below))

  pub sensed-same : (r n : ℕ) → SameBefore r → sensed_in net arriving made r n ≡ sensed_in net arriving other r n
  sensed-same r n before = ap (λ (p : ℕ → ℕ → Cumulative). sense net p (r * net.run.step) n) (past-same r before)

  -- a commit that is made from the one is made from the other
  pub commit-moved : (r n : ℕ) (heard seen : List Heard) (c : Commitment) → SameBefore r → n < length net.node_names → heard ≡ seen
      → IsCommit net n r (line_before net made r n) (sensed_in net arriving made r n) heard c → IsCommit net n r (line_before net other r n) (sensed_in net arriving other r n) seen c
  commit-moved r n heard seen c before below same is =
      subst (λ (l : List Green). IsCommit net n r l (sensed_in net arriving other r n) seen c) (lines-same r n before below)
      (subst (λ (s : Sensed). IsCommit net n r (line_before net made r n) s seen c) (sensed-same r n before)
      (subst (λ (k : List Heard). IsCommit net n r (line_before net made r n) (sensed_in net arriving made r n) k c) same is))

  pub commits-moved : (heard seen : ℕ → ℕ → List Heard) (r n : ℕ) → SameBefore r → n < length net.node_names → heard r n ≡ seen r n → made r n ≡ other r n
      → Commits net arriving heard made r n → Commits net arriving seen other r n
  commits-moved heard seen r n before below same own is = record {
    links = subst (IsHeardOf net n) same is.links;
    commit = subst (IsCommit net n r (line_before net other r n) (sensed_in net arriving other r n) (seen r n)) own (commit-moved r n (heard r n) (seen r n) (made r n) before below same is.commit);
  }

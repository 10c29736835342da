-- Chains of rounds, whoever decides in them: where each round that begins as the run's tells what the run's makes, all rounds do.
use Rattle.std.proofs.Common.{◌≡◌, ℕ, zero, suc, ◌+◌, ◌*◌, ◌/◌, ◌<◌, ◌≤◌, List, Some, length, sym, ap, subst, ◌∙◌, inl, inr, arith}
use Rattle.std.proofs.lemmas.Bool.{cases_lt}
use Rattle.std.proofs.lemmas.Nat.{div-add-mod', div_below}
use Rattle.board_model.specs.declared.boards.Heard.{Heard}
use Rattle.control_flow.specs.Timelines.{first_head, rotation_of}
use Rattle.control_flow.specs.declared.greens.Green.{Green}
use Rattle.intersection_actor.specs.Commits.{Commitment}
use Rattle.net_parts.specs.Numbers.{Net}
use Rattle.net_parts.specs.Outline.{link_at, plan_at}
use Rattle.net_simulator.specs.Flow.{Cumulative, cumulative_under}
use Rattle.net_simulator.specs.Senses.{sense}
use Rattle.net_simulator.proofs.AtNodes.{past-at-nodes}
use Rattle.road_net.specs.Network.{IsNetwork}
use Rattle.road_net.specs.declared.senses.Sensed.{Sensed}
use Rattle.round_states.specs.States.{begin_of}
use Rattle.round_states.specs.declared.states.LinkBoard.{LinkBoard}
use Rattle.runs.specs.Runs.{AllCommit, cumulative_by, line_before, sensed_in, shown_by}
use Rattle.round_decisions.specs.Chains.{shown_in}
use Rattle.round_decisions.specs.OfRuns.{board_in}
use Rattle.round_decisions.specs.OwnTurns.{IsEnd}
use Rattle.round_decisions.specs.Turns.{no_board}
use Rattle.round_decisions.proofs.CommitLaws.{ordered}
use Rattle.round_decisions.proofs.LeftLaws.{IsLeft, left-all, left-later, left-signs}

-- A node begins a round as in a run: what it senses, what is left of its line, and the boards of the links between it and others.
pub record Begins (net : Net) (arriving : ℕ → ℕ → ℕ) (made : ℕ → ℕ → Commitment) (round node : ℕ) (sensed : Sensed) (line : List Green) (boards : ℕ → LinkBoard) : Type 0 where
  pub senses : sensed ≡ sensed_in net arriving made round node
  pub left : IsLeft (begin_of net round) (line_before net made round node) line
  pub has : (link from to : ℕ) → (link_at net link).from ≡ Some from → (link_at net link).to ≡ Some to → IsEnd node from to
      → boards link ≡ board_in net made link round

-- A round tells what a run's round makes: what is left of each line, and of each link between two nodes the next version.
pub record Tells (net : Net) (made : ℕ → ℕ → Commitment) (round : ℕ) (rows : ℕ → List Green) (boards : ℕ → LinkBoard) : Type 0 where
  pub left : (node : ℕ) → node < length net.node_names → IsLeft (begin_of net round) (made round node).line (rows node)
  pub next : (link from to : ℕ) → (link_at net link).from ≡ Some from → (link_at net link).to ≡ Some to
      → boards link ≡ board_in net made link (round + 1)

-- Each round goes on from what the one before it told: `rows` and `boards` are told, and a node has `sensed`, `line` and `had` as a round begins.
pub record Follow (net : Net) (arriving : ℕ → ℕ → ℕ) (rows : ℕ → ℕ → List Green) (boards : ℕ → ℕ → LinkBoard) (sensed : ℕ → ℕ → Sensed) (line : ℕ → ℕ → List Green) (had : ℕ → ℕ → ℕ → LinkBoard) : Type 0 where
  pub senses : (r n : ℕ) → r < net.run.rounds → n < length net.node_names → sensed r n ≡ sense net (cumulative_under net arriving (shown_in net rows) (begin_of net r)) (begin_of net r) n
  pub first_lines : (n : ℕ) → n < length net.node_names → line 0 n ≡ rotation_of (plan_at net n) first_head 0
  pub lines : (r n : ℕ) → r + 1 < net.run.rounds → n < length net.node_names → line (r + 1) n ≡ rows r n
  pub first_boards : (link from to n : ℕ) → (link_at net link).from ≡ Some from → (link_at net link).to ≡ Some to → IsEnd n from to → had 0 n link ≡ no_board
  pub next_boards : (r link from to n : ℕ) → r + 1 < net.run.rounds → (link_at net link).from ≡ Some from → (link_at net link).to ≡ Some to → IsEnd n from to → had (r + 1) n link ≡ boards r link

module _ (net : Net) (network : IsNetwork net) (arriving : ℕ → ℕ → ℕ) (heard : ℕ → ℕ → List Heard) (made : ℕ → ℕ → Commitment) (rounds : ℕ) (commits : AllCommit net arriving heard made rounds) (few : rounds ≤ net.run.rounds)
    (rows : ℕ → ℕ → List Green) (boards : ℕ → ℕ → LinkBoard) (sensed : ℕ → ℕ → Sensed) (line : ℕ → ℕ → List Green) (had : ℕ → ℕ → ℕ → LinkBoard) (follow : Follow net arriving rows boards sensed line had)
    (step : (r : ℕ) → r < rounds → ((n : ℕ) → n < length net.node_names → Begins net arriving made r n (sensed r n) (line r n) (had r n)) → Tells net made r (rows r) (boards r)) where
  -- the rounds before one tell theirs
  abbrev AreTold : ℕ → Type 0
  AreTold r = (q : ℕ) → q < r → Tells net made q (rows q) (boards q)

  signs : (r : ℕ) → r ≤ rounds → AreTold r → (x n : ℕ) → x < r * net.run.step → n < length net.node_names → shown_in net rows x n ≡ shown_by net made x n
  signs r most before x n less below =
      let early : x / net.run.step < r = div_below x net.run.step r network.outline.run.step.0 less in
      sym (left-signs (begin_of net (x / net.run.step)) (made (x / net.run.step) n).line (rows (x / net.run.step) n) ((before (x / net.run.step) early).left n below)
      (ordered net arriving heard made rounds commits network few (suc (x / net.run.step)) n (omega (arith, early, most)) below) x (let e = div-add-mod' x net.run.step in omega (arith, e)))

  past : (r : ℕ) → r ≤ rounds → AreTold r → cumulative_under net arriving (shown_in net rows) (r * net.run.step) ≡ cumulative_by net arriving made (r * net.run.step)
  past r most before = past-at-nodes net network arriving (shown_in net rows) (shown_by net made) (r * net.run.step) (signs r most before)

  lines-at : (r : ℕ) → r < net.run.rounds → AreTold r → (n : ℕ) → n < length net.node_names → IsLeft (begin_of net r) (line_before net made r n) (line r n)
  lines-at zero less before n below = subst (IsLeft (begin_of net zero) (line_before net made zero n)) (sym (follow.first_lines n below)) (left-all (begin_of net zero) (line_before net made zero n))
  lines-at (suc q) less before n below =
      let next : q + 1 ≡ suc q = omega arith in
      let more : suc q * net.run.step ≡ q * net.run.step + net.run.step = omega arith in
      subst (λ k. IsLeft (begin_of net (suc q)) (made q n).line (line k n)) next
      (subst (IsLeft (begin_of net (suc q)) (made q n).line) (sym (follow.lines q n (omega arith) below))
      (left-later (begin_of net q) (begin_of net (suc q)) (made q n).line (rows q n) (omega (arith, more)) ((before q (omega arith)).left n below)))

  boards-at : (r : ℕ) → r < net.run.rounds → AreTold r → (n link from to : ℕ) → (link_at net link).from ≡ Some from → (link_at net link).to ≡ Some to → IsEnd n from to
      → had r n link ≡ board_in net made link r
  boards-at zero less before n link from to comes goes end = follow.first_boards link from to n comes goes end
  boards-at (suc q) less before n link from to comes goes end =
      let next : q + 1 ≡ suc q = omega arith in
      subst (λ k. had k n link ≡ board_in net made link k) next
      (follow.next_boards q link from to n (omega arith) comes goes end ∙ (before q (omega arith)).next link from to comes goes)

  begins-at : (r : ℕ) → r ≤ rounds → r < net.run.rounds → AreTold r → (n : ℕ) → n < length net.node_names → Begins net arriving made r n (sensed r n) (line r n) (had r n)
  begins-at r most less before n below = record {
    senses = follow.senses r n less below ∙ ap (λ (p : ℕ → ℕ → Cumulative). sense net p (r * net.run.step) n) (past r most before);
    left = lines-at r less before n below;
    has = boards-at r less before n;
  }

  all-told : (r : ℕ) → r ≤ rounds → AreTold r
  all-told zero most q less = absurd (omega arith)
  all-told (suc r) most q less = elim (cases_lt q r) [
    | inl before ↦ all-told r (omega arith) q before
    | inr last ↦ subst (λ k. Tells net made k (rows k) (boards k)) (let e : r ≡ q = omega arith in e) (step r (omega arith) (begins-at r (omega arith) (omega (arith, most, few)) (all-told r (omega arith))))
  ]

  -- each round begins as in the run, the one after the first rounds too
  pub all-begin : (r : ℕ) → r ≤ rounds → r < net.run.rounds → (n : ℕ) → n < length net.node_names → Begins net arriving made r n (sensed r n) (line r n) (had r n)
  all-begin r most less = begins-at r most less (all-told r most)

  -- and by their end the same has passed the links
  pub all-passed : cumulative_under net arriving (shown_in net rows) (rounds * net.run.step) ≡ cumulative_by net arriving made (rounds * net.run.step)
  all-passed = past rounds (omega arith) (all-told rounds (omega arith))

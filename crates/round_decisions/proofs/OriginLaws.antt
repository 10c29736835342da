-- A decision from a state that is moved by some rounds.
use Rattle.std.proofs.Common.{◌≡◌, ℕ, zero, suc, ◌+◌, ◌*◌, ◌<◌, ◌≤◌, Bool, true, false, List, [], ◌∷◌, Option, Some, length, map, get_or, refl, sym, ap, subst, ◌∙◌, inl, inr, arith}
use Rattle.std.specs.Prelude.{◌==◌, find, if◌then◌else◌, unwrap_or}
use Rattle.std.specs.Option.{option_map}
use Rattle.std.proofs.lemmas.Bool.{cases_lt}
use Rattle.std.proofs.lemmas.List.FromFn.{get_or-map-range_with_len, length-map-range_with_len}
use Rattle.board_model.specs.declared.boards.Heard.{Heard}
use Rattle.clusters.specs.Inflow.{heard_forecast, sense_of}
use Rattle.control_flow.specs.Timelines.{AreServings}
use Rattle.control_flow.specs.declared.greens.Green.{Green}
use Rattle.histories.specs.Steps.{publisher}
use Rattle.intersection_actor.specs.Commits.{Commitment, IsCommit, line_for, phases_of, record_of, round_plan, used_of}
use Rattle.intersection_actor.specs.declared.records.PlanRecord.{PlanRecord}
use Rattle.intersection_actor.specs.declared.records.Used.{Used}
use Rattle.net_parts.specs.Numbers.{Net}
use Rattle.net_parts.specs.Outline.{plan_at}
use Rattle.phase_plan.specs.Phases.{IsRing}
use Rattle.road_net.specs.Network.{IsNetwork, heard_links}
use Rattle.road_net.specs.declared.senses.Sensed.{Sensed}
use Rattle.round_states.specs.States.{IsStateOf}
use Rattle.round_states.specs.declared.asked.Asked.TheVariants.{AllNodes, OneNode}
use Rattle.round_states.specs.declared.states.LinkBoard.{LinkBoard}
use Rattle.round_states.specs.declared.states.RoundState.{RoundState}
use Rattle.runs.proofs.Committed.{one-commit}
use Rattle.runs.specs.Runs.{told_in}
use Rattle.round_decisions.specs.Decisions.{IsDecision, board_after, has_told, heard_in, line_of, plan_in, sensed_of}
use Rattle.round_decisions.specs.Lines.{rows_from}
use Rattle.round_decisions.specs.Origins.{IsMovedBoard, IsMovedDecision, IsMovedPlan, IsMovedState, IsMovedTurn, IsMovedUse, IsVersionMoved, moved_forecast, moved_head, moved_line, moved_problem, moved_sensed}
use Rattle.round_decisions.specs.Promises.{decided_line}
use Rattle.round_decisions.specs.Turns.{IsTurn, board_of, heard_on, hearing_on, next_board, no_board, published, tells}
use Rattle.round_decisions.specs.declared.decisions.Decision.{Decision}
use Rattle.round_decisions.specs.declared.decisions.NodeDecision.{NodeDecision}
use Rattle.round_decisions.proofs.MovedLines.{from-moved, head-moved, line_for-moved, moved_served, spliced-moved}
use Rattle.round_decisions.proofs.MovedPlatoons.{IsHeardMoved, clusters-moved, expected-moved, moved_platoons, moved_window, told-moved, window-moved}
use Rattle.round_decisions.proofs.MovedServings.{best-moved, served-by-moved}
use Rattle.round_decisions.proofs.RoundLaws.{after-same}
use Rattle.round_decisions.proofs.SoonLaws.{phases-head, phases-plan, servings}

module _ (d : ℕ) where
  -- the phases of a round go by durations alone
  plan-moved : (net : Net) (node : ℕ) (sensed : Sensed) (recall : Option ℕ) → net.run.recall ≡ recall → round_plan net node (moved_sensed d sensed) ≡ round_plan net node sensed
  unfolding sense_of
  plan-moved net node sensed recall same = refl

  abbrev moved_commit : Commitment → Commitment
  moved_commit c = record {
    head = moved_head d c.head;
    platoons = moved_platoons d c.platoons;
    window = moved_window d c.window;
    problem = moved_problem d c.problem;
    answer = c.answer;
    served = map (moved_served d) c.served;
    next = moved_line d c.next;
    line = moved_line d c.line;
  }

  -- what is heard of links, by their boards
  heard-by : (boards : ℕ → LinkBoard) (links : List ℕ) (l : ℕ) (other : ℕ → LinkBoard) → ((k : ℕ) → (other k).forecast ≡ moved_forecast d (boards k).forecast)
      → unwrap_or (option_map (λ (h : Heard). h.forecast) (find (λ (h : Heard). h.link == l) (map (hearing_on other) links))) []
      ≡ moved_forecast d (unwrap_or (option_map (λ (h : Heard). h.forecast) (find (λ (h : Heard). h.link == l) (map (hearing_on boards) links))) [])
  heard-by boards [] l other same = refl
  heard-by boards (k ∷ links) l other same = pick (k == l) (heard-by boards links l other same)
    where
      pick : (b : Bool) → unwrap_or (option_map (λ (h : Heard). h.forecast) (find (λ (h : Heard). h.link == l) (map (hearing_on other) links))) []
          ≡ moved_forecast d (unwrap_or (option_map (λ (h : Heard). h.forecast) (find (λ (h : Heard). h.link == l) (map (hearing_on boards) links))) [])
          → unwrap_or (option_map (λ (h : Heard). h.forecast) (if b then Some (hearing_on other k) else find (λ (h : Heard). h.link == l) (map (hearing_on other) links))) []
          ≡ moved_forecast d (unwrap_or (option_map (λ (h : Heard). h.forecast) (if b then Some (hearing_on boards k) else find (λ (h : Heard). h.link == l) (map (hearing_on boards) links))) [])
      pick true rest = same k
      pick false rest = rest

  heard-moved : (net : Net) (boards other : ℕ → LinkBoard) (node : ℕ) → ((k : ℕ) → (other k).forecast ≡ moved_forecast d (boards k).forecast) → IsHeardMoved d (heard_on net boards node) (heard_on net other node)
  unfolding heard_forecast
  heard-moved net boards other node same l = heard-by boards (heard_links net node) l other same

  -- a commit from what is moved is the same commit, moved
  pub commit-moved : (net : Net) (node round later : ℕ) (old : List Green) (sensed : Sensed) (heard other : List Heard) (c : Commitment) → sensed.now + d ≡ later * net.run.step → IsHeardMoved d heard other
      → IsRing (round_plan net node sensed) → c.head.phase < length (round_plan net node sensed) → AreServings (round_plan net node sensed) c.head (phases_of c.answer) c.served
      → IsCommit net node round old sensed heard c → IsCommit net node later (moved_line d old) (moved_sensed d sensed) other (moved_commit c)
  commit-moved net node round later old sensed heard other c begins same p below are is =
      let plan : round_plan net node (moved_sensed d sensed) ≡ round_plan net node sensed = plan-moved net node sensed net.run.recall refl in
      let lists = clusters-moved d c.window.lists in
      record {
        now = begins;
        problem = record {
          at = head-moved d (plan_at net node) old sensed.now ∙ ap (option_map (moved_head d)) is.problem.at;
          expected = expected-moved d net node c.head sensed heard other c.platoons same is.problem.expected;
          taken = window-moved d c.platoons c.window is.problem.taken;
          is = ap (moved_problem d) is.problem.is ∙ (λ i. record { plan = sym plan i; head = moved_head d c.head; lists = sym lists i });
        };
        answer = best-moved d c.problem c.answer is.answer;
        served = served-by-moved d c.problem c.answer c.served is.served;
        next =
            ap (moved_line d) is.next ∙ sym (line_for-moved d (round_plan net node sensed) p c.head below c.answer c.served (sensed.now + net.run.look) are)
            ∙ (λ i. line_for (sym plan i) (moved_head d c.head) c.answer (map (moved_served d) c.served) (until i));
        line = ap (moved_line d) is.line ∙ sym (spliced-moved d old c.next);
      }
    where
      until : sensed.now + net.run.look + d ≡ sensed.now + d + net.run.look
      until = omega arith

-- the versions that were used, by the boards
uses-count : (boards other : ℕ → LinkBoard) (links : List ℕ) → length (used_of (map (hearing_on other) links)) ≡ length (used_of (map (hearing_on boards) links))
uses-count boards other [] = refl
uses-count boards other (l ∷ links) = ap suc (uses-count boards other links)

uses-moved : (state moved : RoundState) (boards other : ℕ → LinkBoard) → ((l : ℕ) → IsVersionMoved state moved l (boards l).version (other l).version) → (links : List ℕ) (k : ℕ) (x : Used) → k < length (used_of (map (hearing_on boards) links))
    → IsMovedUse state moved (get_or (used_of (map (hearing_on boards) links)) k x) (get_or (used_of (map (hearing_on other) links)) k x)
uses-moved state moved boards other same [] k x inside = absurd (omega arith)
uses-moved state moved boards other same (l ∷ links) zero x inside = record { link = refl; version = same l }
uses-moved state moved boards other same (l ∷ links) (suc k) x inside = uses-moved state moved boards other same links k x (omega arith)

-- when a moved round begins
begins-of : (net : Net) (rounds round moved : ℕ) → moved ≡ round + rounds → moved * net.run.step ≡ round * net.run.step + rounds * net.run.step
begins-of net rounds round moved same = ap (λ r. r * net.run.step) same ∙ by round rounds net.run.step
  where
    by : (a b s : ℕ) → (a + b) * s ≡ a * s + b * s
    by a b s = omega arith

module _ (net : Net) (network : IsNetwork net) (rounds : ℕ) (state moved : RoundState) (is : IsStateOf net AllNodes state) (at : IsMovedState net rounds state moved) (d other : Decision) (one : IsDecision net state d) (two : IsDecision net moved other) where
  abbrev shift : ℕ
  shift = rounds * net.run.step

  abbrev made : ℕ → Commitment
  made n = moved_commit (rounds * net.run.step) (one.made n)

  begins : moved.round * net.run.step ≡ state.round * net.run.step + rounds * net.run.step
  begins = begins-of net rounds state.round moved.round at.round

  -- the boards after some turns
  forecast-moved : (m l : ℕ) → (board_after net moved made m l).forecast ≡ moved_forecast (rounds * net.run.step) (board_after net state one.made m l).forecast
  forecast-moved m l = pick (has_told net m l)
    where
      told : told_in net moved.round l (made (publisher net l)) ≡ moved_forecast (rounds * net.run.step) (told_in net state.round l (one.made (publisher net l)))
      told = told-moved (rounds * net.run.step) net l (state.round * net.run.step) (moved.round * net.run.step) (one.made (publisher net l)).window.lists (phases_of (one.made (publisher net l)).answer) (one.made (publisher net l)).served begins

      pick : (b : Bool) → (if b then next_board (board_of moved.boards l) (told_in net moved.round l (made (publisher net l))) else board_of moved.boards l).forecast
          ≡ moved_forecast (rounds * net.run.step) (if b then next_board (board_of state.boards l) (told_in net state.round l (one.made (publisher net l))) else board_of state.boards l).forecast
      pick true = told
      pick false = at.boards l

  version-moved : (m l : ℕ) → IsVersionMoved state moved l (board_after net state one.made m l).version (board_after net moved made m l).version
  version-moved m l = pick (has_told net m l)
    where
      pick : (b : Bool) → (if b then next_board (board_of moved.boards l) (told_in net moved.round l (made (publisher net l))) else board_of moved.boards l).version + (board_of state.boards l).version
          ≡ (if b then next_board (board_of state.boards l) (told_in net state.round l (one.made (publisher net l))) else board_of state.boards l).version + (board_of moved.boards l).version
      pick true = omega arith
      pick false = omega arith

  -- the commits of the first decision, moved, are commits from the moved state
  commit-at : (n : ℕ) → n < length net.node_names → IsCommit net n moved.round (line_of moved n) (sensed_of moved n) (heard_in net moved made n) (made n)
  commit-at n below =
      let c = one.commits n below in
      let line = is.lines n below tt in
      let sensed = is.sensed n below in
      subst (λ (l : List Green). IsCommit net n moved.round l (sensed_of moved n) (heard_in net moved made n) (made n)) (sym (at.lines n below))
      (subst (λ (s : Sensed). IsCommit net n moved.round (moved_line (rounds * net.run.step) (line_of state n)) s (heard_in net moved made n) (made n)) (sym (at.sensed n below))
      (commit-moved (rounds * net.run.step) net n state.round moved.round (line_of state n) (sensed_of state n) (heard_in net state one.made n) (heard_in net moved made n) (one.made n)
      (ap (λ t. t + rounds * net.run.step) c.now ∙ sym begins)
      (heard-moved (rounds * net.run.step) net (board_after net state one.made n) (board_after net moved made n) n (forecast-moved n))
      (phases-plan net network n below state.round (line_of state n) (sensed_of state n) (heard_in net state one.made n) (one.made n) sensed.sensed.now (record { lawful = line.lawful; begins = line.begins }) c)
      (phases-head net network n below state.round (line_of state n) (sensed_of state n) (heard_in net state one.made n) (one.made n) sensed.sensed.now (record { lawful = line.lawful; begins = line.begins }) c).phase
      (servings net network n below state.round (line_of state n) (sensed_of state n) (heard_in net state one.made n) (one.made n) sensed.sensed.now (record { lawful = line.lawful; begins = line.begins }) c)
      c))

  heard-same : (n : ℕ) → ((k : ℕ) → k < n → two.made k ≡ made k) → heard_in net moved two.made n ≡ heard_in net moved made n
  heard-same n same = ap (λ (boards : ℕ → LinkBoard). heard_on net boards n) (λ i link. after-same net moved two.made made n same link i)

  -- so they are those of the second one
  commit-same : (n : ℕ) → n < length net.node_names → ((k : ℕ) → k < n → two.made k ≡ made k) → two.made n ≡ made n
  commit-same n below same =
      one-commit net n moved.round (line_of moved n) (sensed_of moved n) (heard_in net moved made n) (two.made n) (made n)
      (subst (λ (x : List Heard). IsCommit net n moved.round (line_of moved n) (sensed_of moved n) x (two.made n)) (heard-same n same) (two.commits n below)) (commit-at n below)

  all-same : (m : ℕ) → m ≤ length net.node_names → (k : ℕ) → k < m → two.made k ≡ made k
  all-same zero most k less = absurd (omega arith)
  all-same (suc m) most k less = elim (cases_lt k m) [
    | inl before ↦ all-same m (omega arith) k before
    | inr last ↦ subst (λ j. two.made j ≡ made j) (let e : m ≡ k = omega arith in e) (commit-same m (omega arith) (all-same m (omega arith)))
  ]

  same : (k : ℕ) → k < length net.node_names → two.made k ≡ made k
  same = all-same (length net.node_names) (omega arith)

  plan-at : (n : ℕ) → n < length net.node_names → plan_in net moved two.made n ≡ plan_in net moved made n
  plan-at n below = λ i. record_of n moved.round (heard-same n (λ k less. same k (omega arith)) i) (same n below i)

  plans-moved : (n : ℕ) → IsMovedPlan net rounds state moved (plan_in net state one.made n) (plan_in net moved made n)
  plans-moved n = record {
    node = refl;
    round = at.round;
    instance = refl;
    answer = refl;
    uses = uses-count (board_after net state one.made n) (board_after net moved made n) (heard_links net n);
    used = uses-moved state moved (board_after net state one.made n) (board_after net moved made n) (version-moved n) (heard_links net n);
  }

  line-is : (n : ℕ) → n < length net.node_names → decided_line d n ≡ (one.made n).line
  line-is n below =
      ap (λ (l : List (List Green)). get_or l n []) one.lines ∙ get_or-map-range_with_len (λ k. (one.made k).line) 0 (length net.node_names) n n [] below (let e : 0 + n ≡ n = omega arith in e)

  lines-moved : (n : ℕ) → n < length net.node_names → decided_line other n ≡ moved_line (rounds * net.run.step) (decided_line d n)
  lines-moved n below =
      ap (λ (l : List (List Green)). get_or l n []) two.lines ∙ get_or-map-range_with_len (λ k. (two.made k).line) 0 (length net.node_names) n n [] below (let e : 0 + n ≡ n = omega arith in e)
      ∙ ap (λ (c : Commitment). c.line) (same n below) ∙ ap (moved_line (rounds * net.run.step)) (sym (line-is n below))

  board-is : (l : ℕ) → l < length net.link_names → board_of d.boards l ≡ board_after net state one.made (length net.node_names) l
  board-is l below =
      ap (λ (b : List LinkBoard). board_of b l) one.boards
      ∙ get_or-map-range_with_len (board_after net state one.made (length net.node_names)) 0 (length net.link_names) l l no_board below (let e : 0 + l ≡ l = omega arith in e)

  other-board : (l : ℕ) → l < length net.link_names → board_of other.boards l ≡ board_after net moved made (length net.node_names) l
  other-board l below =
      ap (λ (b : List LinkBoard). board_of b l) two.boards
      ∙ get_or-map-range_with_len (board_after net moved two.made (length net.node_names)) 0 (length net.link_names) l l no_board below (let e : 0 + l ≡ l = omega arith in e)
      ∙ after-same net moved two.made made (length net.node_names) same l

  pub decision-moved : IsMovedDecision net rounds state moved d other
  decision-moved = record {
    plan_count = ap length two.plans ∙ length-map-range_with_len (plan_in net moved two.made) 0 (length net.node_names) ∙ sym (ap length one.plans ∙ length-map-range_with_len (plan_in net state one.made) 0 (length net.node_names));
    plans = λ k x inside.
        let below : k < length net.node_names = omega (arith, inside, ap length one.plans, length-map-range_with_len (plan_in net state one.made) 0 (length net.node_names)) in
        let place : 0 + k ≡ k = omega arith in
        let own : get_or d.plans k x ≡ plan_in net state one.made k = ap (λ (l : List PlanRecord). get_or l k x) one.plans ∙ get_or-map-range_with_len (plan_in net state one.made) 0 (length net.node_names) k k x below place in
        let their : get_or other.plans k x ≡ plan_in net moved made k = ap (λ (l : List PlanRecord). get_or l k x) two.plans ∙ get_or-map-range_with_len (plan_in net moved two.made) 0 (length net.node_names) k k x below place ∙ plan-at k below in
        subst (λ (p : PlanRecord). IsMovedPlan net rounds state moved p (get_or other.plans k x)) (sym own)
        (subst (IsMovedPlan net rounds state moved (plan_in net state one.made k)) (sym their) (plans-moved k));
    lines = lines-moved;
    told = λ n below.
        ap (rows_from (moved.round * net.run.step)) (lines-moved n below) ∙ ap (λ t. rows_from t (moved_line (rounds * net.run.step) (decided_line d n))) begins
        ∙ from-moved (rounds * net.run.step) (state.round * net.run.step) (decided_line d n);
    boards = λ l below. record {
      version = subst (λ (b : LinkBoard). IsVersionMoved state moved l b.version (board_of other.boards l).version) (sym (board-is l below))
          (subst (λ (b : LinkBoard). IsVersionMoved state moved l (board_after net state one.made (length net.node_names) l).version b.version) (sym (other-board l below)) (version-moved (length net.node_names) l));
      forecast = ap (λ (b : LinkBoard). b.forecast) (other-board l below) ∙ forecast-moved (length net.node_names) l ∙ ap (λ (b : LinkBoard). moved_forecast (rounds * net.run.step) b.forecast) (sym (board-is l below));
    };
  }

-- the turn of one node
module _ (net : Net) (network : IsNetwork net) (rounds : ℕ) (state moved : RoundState) (at : IsMovedState net rounds state moved) (node : ℕ) (below : node < length net.node_names) (is : IsStateOf net (OneNode (Some node)) state)
    (d other : NodeDecision) (one : IsTurn net state.round node (line_of state node) (sensed_of state node) state.boards d.boards d.plan d.line)
    (two : IsTurn net moved.round node (line_of moved node) (sensed_of moved node) moved.boards other.boards other.plan other.line) where
  turn-begins : moved.round * net.run.step ≡ state.round * net.run.step + rounds * net.run.step
  turn-begins = begins-of net rounds state.round moved.round at.round

  turn-commit : IsCommit net node moved.round (line_of moved node) (sensed_of moved node) (heard_on net (board_of moved.boards) node) (moved_commit (rounds * net.run.step) one.made)
  turn-commit =
      let c = one.commit in
      let line = is.lines node below refl in
      let sensed = is.sensed node below in
      subst (λ (l : List Green). IsCommit net node moved.round l (sensed_of moved node) (heard_on net (board_of moved.boards) node) (moved_commit (rounds * net.run.step) one.made)) (sym (at.lines node below))
      (subst (λ (s : Sensed). IsCommit net node moved.round (moved_line (rounds * net.run.step) (line_of state node)) s (heard_on net (board_of moved.boards) node) (moved_commit (rounds * net.run.step) one.made)) (sym (at.sensed node below))
      (commit-moved (rounds * net.run.step) net node state.round moved.round (line_of state node) (sensed_of state node) (heard_on net (board_of state.boards) node) (heard_on net (board_of moved.boards) node) one.made
      (ap (λ t. t + rounds * net.run.step) c.now ∙ sym turn-begins)
      (heard-moved (rounds * net.run.step) net (board_of state.boards) (board_of moved.boards) node at.boards)
      (phases-plan net network node below state.round (line_of state node) (sensed_of state node) (heard_on net (board_of state.boards) node) one.made sensed.sensed.now (record { lawful = line.lawful; begins = line.begins }) c)
      (phases-head net network node below state.round (line_of state node) (sensed_of state node) (heard_on net (board_of state.boards) node) one.made sensed.sensed.now (record { lawful = line.lawful; begins = line.begins }) c).phase
      (servings net network node below state.round (line_of state node) (sensed_of state node) (heard_on net (board_of state.boards) node) one.made sensed.sensed.now (record { lawful = line.lawful; begins = line.begins }) c)
      c))

  turn-made : two.made ≡ moved_commit (rounds * net.run.step) one.made
  turn-made = one-commit net node moved.round (line_of moved node) (sensed_of moved node) (heard_on net (board_of moved.boards) node) two.made (moved_commit (rounds * net.run.step) one.made) two.commit turn-commit

  turn-plan : other.plan ≡ record_of node moved.round (heard_on net (board_of moved.boards) node) (moved_commit (rounds * net.run.step) one.made)
  turn-plan = two.plan_is ∙ ap (record_of node moved.round (heard_on net (board_of moved.boards) node)) turn-made

  turn-line : other.line ≡ moved_line (rounds * net.run.step) d.line
  turn-line = two.line_is ∙ ap (λ (c : Commitment). c.line) turn-made ∙ ap (moved_line (rounds * net.run.step)) (sym one.line_is)

  turn-board : (l : ℕ) → l < length net.link_names → IsMovedBoard net rounds state moved l (board_of d.boards l) (board_of other.boards l)
  turn-board l within =
      subst (λ (b : LinkBoard). IsMovedBoard net rounds state moved l b (board_of other.boards l)) (sym (one.boards.each l (omega (arith, within, is.board_count))))
      (subst (IsMovedBoard net rounds state moved l (published net node (λ k. told_in net state.round k one.made) (board_of state.boards) l)) (sym (two.boards.each l (omega (arith, within, at.board_count, is.board_count)))) (pick (tells net node l)))
    where
      told : told_in net moved.round l two.made ≡ moved_forecast (rounds * net.run.step) (told_in net state.round l one.made)
      told = ap (told_in net moved.round l) turn-made ∙ told-moved (rounds * net.run.step) net l (state.round * net.run.step) (moved.round * net.run.step) one.made.window.lists (phases_of one.made.answer) one.made.served turn-begins

      pick : (b : Bool) → IsMovedBoard net rounds state moved l (if b then next_board (board_of state.boards l) (told_in net state.round l one.made) else board_of state.boards l) (if b then next_board (board_of moved.boards l) (told_in net moved.round l two.made) else board_of moved.boards l)
      pick true = record { version = omega arith; forecast = told }
      pick false = record { version = omega arith; forecast = at.boards l }

  pub turn-moved : IsMovedTurn net rounds state moved d other
  turn-moved = record {
    plan = subst (λ (p : PlanRecord). IsMovedPlan net rounds state moved p other.plan) (sym one.plan_is)
        (subst (IsMovedPlan net rounds state moved (record_of node state.round (heard_on net (board_of state.boards) node) one.made)) (sym turn-plan) (record {
          node = refl;
          round = at.round;
          instance = refl;
          answer = refl;
          uses = uses-count (board_of state.boards) (board_of moved.boards) (heard_links net node);
          used = uses-moved state moved (board_of state.boards) (board_of moved.boards) (λ l. omega arith) (heard_links net node);
        }));
    line = turn-line;
    told =
        ap (rows_from (moved.round * net.run.step)) turn-line ∙ ap (λ t. rows_from t (moved_line (rounds * net.run.step) d.line)) turn-begins
        ∙ from-moved (rounds * net.run.step) (state.round * net.run.step) d.line;
    boards = turn-board;
  }

-- Where all nodes read first, each node's own turn is its part of the run's round, and a chain of own turns is the run.
use Rattle.std.proofs.Common.{◌≡◌, ℕ, suc, ◌+◌, ◌<◌, ◌≤◌, List, Option, Some, get_or, is_some, length, refl, sym, ap, subst, ◌∙◌, inl, inr, arith}
use Rattle.std.specs.Prelude.{if◌then◌else◌, unwrap_or}
use Rattle.std.proofs.lemmas.List.{get_or_default}
use Rattle.board_model.specs.declared.boards.Heard.{Heard}
use Rattle.control_flow.specs.Greens.{spliced}
use Rattle.control_flow.specs.declared.greens.Green.{Green}
use Rattle.histories.specs.Histories.{read_first}
use Rattle.histories.specs.Steps.{publisher}
use Rattle.histories.proofs.ReadFirst.{read-first-lawful, reads-round-before}
use Rattle.histories.proofs.StepLaws.{read-step}
use Rattle.intersection_actor.specs.Commits.{Commitment, IsCommit, record_of}
use Rattle.net_parts.specs.Numbers.{Net}
use Rattle.net_parts.specs.Outline.{link_at}
use Rattle.road_net.specs.Network.{IsNetwork, heard_links}
use Rattle.road_net.specs.declared.senses.Sensed.{Sensed}
use Rattle.round_states.specs.States.{begin_of}
use Rattle.round_states.specs.declared.states.LinkBoard.{LinkBoard}
use Rattle.round_states.specs.declared.states.RoundState.{RoundState}
use Rattle.runs.proofs.Heard.{Ends, heard-ends}
use Rattle.runs.specs.Runs.{AllCommit, HearAlong, forecast_at, hearing, line_before, told_in}
use Rattle.round_decisions.specs.Decisions.{line_of, sensed_of}
use Rattle.round_decisions.specs.Lines.{rows_from}
use Rattle.round_decisions.specs.Origins.{IsTurnOf}
use Rattle.round_decisions.specs.OfRuns.{board_in}
use Rattle.round_decisions.specs.OwnTurns.{HearsRoundBefore, IsOwnChain, IsOwnChainOf, IsOwnStateIn, IsTurnIn, own_line}
use Rattle.round_decisions.specs.Turns.{ArePublished, board_of, heard_on, hearing_on, next_board}
use Rattle.round_decisions.specs.declared.decisions.NodeDecision.{NodeDecision}
use Rattle.round_decisions.proofs.Boards.{tells-by}
use Rattle.round_decisions.proofs.CommitLaws.{heard-as, line-left, ordered, wholly-same}
use Rattle.round_decisions.proofs.LeftLaws.{IsLeft, left-all, left-from, left-rows, left-trans}
use Rattle.round_decisions.proofs.OfRunLaws.{link-there}
use Rattle.round_decisions.proofs.RoundLaws.{map-all-same}
use Rattle.round_decisions.proofs.RunChains.{Begins, Follow, Tells, all-begin, all-passed}

-- a node's own turn from a state, with this commit
pub record IsTurnBy (net : Net) (state : RoundState) (node : ℕ) (d : NodeDecision) (c : Commitment) : Type 0 where
  pub commit : IsCommit net node state.round (line_of state node) (sensed_of state node) (heard_on net (board_of state.boards) node) c
  pub plan : d.plan ≡ record_of node state.round (heard_on net (board_of state.boards) node) c
  pub line : d.line ≡ c.line
  pub boards : ArePublished net node (λ link. told_in net state.round link c) state.boards d.boards

pub turn-by : (net : Net) (state : RoundState) (node : ℕ) (d : NodeDecision) (turn : IsTurnOf net state node d) → IsTurnBy net state node d turn.made
turn-by net state node d turn = record { commit = turn.commit; plan = turn.plan_is; line = turn.line_is; boards = turn.boards }

-- what a node decides in its own turn tells its part of a run's round, but for rows of its line that are gone
pub record IsOwnTold (net : Net) (heard : ℕ → ℕ → List Heard) (made : ℕ → ℕ → Commitment) (round node : ℕ) (before : List Green) (d : NodeDecision) : Type 0 where
  pub plan : d.plan ≡ record_of node round (heard round node) (made round node)
  pub left : IsLeft (begin_of net round) (made round node).line d.line
  pub whole : before ≡ line_before net made round node → d.line ≡ (made round node).line
  pub boards : (link to : ℕ) → (link_at net link).from ≡ Some node → (link_at net link).to ≡ Some to
      → board_of d.boards link ≡ board_in net made link (round + 1)

-- what a node hears in a round of the run of the read-first order was told before it
pub hears-before : (net : Net) → IsNetwork net → (arriving : ℕ → ℕ → ℕ) (heard : ℕ → ℕ → List Heard) (made : ℕ → ℕ → Commitment) → AllCommit net arriving heard made net.run.rounds → HearAlong net (read_first net) heard made
    → HearsRoundBefore net heard made
hears-before net network arriving heard made commits along r n less below = heard-as net network arriving (read_first net) (read-first-lawful net network) heard made commits along r n less below (λ link. hearing net made link r)
    (λ q place first at. ap (hearing net made (get_or (heard_links net n) q 0))
    (reads-round-before net network place (get_or (heard_links net n) q 0) at.inside (at.step_is ∙ read-step net n q first) ∙ at.round_is))

-- In the first rounds of a run in which each node hears what was told in the round before.
module _ (net : Net) (network : IsNetwork net) (arriving : ℕ → ℕ → ℕ) (heard : ℕ → ℕ → List Heard) (made : ℕ → ℕ → Commitment) (rounds : ℕ) (commits : AllCommit net arriving heard made rounds) (few : rounds ≤ net.run.rounds)
    (hears : HearsRoundBefore net heard made) where
  module _ (state : RoundState) (n : ℕ) (less : state.round < net.run.rounds) (below : n < length net.node_names)
      (begins : Begins net arriving made state.round n (sensed_of state n) (line_of state n) (board_of state.boards)) where
    -- a node hears it on the boards of its state
    pub heard-is : heard_on net (board_of state.boards) n ≡ heard state.round n
    heard-is =
        map-all-same (hearing_on (board_of state.boards)) (λ link. hearing net made link state.round) (Ends net n) (heard_links net n)
        (λ q x inside. subst (Ends net n) (get_or_default (heard_links net n) q 0 x inside) (heard-ends net n q network inside))
        (λ link ends. ap (λ (b : LinkBoard). record { link = link; version = b.version; forecast = b.forecast }) (begins.has link ends.teller n ends.from ends.to (inr refl)))
        ∙ sym (hears state.round n less below)

    module _ (done : state.round < rounds) (count : length state.boards ≡ length net.link_names) (d : NodeDecision) (c : Commitment) (turn : IsTurnBy net state n d c) where
      same : record c { line = spliced (line_before net made state.round n) c.next } ≡ made state.round n
      same = wholly-same net arriving heard made rounds commits network few state.round n (omega (arith, done)) below (line_of state n) (sensed_of state n) (heard_on net (board_of state.boards) n) begins.left c turn.commit done begins.senses heard-is

      board-is : (link to : ℕ) → (link_at net link).from ≡ Some n → (link_at net link).to ≡ Some to
          → board_of d.boards link ≡ board_in net made link (state.round + 1)
      board-is link to comes goes =
          let exists = (link-there net network link n comes).0 in
          let next : state.round + 1 ≡ suc state.round = omega arith in
          let own : publisher net link ≡ n = ap (λ (o : Option ℕ). unwrap_or o 0) comes in
          turn.boards.each link (omega (arith, exists, count))
          ∙ ap (λ b. if b then next_board (board_of state.boards link) (told_in net state.round link c) else board_of state.boards link) (tells-by net n link comes (ap is_some goes))
          ∙ ap (λ (b : LinkBoard). next_board b (told_in net state.round link c)) (begins.has link n to comes goes (inl refl))
          ∙ ap (λ (m : Commitment). record { version = state.round + 1; forecast = told_in net state.round link m }) same
          ∙ ap (λ k. record { version = state.round + 1; forecast = told_in net state.round link (made state.round k) }) (sym own)
          ∙ sym (ap (λ v. record { version = state.round + 1; forecast = forecast_at net made link v }) next)

      pub own-told : IsOwnTold net heard made state.round n (line_of state n) d
      own-told = record {
        plan = turn.plan ∙ ap (λ (x : List Heard). record_of n state.round x c) heard-is ∙ ap (record_of n state.round (heard state.round n)) same;
        left = subst (λ (l : List Green). IsLeft (begin_of net state.round) l d.line) (ap (λ (m : Commitment). m.line) same)
            (subst (IsLeft (begin_of net state.round) (spliced (line_before net made state.round n) c.next)) (sym turn.line)
            (line-left net arriving heard made rounds commits network few state.round n (omega (arith, done)) below (line_of state n) (sensed_of state n) (heard_on net (board_of state.boards) n) begins.left c turn.commit));
        whole = λ lines. turn.line ∙ turn.commit.line ∙ ap (λ (l : List Green). spliced l c.next) lines ∙ ap (λ (m : Commitment). m.line) same;
        boards = board-is;
      }

  module _ (states : ℕ → ℕ → RoundState) (turns : ℕ → ℕ → NodeDecision) (chain : IsOwnChain net arriving states turns) where
    abbrev sensed : ℕ → ℕ → Sensed
    sensed r n = sensed_of (states r n) n

    abbrev line : ℕ → ℕ → List Green
    line r n = line_of (states r n) n

    abbrev had : ℕ → ℕ → ℕ → LinkBoard
    had r n link = board_of (states r n).boards link

    abbrev boards : ℕ → ℕ → LinkBoard
    boards r link = board_of (turns r (publisher net link)).boards link

    abbrev BeginsAt : ℕ → ℕ → Type 0
    BeginsAt r n = Begins net arriving made r n (sensed_of (states r n) n) (line_of (states r n) n) (board_of (states r n).boards)

    told-at : (r n : ℕ) → r < rounds → n < length net.node_names → BeginsAt r n → IsOwnTold net heard made r n (line r n) (turns r n)
    told-at r n less below begins =
        let inside : r < net.run.rounds = omega arith in
        let round : (states r n).round ≡ r = chain.rounds r n inside below in
        let turn : IsTurnOf net (states r n) n (turns r n) = chain.turned r n inside below in
        subst (λ q. IsOwnTold net heard made q n (line r n) (turns r n)) round
        (own-told (states r n) n (omega (arith, round, inside)) below (subst (λ q. Begins net arriving made q n (sensed r n) (line r n) (had r n)) (sym round) begins) (omega (arith, round, less)) (chain.board_count r n inside below)
        (turns r n) turn.made (turn-by net (states r n) n (turns r n) turn))

    by-publisher : (r link from : ℕ) → (link_at net link).from ≡ Some from → board_of (turns r from).boards link ≡ boards r link
    by-publisher r link from comes = ap (λ k. board_of (turns r k).boards link) (sym (ap (λ (o : Option ℕ). unwrap_or o 0) comes))

    follow : Follow net arriving (own_line net turns) boards sensed line had
    follow = record {
      senses = chain.sensed;
      first_lines = chain.first_lines;
      lines = chain.lines;
      first_boards = chain.first_boards;
      next_boards = λ r link from to n less comes goes end. chain.boards r link from to n less comes goes end ∙ by-publisher r link from comes;
    }

    step : (r : ℕ) → r < rounds → ((n : ℕ) → n < length net.node_names → BeginsAt r n) → Tells net made r (own_line net turns r) (boards r)
    step r less begins = record {
      left = λ n below. left-trans (begin_of net r) (made r n).line (turns r n).line (own_line net turns r n) (told-at r n less below (begins n below)).left (left-from (begin_of net r) (turns r n).line);
      next = λ link from to comes goes.
          let there = (link-there net network link from comes).1 in
          sym (by-publisher r link from comes) ∙ (told-at r from less there (begins from there)).boards link to comes goes;
    }

    -- each round of the chain begins as in the run
    pub chain-begins : (r : ℕ) → r ≤ rounds → r < net.run.rounds → (n : ℕ) → n < length net.node_names → BeginsAt r n
    chain-begins = all-begin net network arriving heard made rounds commits few (own_line net turns) boards sensed line had follow step

-- In a whole run.
module _ (net : Net) (network : IsNetwork net) (arriving : ℕ → ℕ → ℕ) (heard : ℕ → ℕ → List Heard) (made : ℕ → ℕ → Commitment) (commits : AllCommit net arriving heard made net.run.rounds) (hears : HearsRoundBefore net heard made) where
  all : net.run.rounds ≤ net.run.rounds
  all = omega arith

  -- from its state in the run a node's own turn is its part of the round
  pub turn-in : (state : RoundState) (n : ℕ) → n < length net.node_names → IsOwnStateIn net arriving made n state → (d : NodeDecision) → IsTurnOf net state n d → IsTurnIn net heard made state.round n d
  turn-in state n below at d turn =
      let told = own-told net network arriving heard made net.run.rounds commits all hears state n at.round below (record {
        senses = at.sensed;
        left = subst (IsLeft (begin_of net state.round) (line_before net made state.round n)) (sym at.line) (left-all (begin_of net state.round) (line_before net made state.round n));
        has = at.boards;
      }) at.round at.board_count d turn.made (turn-by net state n d turn) in
      record { tells = record { plan = told.plan; rows = ap (rows_from (begin_of net state.round)) (told.whole at.line); boards = told.boards }; line = told.whole at.line }

  pub own-chain : (states : ℕ → ℕ → RoundState) (turns : ℕ → ℕ → NodeDecision) → IsOwnChain net arriving states turns → IsOwnChainOf net arriving heard made turns
  own-chain states turns chain = record {
    tells = λ r n less below.
        let told = told-at net network arriving heard made net.run.rounds commits all hears states turns chain r n less below (chain-begins net network arriving heard made net.run.rounds commits all hears states turns chain r (omega (arith, less)) less n below) in
        record {
          plan = told.plan;
          rows = sym (left-rows (begin_of net r) (made r n).line (turns r n).line told.left (ordered net arriving heard made net.run.rounds commits network all (suc r) n (omega (arith, less)) below));
          boards = told.boards;
        };
    passed = all-passed net network arriving heard made net.run.rounds commits all (own_line net turns) (λ r link. board_of (turns r (publisher net link)).boards link) (λ r n. sensed_of (states r n) n) (λ r n. line_of (states r n) n)
        (λ r n link. board_of (states r n).boards link) (follow net network arriving heard made net.run.rounds commits all hears states turns chain) (step net network arriving heard made net.run.rounds commits all hears states turns chain);
  }

-- A chain of decisions is the run of the turn order.
use Rattle.std.proofs.Common.{◌≡◌, ℕ, suc, ◌+◌, ◌<◌, List, [], Some, get_or, length, map, refl, sym, ap, subst, ◌∙◌, inl, arith}
use Rattle.std.specs.List.{range_with_len}
use Rattle.std.proofs.lemmas.List.FromFn.{get_or-map-range_with_len}
use Rattle.board_model.specs.declared.boards.Heard.{Heard}
use Rattle.control_flow.specs.Greens.{spliced}
use Rattle.control_flow.specs.declared.greens.Green.{Green}
use Rattle.intersection_actor.specs.Commits.{Commitment, IsCommit}
use Rattle.net_parts.specs.Numbers.{Net}
use Rattle.net_parts.specs.Outline.{link_at}
use Rattle.road_net.specs.Network.{IsNetwork}
use Rattle.road_net.specs.declared.senses.Sensed.{Sensed}
use Rattle.round_states.specs.States.{begin_of}
use Rattle.round_states.specs.declared.states.LinkBoard.{LinkBoard}
use Rattle.round_states.specs.declared.states.RoundState.{RoundState}
use Rattle.runs.specs.Runs.{line_before, plans_in}
use Rattle.runs.specs.declared.records.RunRecord.{RunRecord}
use Rattle.round_decisions.specs.Chains.{IsChain, IsChainOf, told_line}
use Rattle.round_decisions.specs.Decisions.{IsDecision, heard_in, line_of, sensed_of}
use Rattle.round_decisions.specs.OfRuns.{IsRoundIn, IsStateIn, IsTurnRun, board_in}
use Rattle.round_decisions.specs.Promises.{decided_line}
use Rattle.round_decisions.specs.Turns.{board_of}
use Rattle.round_decisions.specs.declared.decisions.Decision.{Decision}
use Rattle.round_decisions.proofs.CommitLaws.{commit-whole, line-left, ordered}
use Rattle.round_decisions.proofs.LeftLaws.{IsLeft, left-from, left-rows, left-trans}
use Rattle.round_decisions.proofs.OfRunLaws.{link-there, round-in}
use Rattle.round_decisions.proofs.RunChains.{Begins, Follow, Tells, all-begin, all-passed}

-- A decision tells a round of a run, but for rows of the lines that are gone.
pub record IsTold (net : Net) (heard : ℕ → ℕ → List Heard) (made : ℕ → ℕ → Commitment) (round : ℕ) (d : Decision) : Type 0 where
  pub plans : d.plans ≡ plans_in net heard made round
  pub lines : (node : ℕ) → node < length net.node_names → IsLeft (begin_of net round) (made round node).line (decided_line d node)
  pub boards : (link from to : ℕ) → (link_at net link).from ≡ Some from → (link_at net link).to ≡ Some to
      → board_of d.boards link ≡ board_in net made link (round + 1)

module _ (net : Net) (network : IsNetwork net) (arriving : ℕ → ℕ → ℕ) (heard : ℕ → ℕ → List Heard) (made : ℕ → ℕ → Commitment) (run : RunRecord) (is : IsTurnRun net arriving heard made run) where
  -- all nodes begin a round of the run from a state
  abbrev BeginAll : ℕ → RoundState → Type 0
  BeginAll r state = (n : ℕ) → n < length net.node_names → Begins net arriving made r n (sensed_of state n) (line_of state n) (board_of state.boards)

  module _ (state : RoundState) (less : state.round < net.run.rounds) (begins : BeginAll state.round state) (d : Decision) (decision : IsDecision net state d) where
    abbrev whole : ℕ → List Green
    whole n = line_before net made state.round n

    -- the same commits from the whole lines
    abbrev wholly : ℕ → Commitment
    wholly n = record (decision.made n) { line = spliced (whole n) (decision.made n).next }

    abbrev whole_state : RoundState
    whole_state = record state { lines = map whole (range_with_len 0 (length net.node_names)) }

    abbrev whole_decision : Decision
    whole_decision = record d { lines = map (λ n. (wholly n).line) (range_with_len 0 (length net.node_names)) }

    line-whole : (n : ℕ) → n < length net.node_names → line_of whole_state n ≡ whole n
    line-whole n below = get_or-map-range_with_len whole 0 (length net.node_names) n n [] below (let e : 0 + n ≡ n = omega arith in e)

    decides-whole : IsDecision net whole_state whole_decision
    decides-whole = record {
      made = wholly;
      commits = λ n below. subst (λ (l : List Green). IsCommit net n state.round l (sensed_of state n) (heard_in net state decision.made n) (wholly n)) (sym (line-whole n below))
          (commit-whole net arriving heard made net.run.rounds is.by.commits network (omega arith) state.round n (omega (arith, less)) below (line_of state n) (sensed_of state n) (heard_in net state decision.made n) (begins n below).left (decision.made n) (decision.commits n below));
      plans = decision.plans;
      lines = refl;
      boards = decision.boards;
    }

    state-whole : IsStateIn net arriving made whole_state
    state-whole = record {
      round = less;
      sensed = λ n below. (begins n below).senses;
      lines = line-whole;
      boards = λ link from to comes goes. (begins from (link-there net network link from comes).1).has link from to comes goes (inl refl);
    }

    is-round : IsRoundIn net heard made state.round whole_decision
    is-round = round-in net network arriving heard made run is whole_state state-whole whole_decision decides-whole

    decided-is : (n : ℕ) → n < length net.node_names → decided_line d n ≡ (decision.made n).line
    decided-is n below =
        ap (λ (l : List (List Green)). get_or l n []) decision.lines
        ∙ get_or-map-range_with_len (λ k. (decision.made k).line) 0 (length net.node_names) n n [] below (let e : 0 + n ≡ n = omega arith in e)

    made-is : (n : ℕ) → n < length net.node_names → spliced (whole n) (decision.made n).next ≡ (made state.round n).line
    made-is n below =
        sym (get_or-map-range_with_len (λ k. (wholly k).line) 0 (length net.node_names) n n [] below (let e : 0 + n ≡ n = omega arith in e))
        ∙ ap (λ (l : List (List Green)). get_or l n []) is-round.lines
        ∙ get_or-map-range_with_len (λ k. (made state.round k).line) 0 (length net.node_names) n n [] below (let e : 0 + n ≡ n = omega arith in e)

    -- a decision from what is left of a round's lines
    told : IsTold net heard made state.round d
    told = record {
      plans = is-round.plans;
      lines = λ n below. subst (λ (l : List Green). IsLeft (begin_of net state.round) l (decided_line d n)) (made-is n below)
          (subst (IsLeft (begin_of net state.round) (spliced (whole n) (decision.made n).next)) (sym (decided-is n below))
          (line-left net arriving heard made net.run.rounds is.by.commits network (omega arith) state.round n (omega (arith, less)) below (line_of state n) (sensed_of state n) (heard_in net state decision.made n) (begins n below).left (decision.made n) (decision.commits n below)));
      boards = is-round.boards;
    }

  module _ (states : ℕ → RoundState) (decisions : ℕ → Decision) (chain : IsChain net arriving states decisions) where
    told-at : (r : ℕ) → r < net.run.rounds → BeginAll r (states r) → IsTold net heard made r (decisions r)
    told-at r less begins =
        let round : (states r).round ≡ r = chain.rounds r less in
        subst (λ q. IsTold net heard made q (decisions r)) round
        (told (states r) (omega (arith, round, less)) (subst (λ q. BeginAll q (states r)) (sym round) begins) (decisions r) (chain.decided r less))

    abbrev sensed : ℕ → ℕ → Sensed
    sensed r n = sensed_of (states r) n

    abbrev line : ℕ → ℕ → List Green
    line r n = line_of (states r) n

    abbrev had : ℕ → ℕ → ℕ → LinkBoard
    had r n link = board_of (states r).boards link

    abbrev boards : ℕ → ℕ → LinkBoard
    boards r link = board_of (decisions r).boards link

    follow : Follow net arriving (told_line net decisions) boards sensed line had
    follow = record {
      senses = chain.sensed;
      first_lines = chain.first_lines;
      lines = chain.lines;
      first_boards = λ link from to n comes goes end. chain.first_boards link from to comes goes;
      next_boards = λ r link from to n less comes goes end. chain.boards r link from to less comes goes;
    }

    step : (r : ℕ) → r < net.run.rounds → BeginAll r (states r) → Tells net made r (told_line net decisions r) (boards r)
    step r less begins =
        let one = told-at r less begins in
        record {
          left = λ n below. left-trans (begin_of net r) (made r n).line (decided_line (decisions r) n) (told_line net decisions r n) (one.lines n below) (left-from (begin_of net r) (decided_line (decisions r) n));
          next = one.boards;
        }

    pub chain-is : IsChainOf net arriving heard made decisions
    chain-is = record {
      tells = λ r less.
          let one : IsTold net heard made r (decisions r) = told-at r less (all-begin net network arriving heard made net.run.rounds is.by.commits (omega arith) (told_line net decisions) boards sensed line had follow step r (omega (arith, less)) less) in
          record {
            plans = one.plans;
            lines = λ n below. sym (left-rows (begin_of net r) (made r n).line (decided_line (decisions r) n) (one.lines n below) (ordered net arriving heard made net.run.rounds is.by.commits network (omega arith) (suc r) n (omega (arith, less)) below));
            boards = one.boards;
          };
      passed = all-passed net network arriving heard made net.run.rounds is.by.commits (omega arith) (told_line net decisions) boards sensed line had follow step;
    }

-- What every decision keeps.
use Rattle.std.proofs.Common.{◌≡◌, ℕ, ◌+◌, ◌*◌, ◌<◌, ◌≤◌, Bool, true, false, List, [], ◌∷◌, All, length, map, get_or, refl, sym, ap, subst, ◌∙◌, arith}
use Rattle.std.specs.Prelude.{◌==◌, if◌then◌else◌}
use Rattle.std.specs.List.{range_with_len}
use Rattle.std.proofs.lemmas.Bool.{eq-eqb, ne_eqb}
use Rattle.std.proofs.lemmas.List.{ext_get_or, get_or_default}
use Rattle.std.proofs.lemmas.List.FromFn.{get_or-map-range_with_len, length-map-range_with_len}
use Rattle.board_model.specs.declared.boards.Heard.{Heard}
use Rattle.board_model.specs.declared.forecasts.Row.{Row}
use Rattle.board_model.specs.Forecasts.{IsForecast}
use Rattle.control_flow.specs.Greens.{BeginBy, end_of, row_at}
use Rattle.control_flow.specs.declared.greens.Green.{Green}
use Rattle.histories.specs.Steps.{publisher}
use Rattle.intersection_actor.specs.Commits.{Commitment, IsCommit, IsProblemOf, used_of}
use Rattle.intersection_actor.specs.declared.records.PlanRecord.{PlanRecord}
use Rattle.intersection_actor.specs.declared.records.Used.{Used}
use Rattle.net_parts.specs.Numbers.{Net}
use Rattle.road_net.specs.Network.{IsNetwork, heard_links}
use Rattle.round_states.specs.States.{IsAsked, IsBoard, IsStateOf, begin_of, farthest_begin}
use Rattle.round_states.specs.declared.asked.Asked.{Asked}
use Rattle.round_states.specs.declared.asked.Asked.TheVariants.{AllNodes}
use Rattle.road_net.specs.declared.senses.Sensed.{Sensed}
use Rattle.round_states.specs.declared.states.LinkBoard.{LinkBoard}
use Rattle.round_states.specs.declared.states.RoundState.{RoundState}
use Rattle.runs.proofs.Keep.{keeps}
use Rattle.runs.proofs.PlanLaws.{used-links}
use Rattle.runs.proofs.Planning.{goes-on as continues}
use Rattle.runs.specs.Runs.{told_in}
use Rattle.schedule_meaning.proofs.Choosing.{best-least}
use Rattle.schedule_meaning.specs.Best.{IsLeast}
use Rattle.signal_safety.proofs.Lines.{safe}
use Rattle.signal_safety.proofs.Rounds.{KeepsLine}
use Rattle.net_parts.specs.Outline.{plan_at}
use Rattle.waits.specs.Discharges.{intergreens_of}
use Rattle.waits.specs.Rounds.{IsRound}
use Rattle.round_decisions.specs.Decisions.{board_after, has_told, heard_in, line_of, plan_in, sensed_of}
use Rattle.round_decisions.specs.Promises.{GoesOnAt, IsKeptDecision, IsKeptTurn, IsPlannedFrom, decided_line, forecast_of}
use Rattle.round_decisions.specs.Steps.{HaveTurned}
use Rattle.round_decisions.specs.Turns.{IsTurn, board_of, heard_on, hearing_on, next_board, no_board, tells}
use Rattle.round_decisions.specs.declared.decisions.Decision.{Decision}
use Rattle.round_decisions.specs.declared.decisions.NodeDecision.{NodeDecision}
use Rattle.round_decisions.specs.declared.rounds.Decided.{Decided}
use Rattle.round_decisions.specs.declared.rounds.Waiting.{Waiting}
use Rattle.round_decisions.proofs.LineLaws.{spliced-first}
use Rattle.round_decisions.proofs.SoonLaws.{commit-soon}

-- a board of this round is one of the next, and so is its next version, where this is a forecast
board-next : (b : Bool) (round : ℕ) (old : LinkBoard) (told : List Row) → IsBoard round old → IsForecast (if b then next_board old told else old).forecast → IsBoard (round + 1) (if b then next_board old told else old)
board-next true round old told is forecast = record { version = (let most = is.version in omega arith); forecast = forecast; none = λ none. absurd (omega arith) }
board-next false round old told is forecast = record { version = (let most = is.version in omega arith); forecast = is.forecast; none = is.none }

-- the links of what is heard
pub links-on : (boards : ℕ → LinkBoard) (xs : List ℕ) → map (λ (h : Heard). h.link) (map (hearing_on boards) xs) ≡ xs
links-on boards [] = refl
links-on boards (x ∷ xs) = ap (λ l. x ∷ l) (links-on boards xs)

-- what ends after a second has a row
some-by : (rows : List Green) (second : ℕ) → second < end_of rows → 0 < length rows
some-by [] second ends = absurd (omega arith)
some-by (row ∷ rows) second ends = omega arith

next-later : (round step : ℕ) → round * step ≤ (round + 1) * step
next-later round step = (let e : (round + 1) * step ≡ round * step + step = omega arith in omega arith)

-- how a line goes on by a commit
pub goes-on : (net : Net) → IsNetwork net → (state : RoundState) (asked : Asked) → IsStateOf net asked state → (n : ℕ) → n < length net.node_names → IsAsked asked n → (heard : List Heard) (c : Commitment)
    → IsCommit net n state.round (line_of state n) (sensed_of state n) heard c → (new : List Green) → new ≡ c.line → begin_of net (state.round + 1) < end_of new → GoesOnAt net state.round n (line_of state n) new
goes-on net network state asked is n below wanted heard c commit new same later =
    let line = is.lines n below wanted in
    let at = is.sensed n below in
    let k : KeepsLine (plan_at net n) (line_of state n) (sensed_of state n).now c.line =
    keeps net network n below state.round (line_of state n) (sensed_of state n) heard c at.sensed.now (record { lawful = line.lawful; begins = line.begins }) commit in
    let own : KeepsLine (plan_at net n) (line_of state n) (sensed_of state n).now new = subst (KeepsLine (plan_at net n) (line_of state n) (sensed_of state n).now) (sym same) k in
    let more : begin_of net state.round ≤ begin_of net (state.round + 1) = next-later state.round net.run.step in
    let soon : BeginBy ((sensed_of state n).now + farthest_begin) c.line =
    commit-soon net network n below state.round (line_of state n) (sensed_of state n) heard c at.sensed.now (record { lawful = line.lawful; begins = line.begins }) commit
    (subst (λ now. BeginBy (now + farthest_begin) (line_of state n)) (sym at.now) (is.soon n below)) in
    let first : (row_at new 0).from ≤ (row_at (line_of state n) 0).from =
    subst (λ (l : List Green). (row_at l 0).from ≤ (row_at (line_of state n) 0).from) (sym (same ∙ commit.line)) (spliced-first (line_of state n) c.next line.some) in
    record {
      next = record {
        lawful = own.line.lawful;
        begins = own.line.begins;
        some = some-by new (begin_of net (state.round + 1)) later;
        begun = (let begun = line.begun in omega (arith, first, begun, more));
        ends = later;
      };
      soon = λ k d inside. (let by = (subst (BeginBy ((sensed_of state n).now + farthest_begin)) (sym same) soon) k d inside in omega (arith, by, at.now, more));
      past = λ second early. own.past second (subst (λ t. second < t) (sym at.now) early);
      waits = subst (λ t. IsRound (plan_at net n) (intergreens_of net net.run.look n) t (line_of state n) new) at.now
          (subst (IsRound (plan_at net n) (intergreens_of net net.run.look n) (sensed_of state n).now (line_of state n)) (sym same)
          (continues net network n below state.round (line_of state n) (sensed_of state n) heard c at.sensed.now (record { lawful = line.lawful; begins = line.begins }) commit));
    }

module _ (net : Net) (network : IsNetwork net) (state : RoundState) (asked : Asked) (is : IsStateOf net asked state) where
  -- the forecast of the version that a board has
  back-by : (b : Bool) (old : LinkBoard) (told : List Row)
      → (if (if b then next_board old told else old).version == old.version then old.forecast else told) ≡ (if b then next_board old told else old).forecast
  back-by true old told = ap (λ t. if t then old.forecast else told) (ne_eqb (old.version + 1) old.version (λ same. omega arith))
  back-by false old told = ap (λ t. if t then old.forecast else told) (eq-eqb old.version old.version refl)

  forecast-back : (made : ℕ → Commitment) (n l : ℕ) → forecast_of net state made l (board_after net state made n l).version ≡ (board_after net state made n l).forecast
  forecast-back made n l = back-by (has_told net n l) (board_of state.boards l) (told_in net state.round l (made (publisher net l)))

  heard-back : (made : ℕ → Commitment) (n : ℕ) (xs : List ℕ)
      → map (λ (u : Used). record { link = u.link; version = u.version; forecast = forecast_of net state made u.link u.version }) (used_of (map (hearing_on (board_after net state made n)) xs)) ≡ map (hearing_on (board_after net state made n)) xs
  heard-back made n [] = refl
  heard-back made n (x ∷ xs) =
      ap (λ (f : List Row). record { link = x; version = (board_after net state made n x).version; forecast = f } ∷ map (λ (u : Used). record { link = u.link; version = u.version; forecast = forecast_of net state made u.link u.version }) (used_of (map (hearing_on (board_after net state made n)) xs))) (forecast-back made n x)
      ∙ ap (λ l. hearing_on (board_after net state made n) x ∷ l) (heard-back made n xs)

  module _ (wants : (n : ℕ) → IsAsked asked n) (waiting : Waiting) (decided : Decided) (h : HaveTurned net state (length net.node_names) waiting decided) (d : Decision) (plans : d.plans ≡ decided.plans.items) (lines : d.lines ≡ decided.lines.items) (boards : d.boards ≡ decided.boards.items) where
    boards-are : decided.boards.items ≡ map (board_after net state h.made (length net.node_names)) (range_with_len 0 (length net.link_names))
    boards-are = ext_get_or no_board decided.boards.items (map (board_after net state h.made (length net.node_names)) (range_with_len 0 (length net.link_names)))
        (h.count ∙ is.board_count ∙ sym (length-map-range_with_len (board_after net state h.made (length net.node_names)) 0 (length net.link_names)))
        (λ l inside. h.boards l (omega (arith, h.count))
        ∙ sym (get_or-map-range_with_len (board_after net state h.made (length net.node_names)) 0 (length net.link_names) l l no_board (omega (arith, h.count, is.board_count)) (let e : 0 + l ≡ l = omega arith in e)))

    all-plans : (P : PlanRecord → Type 0) → ((n : ℕ) → n < length net.node_names → P (plan_in net state h.made n)) → All P d.plans
    all-plans P each = subst (All P) (sym (plans ∙ h.plans_are)) (λ k x inside.
        let below : k < length net.node_names = omega (arith, length-map-range_with_len (plan_in net state h.made) 0 (length net.node_names)) in
        subst P (sym (get_or-map-range_with_len (plan_in net state h.made) 0 (length net.node_names) k k x below (let e : 0 + k ≡ k = omega arith in e))) (each k below))

    planned : (n : ℕ) → n < length net.node_names → IsPlannedFrom net state h.made (plan_in net state h.made n)
    planned n below =
        let c : Commitment = h.made n in
        record {
          round = refl;
          links = used-links (heard_in net state h.made n) ∙ links-on (board_after net state h.made n) (heard_links net n);
          head = c.head;
          platoons = c.platoons;
          window = c.window;
          instance = subst (λ (x : List Heard). IsProblemOf net n (line_of state n) (sensed_of state n) x c.head c.platoons c.window c.problem) (sym (heard-back h.made n (heard_links net n))) (h.commits n below).problem;
        }

    line-is : (n : ℕ) → n < length net.node_names → decided_line d n ≡ (h.made n).line
    line-is n below =
        ap (λ (l : List (List Green)). get_or l n []) (lines ∙ h.lines_are)
        ∙ get_or-map-range_with_len (λ k. (h.made k).line) 0 (length net.node_names) n n [] below (let e : 0 + n ≡ n = omega arith in e)

    goes : (n : ℕ) → n < length net.node_names → GoesOnAt net state.round n (line_of state n) (decided_line d n)
    goes n below = goes-on net network state asked is n below (wants n) (heard_in net state h.made n) (h.made n) (h.commits n below) (decided_line d n) (line-is n below)
        (subst (λ (l : List Green). begin_of net (state.round + 1) < end_of l) (sym (line-is n below)) (h.later n below))

    -- each board is one for the next round
    boards-next : All (λ (b : LinkBoard). IsForecast b.forecast) decided.boards.items → All (IsBoard (state.round + 1)) d.boards
    boards-next forecasts = subst (All (IsBoard (state.round + 1))) (sym (boards ∙ boards-are)) (λ k x inside.
        let links : ℕ = length net.link_names in
        let after : ℕ → LinkBoard = board_after net state h.made (length net.node_names) in
        let below : k < links = omega (arith, inside, length-map-range_with_len after 0 links) in
        let at : get_or (map after (range_with_len 0 links)) k x ≡ after k = get_or-map-range_with_len after 0 links k k x below (let e : 0 + k ≡ k = omega arith in e) in
        let told : IsForecast (after k).forecast = subst (λ (b : LinkBoard). IsForecast b.forecast) (ap (λ (l : List LinkBoard). get_or l k x) boards-are ∙ at) (forecasts k x (omega (arith, below, h.count, is.board_count))) in
        subst (IsBoard (state.round + 1)) (sym at) (board-next (has_told net (length net.node_names) k) state.round (board_of state.boards k) (told_in net state.round k (h.made (publisher net k))) (is.boards k no_board (omega (arith, below, is.board_count))) told))

    kept-decision : All (λ (b : LinkBoard). IsForecast b.forecast) decided.boards.items → IsKeptDecision net state d
    kept-decision forecasts = record {
      is = record { made = h.made; commits = h.commits; plans = plans ∙ h.plans_are; lines = lines ∙ h.lines_are; boards = boards ∙ boards-are };
      kept = record {
        planned = all-plans (IsPlannedFrom net state h.made) planned;
        least = all-plans (λ (p : PlanRecord). IsLeast p.instance p.answer) (λ n below. best-least (h.made n).problem (h.made n).answer (h.commits n below).answer);
        lines = goes;
        boards = boards-next forecasts;
        safe = safe net network (decided_line d) (λ n below. (goes n below).next.lawful);
      };
    }

  -- the turn of one node
  turned-boards : (n : ℕ) (d : NodeDecision) → IsTurn net state.round n (line_of state n) (sensed_of state n) state.boards d.boards d.plan d.line → All (λ (b : LinkBoard). IsForecast b.forecast) d.boards → All (IsBoard (state.round + 1)) d.boards
  turned-boards n d turn forecasts k x inside =
      let below : k < length state.boards = omega (arith, turn.boards.count, inside) in
      let old : LinkBoard = board_of state.boards k in
      let told : List Row = told_in net state.round k turn.made in
      let same : get_or d.boards k x ≡ (if tells net n k then next_board old told else old) = get_or_default d.boards k x no_board inside ∙ turn.boards.each k below in
      subst (IsBoard (state.round + 1)) (sym same) (board-next (tells net n k) state.round old told (is.boards k no_board below) (subst (λ (b : LinkBoard). IsForecast b.forecast) same (forecasts k x inside)))

  kept-turn : (n : ℕ) → n < length net.node_names → IsAsked asked n → (d : NodeDecision) → IsTurn net state.round n (line_of state n) (sensed_of state n) state.boards d.boards d.plan d.line → begin_of net (state.round + 1) < end_of d.line → All (λ (b : LinkBoard). IsForecast b.forecast) d.boards → IsKeptTurn net state n d
  kept-turn n below wanted d turn later forecasts = record {
    is = turn;
    links = ap (λ (p : PlanRecord). map (λ (u : Used). u.link) p.used) turn.plan_is ∙ used-links (heard_on net (board_of state.boards) n) ∙ links-on (board_of state.boards) (heard_links net n);
    least = subst (λ (p : PlanRecord). IsLeast p.instance p.answer) (sym turn.plan_is) (best-least turn.made.problem turn.made.answer turn.commit.answer);
    line = goes-on net network state asked is n below wanted (heard_on net (board_of state.boards) n) turn.made turn.commit d.line turn.line_is later;
    boards = turned-boards n d turn forecasts;
  }

  pub kept-turn-at : (n : ℕ) → n < length net.node_names → IsAsked asked n → (line : List Green) (sensed : Sensed) (old new : List LinkBoard) → line ≡ line_of state n → sensed ≡ sensed_of state n → old ≡ state.boards
      → (d : NodeDecision) → d.boards ≡ new → IsTurn net state.round n line sensed old new d.plan d.line → begin_of net (state.round + 1) < end_of d.line → All (λ (b : LinkBoard). IsForecast b.forecast) d.boards → IsKeptTurn net state n d
  kept-turn-at n below wanted line sensed old new lines senses boards d after turn later forecasts =
      kept-turn n below wanted d
      (subst (λ (l : List Green). IsTurn net state.round n l (sensed_of state n) state.boards d.boards d.plan d.line) lines
      (subst (λ (s : Sensed). IsTurn net state.round n line s state.boards d.boards d.plan d.line) senses
      (subst (λ (b : List LinkBoard). IsTurn net state.round n line sensed b d.boards d.plan d.line) boards
      (subst (λ (b : List LinkBoard). IsTurn net state.round n line sensed old b d.plan d.line) (sym after) turn)))) later forecasts

-- the state from which the turns began
pub kept-from : (net : Net) → IsNetwork net → (state begun : RoundState) → begun ≡ state → IsStateOf net AllNodes state → (waiting : Waiting) (decided : Decided) → HaveTurned net begun (length net.node_names) waiting decided
    → (d : Decision) → d.plans ≡ decided.plans.items → d.lines ≡ decided.lines.items → d.boards ≡ decided.boards.items → All (λ (b : LinkBoard). IsForecast b.forecast) decided.boards.items
    → IsKeptDecision net state d
kept-from net network state begun same is waiting decided turned d plans lines boards forecasts =
    kept-decision net network state AllNodes is (λ n. tt) waiting decided (subst (λ (s : RoundState). HaveTurned net s (length net.node_names) waiting decided) same turned) d plans lines boards forecasts

-- A decision from the state of a run's round is that round.
use Rattle.std.proofs.Common.{◌≡◌, ℕ, zero, suc, ◌+◌, ◌*◌, ◌<◌, ◌≤◌, true, false, List, [], ◌∷◌, Option, Some, IfSome, length, get_or, is_some, take, refl, sym, ap, subst, ◌∙◌, inl, inr, arith}
use Rattle.std.specs.Prelude.{◌&&◌, IsSome, if◌then◌else◌, nat_lt, unwrap_or}
use Rattle.std.proofs.lemmas.Bool.{and_from, and_left, cases_lt, le-ltb, lt-ltb}
use Rattle.std.proofs.lemmas.List.{get_or_past, take_more}
use Rattle.std.proofs.lemmas.List.Elements.{All-get_or}
use Rattle.std.proofs.lemmas.List.FromFn.{get_or-map-range_with_len}
use Rattle.std.proofs.lemmas.Option.{none-some}
use Rattle.board_model.specs.declared.boards.Heard.{Heard}
use Rattle.histories.specs.Histories.{IsLawful, count, turn_order, version_at}
use Rattle.histories.specs.Steps.{board_steps, publisher}
use Rattle.histories.proofs.Counts.{count-append, count-grows, count-one}
use Rattle.histories.proofs.StepLaws.{steps-beyond}
use Rattle.histories.proofs.TurnOrder.{turns-rounds}
use Rattle.histories.proofs.Versions.{made-within, version-is, version-law}
use Rattle.intersection_actor.specs.Commits.{Commitment, record_of}
use Rattle.net_parts.specs.Numbers.{Net, no_link}
use Rattle.net_parts.specs.Outline.{IsLink, link_at}
use Rattle.net_parts.specs.declared.roads.Link.{Link}
use Rattle.road_net.specs.Network.{IsNetwork, heard_links}
use Rattle.round_states.specs.declared.states.LinkBoard.{LinkBoard}
use Rattle.round_states.specs.declared.states.RoundState.{RoundState}
use Rattle.runs.proofs.Heard.{Ends, heard-ends}
use Rattle.runs.proofs.Places.{StandsAt, once, others, published}
use Rattle.runs.proofs.SameParts.{map-range-same}
use Rattle.runs.specs.Runs.{forecast_at, hearing, told_in}
use Rattle.runs.specs.declared.records.RunRecord.{RunRecord}
use Rattle.round_decisions.specs.Decisions.{IsDecision, board_after, has_told, heard_in, is_below, line_of, plan_in, sensed_of}
use Rattle.round_decisions.specs.OfRuns.{IsRoundIn, IsStateIn, IsTurnRun, board_in}
use Rattle.round_decisions.specs.Turns.{board_of, heard_on, hearing_on, next_board, no_board}
use Rattle.round_decisions.specs.declared.decisions.Decision.{Decision}
use Rattle.round_decisions.proofs.CommitLaws.{heard-as, same-commit}
use Rattle.round_decisions.proofs.RoundLaws.{after-same}
use Rattle.round_decisions.proofs.TurnPlaces.{greater-none, lesser-all}

-- the turn order is lawful
order-lawful : (net : Net) → IsNetwork net → IsLawful net (turn_order net)
order-lawful net network = turns-rounds (board_steps net) (length net.node_names) (λ q past. steps-beyond net network q past) net.run.rounds

-- a link that comes from a node, and the node, are there
pub link-there : (net : Net) → IsNetwork net → (link from : ℕ) → (link_at net link).from ≡ Some from → (link < length net.link_names) × (from < length net.node_names)
link-there net network link from comes = elim (cases_lt link (length net.links)) [
  | inl inside ↦
      let is : IsLink (length net.node_names) (link_at net link) = All-get_or (IsLink (length net.node_names)) net.links link no_link inside network.outline.links in
      (omega (arith, inside, network.outline.link_count), subst (λ o. IfSome o (λ k. k < length net.node_names)) comes is.from)
  | inr past ↦ absurd (none-some from (sym (ap (λ (l : Link). l.from) (get_or_past net.links link no_link past)) ∙ comes))
]

module _ (net : Net) (network : IsNetwork net) (r n q place : ℕ) (less : r < net.run.rounds) (below : n < length net.node_names) (first : q < length (heard_links net n)) (at : StandsAt net (turn_order net) r n q place)
    (link f : ℕ) (from : (link_at net link).from ≡ Some f) (to : (link_at net link).to ≡ Some n) where
  abbrev h : List ℕ
  h = turn_order net

  abbrev w : ℕ
  w = length (board_steps net f)

  lawful : IsLawful net h
  lawful = order-lawful net network

  bounds : (r ≤ version_at (board_steps net) h link place) × (version_at (board_steps net) h link place ≤ r + 1)
  bounds =
      let b = version-law net network link h place lawful at.inside (subst IsSome (sym from) refl) (subst IsSome (sym to) refl) in
      let round = at.round_is in
      (omega (arith, b.0, round), omega (arith, b.1, round))

  -- a link of a node with a lesser number has the version of this round
  pub version-more : f < n → version_at (board_steps net) h link place ≡ r + 1
  version-more before =
      let inside = at.inside in
      let counted : count f (take place h) ≡ r * w + w = lesser-all net network r n q place less below at f before in
      let next : (r + 1) * w ≡ r * w + w = omega arith in
      let version : version_at (board_steps net) h link place ≡ _ = version-is (board_steps net) link f (others net network h lawful link f n from to) (once net network h lawful link f n from to) h place (omega arith) in
      let made = made-within (board_steps net) link f (others net network h lawful link f n from to) (once net network h lawful link f n from to) (r + 1) (count f (take place h)) (omega arith) (omega arith) in
      omega (arith, version, made.0, bounds.1)

  -- and any other the version of the round before
  pub version-same : n ≤ f → version_at (board_steps net) h link place ≡ r
  version-same after = elim (cases_lt r (version_at (board_steps net) h link place)) [
    | inl late ↦
        let inside = at.inside in
        let (p, k, earlier, in_rounds, told, there) = published net network h lawful link f n from to place r (omega arith) (let high = bounds.1 in let e : version_at (board_steps net) h link place ≡ suc r = omega arith in e) in
        let counted : count f (take p h) ≡ r * w + k = there.counted in
        let here : get_or h p 0 ≡ f = there.node_there in
        let within = there.inside in
        let one : count f (take (p + 1) h) ≡ count f (take p h) + 1 = ap (count f) (take_more h p 0 within) ∙ count-append f (take p h) (get_or h p 0 ∷ []) ∙ ap (λ m. count f (take p h) + count f (m ∷ [])) here ∙ ap (λ c. count f (take p h) + c) (count-one f) in
        let grown = count-grows f (p + 1) place h (omega arith) in
        elim (cases_lt n f) [
          | inl greater ↦ absurd (omega (arith, grown, one, counted, greater-none net network r n q place less below at f greater))
          | inr least ↦
              let same : f ≡ n = omega arith in
              let own : count f (take place h) ≡ r * w + q = ap (λ m. count m (take place h)) same ∙ at.counted ∙ ap (λ m. r * length (board_steps net m) + q) (sym same) in
              let past : length (heard_links net n) ≤ k = subst (λ m. length (heard_links net m) ≤ k) same told in
              absurd (omega (arith, grown, one, counted, own, past, first))
        ]
    | inr early ↦ (let low = bounds.0 in omega arith)
  ]

module _ (net : Net) (network : IsNetwork net) (arriving : ℕ → ℕ → ℕ) (heard : ℕ → ℕ → List Heard) (made : ℕ → ℕ → Commitment) (run : RunRecord) (is : IsTurnRun net arriving heard made run) (state : RoundState) (at : IsStateIn net arriving made state) where
  abbrev r : ℕ
  r = state.round

  -- the board of a link that a node hears is that which the link has at the place of its reading
  board-at : (n q place : ℕ) → n < length net.node_names → q < length (heard_links net n) → StandsAt net (turn_order net) state.round n q place → (link : ℕ) → Ends net n link
      → hearing net made link (version_at (board_steps net) (turn_order net) link place) ≡ hearing_on (board_after net state (made state.round) n) link
  board-at n q place below first stands link ends = elim (cases_lt ends.teller n) [
    | inl before ↦
        let told : has_told net n link ≡ true =
        ap (λ o. is_below n o && is_some (link_at net link).to) ends.from
        ∙ and_from (nat_lt ends.teller n) (is_some (link_at net link).to) (lt-ltb ends.teller n before) (ap is_some ends.to) in
        let board : board_after net state (made state.round) n link ≡ next_board (board_of state.boards link) (told_in net state.round link (made state.round (publisher net link))) =
        ap (λ b. if b then next_board (board_of state.boards link) (told_in net state.round link (made state.round (publisher net link))) else board_of state.boards link) told in
        let version : (board_of state.boards link).version ≡ state.round = ap (λ (b : LinkBoard). b.version) (at.boards link ends.teller n ends.from ends.to) in
        ap (λ v. hearing net made link v) (version-more net network state.round n q place at.round below first stands link ends.teller ends.from ends.to before ∙ (let e : state.round + 1 ≡ suc state.round = omega arith in e))
        ∙ ap (λ v. record { link = link; version = v; forecast = told_in net state.round link (made state.round (publisher net link)) }) (let e : suc state.round ≡ (board_of state.boards link).version + 1 = omega (arith, version) in e)
        ∙ sym (ap (λ (b : LinkBoard). record { link = link; version = b.version; forecast = b.forecast }) board)
    | inr after ↦
        let told : has_told net n link ≡ false =
        ap (λ o. is_below n o && is_some (link_at net link).to) ends.from ∙ and_left (nat_lt ends.teller n) (is_some (link_at net link).to) (le-ltb ends.teller n after) in
        let board : board_after net state (made state.round) n link ≡ board_of state.boards link =
        ap (λ b. if b then next_board (board_of state.boards link) (told_in net state.round link (made state.round (publisher net link))) else board_of state.boards link) told in
        ap (λ v. hearing net made link v) (version-same net network state.round n q place at.round below first stands link ends.teller ends.from ends.to after)
        ∙ sym (ap (λ (b : LinkBoard). record { link = link; version = b.version; forecast = b.forecast }) (board ∙ at.boards link ends.teller n ends.from ends.to))
  ]

  heard-is : (n : ℕ) → n < length net.node_names → heard state.round n ≡ heard_in net state (made state.round) n
  heard-is n below = heard-as net network arriving (turn_order net) (order-lawful net network) heard made is.by.commits is.along state.round n at.round below (hearing_on (board_after net state (made state.round) n))
      (λ q place first stands. board-at n q place below first stands (get_or (heard_links net n) q 0) (heard-ends net n q network first))

  module _ (d : Decision) (decision : IsDecision net state d) where
    -- what is heard rests on the commits of the nodes before
    heard-by : (n : ℕ) → ((k : ℕ) → k < n → decision.made k ≡ made state.round k) → heard_in net state decision.made n ≡ heard_in net state (made state.round) n
    heard-by n same = ap (λ (boards : ℕ → LinkBoard). heard_on net boards n) (λ i link. after-same net state decision.made (made state.round) n same link i)

    commit-same : (n : ℕ) → n < length net.node_names → ((k : ℕ) → k < n → decision.made k ≡ made state.round k) → decision.made n ≡ made state.round n
    commit-same n below same = same-commit net arriving heard made net.run.rounds is.by.commits state.round n at.round below (line_of state n) (sensed_of state n) (heard_in net state decision.made n) (at.lines n below) (at.sensed n below)
        (heard-by n same ∙ sym (heard-is n below)) (decision.made n) (decision.commits n below)

    all-same : (m : ℕ) → m ≤ length net.node_names → (k : ℕ) → k < m → decision.made k ≡ made state.round k
    all-same zero most k less = absurd (omega arith)
    all-same (suc m) most k less = elim (cases_lt k m) [
      | inl before ↦ all-same m (omega arith) k before
      | inr last ↦ subst (λ j. decision.made j ≡ made state.round j) (let e : m ≡ k = omega arith in e) (commit-same m (omega arith) (all-same m (omega arith)))
    ]

    -- each board on which a node tells another one
    board-in : (link from to : ℕ) → (link_at net link).from ≡ Some from → (link_at net link).to ≡ Some to → board_of d.boards link ≡ board_in net made link (state.round + 1)
    board-in link from to comes goes =
        let (exists, below) = link-there net network link from comes in
        let told : has_told net (length net.node_names) link ≡ true =
        ap (λ o. is_below (length net.node_names) o && is_some (link_at net link).to) comes
        ∙ and_from (nat_lt from (length net.node_names)) (is_some (link_at net link).to) (lt-ltb from (length net.node_names) below) (ap is_some goes) in
        let tells : publisher net link ≡ from = ap (λ (o : Option ℕ). unwrap_or o 0) comes in
        let same : decision.made (publisher net link) ≡ made state.round (publisher net link) = all-same (length net.node_names) (omega arith) (publisher net link) (omega (arith, tells, below)) in
        let next : state.round + 1 ≡ suc state.round = omega arith in
        ap (λ (b : List LinkBoard). board_of b link) decision.boards
        ∙ get_or-map-range_with_len (board_after net state decision.made (length net.node_names)) 0 (length net.link_names) link link no_board exists (let e : 0 + link ≡ link = omega arith in e)
        ∙ ap (λ b. if b then next_board (board_of state.boards link) (told_in net state.round link (decision.made (publisher net link))) else board_of state.boards link) told
        ∙ ap (λ (b : LinkBoard). next_board b (told_in net state.round link (decision.made (publisher net link)))) (at.boards link from to comes goes)
        ∙ ap (λ (c : Commitment). record { version = state.round + 1; forecast = told_in net state.round link c }) same
        ∙ sym (ap (λ v. record { version = state.round + 1; forecast = forecast_at net made link v }) next)

    pub round-in : IsRoundIn net heard made state.round d
    round-in = record {
      plans = decision.plans ∙ map-range-same (plan_in net state decision.made) (λ n. record_of n state.round (heard state.round n) (made state.round n)) 0 (length net.node_names) (λ n least less.
          let below : n < length net.node_names = omega arith in
          let same : (k : ℕ) → k < n → decision.made k ≡ made state.round k = λ k early. all-same n (omega arith) k early in
          ap (λ (x : List Heard). record_of n state.round x (decision.made n)) (heard-by n same ∙ sym (heard-is n below)) ∙ ap (record_of n state.round (heard state.round n)) (commit-same n below same));
      lines = decision.lines ∙ map-range-same (λ n. (decision.made n).line) (λ n. (made state.round n).line) 0 (length net.node_names) (λ n least less. ap (λ (c : Commitment). c.line) (all-same (length net.node_names) (omega arith) n (omega arith)));
      boards = board-in;
    }

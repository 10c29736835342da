-- A chain of own turns makes a run of the read-first order.
use Rattle.std.proofs.Common.{◌≡◌, ℕ, zero, suc, ◌<◌, ◌≤◌, List, [], ◌∷◌, get_or, length, map, refl, sym, ap, subst, ◌∙◌, inl, inr, arith}
use Rattle.std.specs.Prelude.{◌⊎◌}
use Rattle.std.specs.List.{range_with_len}
use Rattle.std.proofs.lemmas.Bool.{cases_lt}
use Rattle.std.proofs.lemmas.List.{get_or-map, length-map}
use Rattle.board_model.specs.declared.boards.Heard.{Heard}
use Rattle.control_flow.specs.Greens.{spliced}
use Rattle.control_flow.specs.Timelines.{first_head, rotation_of}
use Rattle.control_flow.specs.declared.greens.Green.{Green}
use Rattle.histories.specs.Histories.{read_first, round_at, version_at}
use Rattle.histories.specs.Steps.{board_steps}
use Rattle.histories.proofs.ReadFirst.{read-first-lawful, reads-round-before}
use Rattle.histories.proofs.StepLaws.{read-first}
use Rattle.intersection_actor.specs.Commits.{Commitment, IsCommit}
use Rattle.net_parts.specs.Numbers.{Net}
use Rattle.net_parts.specs.Outline.{plan_at}
use Rattle.net_simulator.specs.Sums.{end_of_run, link_totals, totals}
use Rattle.road_net.specs.Network.{IsNetwork, heard_links}
use Rattle.road_net.specs.declared.senses.Sensed.{Sensed}
use Rattle.round_states.specs.declared.states.RoundState.{RoundState}
use Rattle.runs.proofs.Places.{step-of}
use Rattle.runs.proofs.Resting.{no_commitment}
use Rattle.runs.specs.Runs.{AllCommit, Commits, HearAlong, cumulative_by, hearing, line_before, plans_of, sensed_in}
use Rattle.round_decisions.specs.Decisions.{line_of, sensed_of}
use Rattle.round_decisions.specs.OwnTurns.{IsOwnChain, IsOwnRun}
use Rattle.round_decisions.specs.Turns.{board_of, heard_on}
use Rattle.round_decisions.specs.declared.decisions.NodeDecision.{NodeDecision}
use Rattle.round_decisions.proofs.CommitLaws.{commit-whole}
use Rattle.round_decisions.proofs.OwnTurnLaws.{IsTurnBy, chain-begins, heard-is, own-chain, turn-by}
use Rattle.round_decisions.proofs.RunChains.{Begins}

-- the links of what is heard of each of some links
links-of : (net : Net) (made : ℕ → ℕ → Commitment) (version : ℕ) (links : List ℕ) → map (λ (h : Heard). h.link) (map (λ link. hearing net made link version) links) ≡ links
links-of net made version [] = refl
links-of net made version (link ∷ links) = ap (λ l. link ∷ l) (links-of net made version links)

module _ (net : Net) (network : IsNetwork net) (arriving : ℕ → ℕ → ℕ) (states : ℕ → ℕ → RoundState) (turns : ℕ → ℕ → NodeDecision) (chain : IsOwnChain net arriving states turns) where
  -- the commit of each turn
  abbrev pick : (r n : ℕ) → (r < net.run.rounds) ⊎ (net.run.rounds ≤ r) → (n < length net.node_names) ⊎ (length net.node_names ≤ n) → Commitment
  pick r n (inl less) (inl below) = (chain.turned r n less below).made
  pick r n (inl less) (inr past) = no_commitment
  pick r n (inr over) s = no_commitment

  own : ℕ → ℕ → Commitment
  own r n = pick r n (cases_lt r net.run.rounds) (cases_lt n (length net.node_names))

  own-turn : (r n : ℕ) → r < net.run.rounds → n < length net.node_names → IsTurnBy net (states r n) n (turns r n) (own r n)
  unfolding own
  own-turn r n less below = by (cases_lt r net.run.rounds) (cases_lt n (length net.node_names))
    where
      by : (s : (r < net.run.rounds) ⊎ (net.run.rounds ≤ r)) (t : (n < length net.node_names) ⊎ (length net.node_names ≤ n)) → IsTurnBy net (states r n) n (turns r n) (pick r n s t)
      by (inl one) (inl two) = turn-by net (states r n) n (turns r n) (chain.turned r n one two)
      by (inl one) (inr past) = absurd (omega arith)
      by (inr over) t = absurd (omega arith)

  -- the whole lines, of which the turns drop rows
  abbrev whole : ℕ → ℕ → List Green
  whole zero n = rotation_of (plan_at net n) first_head 0
  whole (suc r) n = spliced (whole r n) (own r n).next

  abbrev made : ℕ → ℕ → Commitment
  made r n = record (own r n) { line = whole (suc r) n }

  abbrev heard : ℕ → ℕ → List Heard
  heard r n = map (λ link. hearing net made link r) (heard_links net n)

  line-whole : (r n : ℕ) → line_before net made r n ≡ whole r n
  line-whole zero n = refl
  line-whole (suc r) n = refl

  commits-at : (r : ℕ) → r < net.run.rounds → AllCommit net arriving heard made r → (n : ℕ) → n < length net.node_names → Commits net arriving heard made r n
  commits-at r less before n below =
      let few : r ≤ net.run.rounds = omega arith in
      let begins = chain-begins net network arriving heard made r before few (λ q m early inside. refl) states turns chain r (omega arith) less n below in
      let round : (states r n).round ≡ r = chain.rounds r n less below in
      let turn : IsTurnBy net (states r n) n (turns r n) (own r n) = own-turn r n less below in
      let hears : heard_on net (board_of (states r n).boards) n ≡ heard r n = subst (λ q. heard_on net (board_of (states r n).boards) n ≡ heard q n) round
      (heard-is net network arriving heard made r before few (λ q m early inside. refl) (states r n) n (omega (arith, round, less)) below
      (subst (λ q. Begins net arriving made q n (sensed_of (states r n) n) (line_of (states r n) n) (board_of (states r n).boards)) (sym round) begins)) in
      record {
        links = links-of net made r (heard_links net n);
        commit = subst (λ (l : List Green). IsCommit net n r (line_before net made r n) (sensed_in net arriving made r n) (heard r n) (record (own r n) { line = spliced l (own r n).next })) (line-whole r n)
            (commit-whole net arriving heard made r before network few r n (omega arith) below (line_of (states r n) n) (sensed_in net arriving made r n) (heard r n) begins.left (own r n)
            (subst (λ (s : Sensed). IsCommit net n r (line_of (states r n) n) s (heard r n) (own r n)) begins.senses
            (subst (λ (x : List Heard). IsCommit net n r (line_of (states r n) n) (sensed_of (states r n) n) x (own r n)) hears
            (subst (λ q. IsCommit net n q (line_of (states r n) n) (sensed_of (states r n) n) (heard_on net (board_of (states r n).boards) n) (own r n)) round turn.commit))));
      }

  committed : (r : ℕ) → r ≤ net.run.rounds → AllCommit net arriving heard made r
  committed zero most q n less below = absurd (omega arith)
  committed (suc r) most q n less below = elim (cases_lt q r) [
    | inl before ↦ committed r (omega arith) q n before below
    | inr last ↦ subst (λ k. Commits net arriving heard made k n) (let e : r ≡ q = omega arith in e) (commits-at r (omega arith) (committed r (omega arith)) n below)
  ]

  all-committed : AllCommit net arriving heard made net.run.rounds
  all-committed = committed net.run.rounds (omega arith)

  along : HearAlong net (read_first net) heard made
  along place link inside is =
      let (round, k, less, at) = step-of net network (read_first net) (read-first-lawful net network) place inside in
      let n : ℕ = get_or (read_first net) place 0 in
      let (first, there) = read-first net n k link at.small (sym at.step_is ∙ is) in
      let heard-of : ℕ → Heard = λ l. hearing net made l (round_at (board_steps net) (read_first net) place) in
      let x : Heard = hearing net made link (version_at (board_steps net) (read_first net) link place) in (
        k,
        omega (arith, first, length-map (heard_links net n) heard-of),
        get_or-map heard-of (heard_links net n) k 0 x first ∙ ap heard-of there ∙ ap (hearing net made link) (sym (reads-round-before net network place link inside is)),
      )

  pub own-run : IsOwnRun net arriving turns
  own-run = record {
    record_of_run = record {
      plans = plans_of net heard made net.run.rounds;
      timelines = map (line_before net made net.run.rounds) (range_with_len 0 (length net.node_names));
      links = map (link_totals net (cumulative_by net arriving made (end_of_run net)) (end_of_run net)) (range_with_len 0 (length net.link_names));
      totals = totals net arriving (cumulative_by net arriving made (end_of_run net)) (end_of_run net);
    };
    run = record { heard = heard; made = made; by = record { commits = all-committed; plans = refl; timelines = refl; links = refl; all = refl }; along = along };
    is = own-chain net network arriving heard made all-committed (λ q m early inside. refl) states turns chain;
  }

-- A node's turn.
use Rattle.std.proofs.Common.{◌≡◌, ℕ, ◌+◌, ◌*◌, ◌<◌, List, [], ◌∷◌, ◌++◌, All, length, map, get_or, sym, ap, subst, ◌∙◌, arith, append-nil}
use Rattle.std.proofs.lemmas.List.{get_or_default, length_push}
use Rattle.board_model.specs.declared.boards.Heard.{Heard}
use Rattle.board_model.specs.declared.forecasts.Row.{Row}
use Rattle.clusters.specs.Windows.{counts_of}
use Rattle.control_flow.specs.Greens.{end_of}
use Rattle.control_flow.specs.declared.greens.Green.{Green}
use Rattle.intersection_actor.specs.Acting.{Acting, at_rest, begun, reading, tells_from, wanting}
use Rattle.intersection_actor.specs.Commits.{Commitment, IsCommit, phases_of, record_of}
use Rattle.intersection_actor.specs.Rounds.{IsCommitted, KeepsPast}
use Rattle.intersection_actor.specs.declared.records.PlanRecord.{PlanRecord}
use Rattle.intersection_actor.specs.declared.records.Want.TheVariants.{Done}
use Rattle.net_parts.specs.Numbers.{Net}
use Rattle.outflow.specs.Outflow.{departures, told_forecast}
use Rattle.road_net.specs.Network.{IsNetwork, heard_links}
use Rattle.road_net.specs.declared.senses.Sensed.{Sensed}
use Rattle.round_states.specs.States.{begin_of}
use Rattle.round_states.specs.declared.states.LinkBoard.{LinkBoard}
use Rattle.runs.proofs.Heard.{heard-ends}
use Rattle.runs.specs.Runs.{told_in}
use Rattle.round_decisions.specs.Steps.{HasHeard, HasPlayed, MayTell, outgoing}
use Rattle.round_decisions.specs.Turns.{ArePublished, IsTurn, board_of, heard_on, hearing_on, published}

-- the links on which a node hears another one have boards
pub heard-there : (net : Net) (network : IsNetwork net) (n : ℕ) (boards : List LinkBoard) → length boards ≡ length net.link_names → All (λ l. l < length boards) (heard_links net n)
heard-there net network n boards count k d inside =
    let ends = heard-ends net n k network inside in
    let there = ends.exists in
    subst (λ l. l < length boards) (any (heard_links net n) k d inside) (omega (arith, there, count, network.outline.road_count))
  where
    any : (xs : List ℕ) (k d : ℕ) → k < length xs → get_or xs k 0 ≡ get_or xs k d
    any xs k d within = get_or_default xs k 0 d within

-- what is told along equal functions
same-published : (net : Net) (n m : ℕ) (told other : ℕ → List Row) (old new : List LinkBoard) → n ≡ m → ((l : ℕ) → told l ≡ other l) → ArePublished net n told old new → ArePublished net m other old new
same-published net n m told other old new nodes same is = record {
  count = is.count;
  each = λ l inside. is.each l inside ∙ ap (λ f. published net n (λ k. f) (board_of old) l) (same l) ∙ ap (λ k. published net k other (board_of old) l) nodes;
}

module _ (net : Net) (round : ℕ) (sensed : Sensed) (old new : List LinkBoard) (a b c d e : Acting) (starts : sensed.now ≡ begin_of net round)
    (begins : b ≡ begun net round sensed a) (heard : HasHeard old b c) (all : c.left ≡ []) (committed : IsCommitted net c d) (kept : KeepsPast net c d) (told : ArePublished net d.node (outgoing net d) old new) (done : e ≡ wanting Done d) where
  abbrev made : Commitment
  made = committed.made

  abbrev own : List Heard
  own = heard_on net (board_of old) a.node

  heard-c : c.heard ≡ own
  heard-c =
      sym (append-nil c.heard) ∙ ap (λ (l : List ℕ). c.heard ++ map (hearing_on (board_of old)) l) (sym all) ∙ heard.whole
      ∙ ap (λ (x : Acting). x.heard ++ map (hearing_on (board_of old)) x.left) begins

  -- the actor that has read all is the one that has begun the round, but for what it has heard
  has-heard : c ≡ record (begun net round sensed a) { want = c.want; left = c.left; heard = own }
  has-heard = heard.actor ∙ (λ i. record (begins i) { want = c.want; left = c.left; heard = heard-c i })

  node-d : d.node ≡ a.node
  node-d = ap (λ (x : Acting). x.node) committed.all ∙ ap (λ (x : Acting). x.node) has-heard

  commit : IsCommit net a.node round a.line sensed own made
  commit = subst (λ (x : Acting). IsCommit net x.node x.round x.line x.sensed x.heard made) has-heard committed.is

  -- what it tells is what its commit tells
  tells-made : (link : ℕ) → outgoing net d link ≡ told_in net round link made
  tells-made link =
      ap (λ (x : Acting). told_forecast net link x.sensed.now (departures x.window.lists (counts_of x.window.lists) x.phases x.served)) committed.all
      ∙ ap (λ (now : ℕ). told_forecast net link now (departures made.window.lists (counts_of made.window.lists) (phases_of made.answer) made.served)) (ap (λ (x : Acting). x.sensed.now) has-heard ∙ starts)

  pub played : HasPlayed net round sensed old new a e
  played = record {
    made = made;
    commit = commit;
    line = ap (λ (x : Acting). x.line) done ∙ ap (λ (x : Acting). x.line) committed.all;
    records =
        ap (λ (x : Acting). x.records) done ∙ ap (λ (x : Acting). x.records) committed.all
        ∙ ap (λ (x : Acting). x.records ++ record_of x.node x.round x.heard made ∷ []) has-heard;
    later = subst (λ (l : List Green). begin_of net (round + 1) < end_of l) (sym (ap (λ (x : Acting). x.line) done)) (subst (λ (x : Acting). (x.round + 1) * net.run.step < end_of d.line) has-heard kept.later);
    boards = same-published net d.node a.node (outgoing net d) (λ link. told_in net round link made) old new node-d tells-made told;
  }

-- what the steps of a turn ask for
pub began-want : (net : Net) (round : ℕ) (sensed : Sensed) (a b : Acting) → b ≡ begun net round sensed a → b.want ≡ reading b.left
began-want net round sensed a b begins = ap (λ (x : Acting). x.want) begins ∙ ap reading (sym (ap (λ (x : Acting). x.left) begins))

pub began-there : (net : Net) → IsNetwork net → (round : ℕ) (sensed : Sensed) (boards : List LinkBoard) (a b : Acting) → b ≡ begun net round sensed a → length boards ≡ length net.link_names → All (λ l. l < length boards) b.left
began-there net network round sensed boards a b begins count = subst (All (λ l. l < length boards)) (sym (ap (λ (x : Acting). x.left) begins)) (heard-there net network a.node boards count)

pub committed-want : (net : Net) (c d : Acting) → IsCommitted net c d → d.want ≡ tells_from net d.node 0
committed-want net c d committed = ap (λ (x : Acting). x.want) committed.all ∙ ap (λ n. tells_from net n 0) (sym (ap (λ (x : Acting). x.node) committed.all))

pub committed-below : (net : Net) (round : ℕ) (sensed : Sensed) (boards : List LinkBoard) (a b c d : Acting) → b ≡ begun net round sensed a → HasHeard boards b c → IsCommitted net c d → MayTell net a.node boards → MayTell net d.node boards
committed-below net round sensed boards a b c d begins heard committed =
    subst (λ n. MayTell net n boards) (sym (ap (λ (x : Acting). x.node) committed.all ∙ ap (λ (x : Acting). x.node) heard.actor ∙ ap (λ (x : Acting). x.node) begins))

-- the one record of an actor that was at rest
last-one : (rest : List PlanRecord) (plan own : PlanRecord) → own ∷ [] ≡ rest ++ plan ∷ [] → plan ≡ own
last-one [] plan own e = same e
  where
    same : own ∷ [] ≡ plan ∷ [] → plan ≡ own
    same e = cc
last-one (first ∷ rest) plan own e = absurd (omega (arith, ap length e, length_push rest plan))

-- an actor that was at rest has one record after a round
pub played-one : (net : Net) (round node : ℕ) (line : List Green) (sensed : Sensed) (old new : List LinkBoard) (a b : Acting) → a ≡ at_rest node line → HasPlayed net round sensed old new a b → length b.records ≡ 1
played-one net round node line sensed old new a b rests played =
    let none : a.records ≡ [] = ap (λ (x : Acting). x.records) rests in
    omega (arith, ap length played.records, length_push a.records (record_of a.node round (heard_on net (board_of old) a.node) played.made), ap length none)

-- and its last record is all of them
pub popped-one : (own records rest : List PlanRecord) (plan : PlanRecord) → records ≡ own → length own ≡ 1 → records ≡ rest ++ plan ∷ [] → own ≡ plan ∷ []
popped-one own records [] plan same one last = sym same ∙ last
popped-one own records (first ∷ rest) plan same one last = absurd (omega (arith, ap length last, ap length same, length_push rest plan))

pub turn-is : (net : Net) (round node : ℕ) (line : List Green) (sensed : Sensed) (old new : List LinkBoard) (a b : Acting) → a ≡ at_rest node line → HasPlayed net round sensed old new a b
    → (plan : PlanRecord) (after : List Green) (records rest : List PlanRecord) → after ≡ b.line → records ≡ b.records → records ≡ rest ++ plan ∷ [] → IsTurn net round node line sensed old new plan after
turn-is net round node line sensed old new a b rests played plan after records rest lines same last = by (subst (λ (x : Acting). HasPlayed net round sensed old new x b) rests played)
  where
    by : HasPlayed net round sensed old new (at_rest node line) b → IsTurn net round node line sensed old new plan after
    by p = record {
      made = p.made;
      commit = p.commit;
      plan_is = last-one rest plan (record_of node round (heard_on net (board_of old) node) p.made) (sym p.records ∙ sym same ∙ last);
      line_is = lines ∙ p.line;
      boards = p.boards;
    }

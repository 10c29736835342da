-- A node's round.
use Rattle.std.proofs.Common.{◌≡◌, ℕ, suc, ◌+◌, ◌*◌, ◌<◌, Bool, true, false, List, [], ◌∷◌, ◌++◌, All, length, map, get_or, refl, sym, ap, subst, ◌∙◌, arith, append-nil, if◌then◌else◌}
use Rattle.std.specs.Prelude.{Contains}
use Rattle.std.proofs.lemmas.List.{get_or-map, length-map, map-append}
use Rattle.std.proofs.lemmas.List.Elements.{All-append, All-weaker}
use Rattle.std.proofs.lemmas.Option.{slice_get_past}
use Rattle.board_model.specs.declared.boards.Heard.{Heard}
use Rattle.board_model.specs.declared.calls.Call.{Call}
use Rattle.link_boards.specs.Passes.{AreInOrder, PassView}
use Rattle.clusters.specs.Windows.{counts_of}
use Rattle.control_flow.specs.Greens.{end_of}
use Rattle.control_flow.specs.declared.greens.Green.{Green}
use Rattle.histories.specs.Steps.{board_steps}
use Rattle.histories.specs.declared.steps.BoardStep.TheVariants as steps
use Rattle.intersection_actor.specs.Acting.{Acting, begun, resting, telling}
use Rattle.intersection_actor.specs.Commits.{Commitment, IsCommit, phases_of, record_of}
use Rattle.intersection_actor.specs.Rounds.{IsCommitted, IsOf, KeepsPast}
use Rattle.intersection_actor.specs.declared.records.Want.TheVariants.{Done}
use Rattle.histories.specs.Calls.{step_of}
use Rattle.net_parts.specs.Numbers.{Net}
use Rattle.net_simulator.specs.Worlds.{WorldState}
use Rattle.outflow.specs.Outflow.{departures, told_forecast}
use Rattle.road_net.specs.Network.{heard_links, told_links}
use Rattle.road_net.specs.declared.senses.Sensed.{Sensed}
use Rattle.runs.specs.Runs.{told_in}
use Rattle.node_rounds.specs.Nodes.{HasHeard, HasPlayed, HasTold, IsSeen, outgoing}
use Rattle.node_rounds.specs.Told.{AreCallsOf, heard_of}
use Rattle.node_rounds.proofs.Made.{made-both}

-- the steps of readings
step-of-read : (b : Bool) (l : ℕ) → b ≡ false → (if b then steps.Publish l else steps.Read l) ≡ steps.Read l
step-of-read false l e = refl
step-of-read true l e = absurd (let z : true ≡ false = e in cc)

read-steps : (calls : List Call) → All (λ (c : Call). c.publishes ≡ false) calls → map step_of calls ≡ map steps.Read (map (λ (c : Call). c.link) calls)
read-steps [] all = refl
read-steps (c ∷ calls) all = ap (λ s. s ∷ map step_of calls) (step-of-read c.publishes c.link (all 0 c (omega arith))) ∙ ap (λ l. steps.Read c.link ∷ l) (read-steps calls (λ k d inside. all (suc k) d (omega arith)))

-- what is told of links
links-heard : (calls : List Call) → map (λ (h : Heard). h.link) (map heard_of calls) ≡ map (λ (c : Call). c.link) calls
links-heard [] = refl
links-heard (c ∷ calls) = ap (λ l. c.link ∷ l) (links-heard calls)

-- what is read is heard
all-heard : (calls : List Call) → All (λ (c : Call). Contains (map heard_of calls) (heard_of c)) calls
all-heard calls k d inside = (k, omega (arith, length-map calls heard_of), get_or-map heard_of calls k d (heard_of (get_or calls k d)) inside)

no-publish : (P : Call → Type 0) (calls : List Call) → All (λ (c : Call). c.publishes ≡ false) calls → All (λ (c : Call). c.publishes ≡ true → P c) calls
no-publish P calls reads = All-weaker (λ (c : Call). c.publishes ≡ false) (λ (c : Call). c.publishes ≡ true → P c) (λ c reads_it publishes_it. absurd (never (sym reads_it ∙ publishes_it))) calls reads
  where
    never : false ≡ true → ⊥
    never e = cc

-- calls whose steps publish are no readings
publishes-all : (calls : List Call) (links : List ℕ) → map step_of calls ≡ map steps.Publish links → All (λ (c : Call). c.publishes ≡ false → ⊥) calls
publishes-all calls links same k d inside reads =
    let c : Call = get_or calls k d in
    let there : k < length links = omega (arith, ap length same, length-map calls step_of, length-map links steps.Publish) in
    let e : steps.Read c.link ≡ steps.Publish (get_or links k 0) =
    sym (step-of-read c.publishes c.link reads) ∙ sym (get_or-map step_of calls k d (step_of d) inside) ∙ ap (λ l. get_or l k (step_of d)) same ∙ get_or-map steps.Publish links k 0 (step_of d) there in
    never c.link (get_or links k 0) e
  where
    never : (l m : ℕ) → steps.Read l ≡ steps.Publish m → ⊥
    never l m e = cc

-- after its last publishing it has done its round
pub is-done : (net : Net) (d e : Acting) (q r : PassView) → HasTold net d e q r (told_links net d.node) → e.want ≡ Done
is-done net d e q r told = ap (λ (x : Acting). x.want) told.actor ∙ ap telling (slice_get_past (told_links net d.node) (length (told_links net d.node)) (omega arith))

module _ (net : Net) (round : ℕ) (world : WorldState) (a b c d e f : Acting) (p q r : PassView) (sensed : Sensed) (seen : IsSeen net world a.node sensed) (begins : b ≡ begun net round sensed a)
    (heard : HasHeard b c p q) (all : c.left ≡ []) (committed : IsCommitted net c d) (kept : KeepsPast net c d) (told : HasTold net d e q r (told_links net d.node)) (rests : f ≡ resting e) (of : IsOf net f) (order : AreInOrder r.known r.calls) where
  abbrev made : Commitment
  made = committed.made

  abbrev hears : List Heard
  hears = map heard_of heard.calls

  -- the actor that has read all is the one that has begun the round, but for what it has heard
  has-heard : c ≡ record (begun net round sensed a) { want = c.want; left = c.left; heard = hears }
  has-heard = heard.actor ∙ ap (λ (x : Acting). record x { want = c.want; left = c.left; heard = x.heard ++ hears }) begins

  node-d : d.node ≡ a.node
  node-d = ap (λ (x : Acting). x.node) committed.all ∙ ap (λ (x : Acting). x.node) has-heard

  links : map (λ (x : Call). x.link) heard.calls ≡ heard_links net a.node
  links =
      sym (append-nil (map (λ (x : Call). x.link) heard.calls)) ∙ ap (λ l. map (λ (x : Call). x.link) heard.calls ++ l) (sym all) ∙ heard.links
      ∙ ap (λ (x : Acting). x.left) begins

  commit : IsCommit net a.node round a.line sensed hears made
  commit = subst (λ (x : Acting). IsCommit net x.node x.round x.line x.sensed x.heard made) has-heard committed.is

  -- what it tells on a link
  tells-is : (link : ℕ) → outgoing net link d ≡ told_in net round link made
  tells-is link =
      ap (outgoing net link) committed.all
      ∙ ap (λ (x : Acting). told_forecast net link x.sensed.now (departures made.window.lists (counts_of made.window.lists) (phases_of made.answer) made.served)) has-heard
      ∙ ap (λ n. told_forecast net link n (departures made.window.lists (counts_of made.window.lists) (phases_of made.answer) made.served)) commit.now

  abbrev calls : List Call
  calls = heard.calls ++ told.calls

  steps-are : map step_of calls ≡ board_steps net a.node
  steps-are =
      map-append step_of heard.calls told.calls ∙ ap (λ l. l ++ map step_of told.calls) (read-steps heard.calls heard.reads) ∙ ap (λ l. map steps.Read l ++ map step_of told.calls) links
      ∙ ap (λ l. map steps.Read (heard_links net a.node) ++ l) told.steps ∙ ap (λ k. map steps.Read (heard_links net a.node) ++ map steps.Publish (told_links net k)) node-d

  of-round : AreCallsOf net round a.node hears made calls
  of-round = record {
    steps = steps-are;
    hears = All-append (λ (x : Call). x.publishes ≡ false → Contains hears (heard_of x)) heard.calls told.calls
        (All-weaker (λ (x : Call). Contains hears (heard_of x)) (λ (x : Call). x.publishes ≡ false → Contains hears (heard_of x)) (λ x h reads. h) heard.calls (all-heard heard.calls))
        (All-weaker (λ (x : Call). x.publishes ≡ false → ⊥) (λ (x : Call). x.publishes ≡ false → Contains hears (heard_of x)) (λ x h reads. absurd (h reads)) told.calls (publishes-all told.calls (told_links net d.node) told.steps));
    tells = All-append (λ (x : Call). x.publishes ≡ true → x.forecast ≡ told_in net round x.link made) heard.calls told.calls
        (no-publish (λ (x : Call). x.forecast ≡ told_in net round x.link made) heard.calls heard.reads)
        (All-weaker (λ (x : Call). x.forecast ≡ outgoing net x.link d) (λ (x : Call). x.publishes ≡ true → x.forecast ≡ told_in net round x.link made) (λ x h publishes. h ∙ tells-is x.link) told.calls told.tells);
  }

  pub played : HasPlayed net round world a f p r
  played = (
    record { sensed = sensed; heard = hears; made = made; calls = calls },
    record {
      sensed = seen;
      heard = links-heard heard.calls ∙ links;
      commit = commit;
      rests = record {
        node = ap (λ (x : Acting). x.node) rests ∙ ap (λ (x : Acting). x.node) told.actor ∙ node-d;
        of = of;
        want = ap (λ (x : Acting). x.want) rests ∙ is-done net d e q r told;
        line = ap (λ (x : Acting). x.line) rests ∙ ap (λ (x : Acting). x.line) told.actor ∙ ap (λ (x : Acting). x.line) committed.all;
        ahead =
            subst (λ (l : List Green). (round + 1) * net.run.step < end_of l) (sym (ap (λ (x : Acting). x.line) rests ∙ ap (λ (x : Acting). x.line) told.actor))
            (subst (λ (x : Acting). (x.round + 1) * net.run.step < end_of d.line) has-heard kept.later);
        records =
            ap (λ (x : Acting). x.records) rests ∙ ap (λ (x : Acting). x.records) told.actor ∙ ap (λ (x : Acting). x.records) committed.all
            ∙ ap (λ (x : Acting). x.records ++ record_of x.node x.round x.heard made ∷ []) has-heard;
      };
      calls = of-round;
      made = made-both p q r heard.calls told.calls heard.made told.made;
      order = order;
    },
  )

-- A node's round, with its own actor and pass.
use Rattle.std.specs.Prelude.{◌≡◌, ℕ, ◌+◌, ◌*◌, ◌<◌, ◌≤◌, true, false, List, [], ◌∷◌, ◌++◌, All, length, map}
use Rattle.board_model.specs.declared.boards.Heard.{Heard}
use Rattle.board_model.specs.declared.calls.Call.{Call}
use Rattle.board_model.specs.declared.forecasts.Row.{Row}
use Rattle.link_boards.specs.Passes.{AreInOrder, BoardsView, PassView, after_call}
use Rattle.clusters.specs.Inflow.{IsHeardOf}
use Rattle.clusters.specs.Windows.{counts_of}
use Rattle.control_flow.specs.Greens.{end_of}
use Rattle.control_flow.specs.declared.greens.Green.{Green}
use Rattle.histories.specs.Steps.{board_steps}
use Rattle.histories.specs.declared.steps.BoardStep.TheVariants as steps
use Rattle.intersection_actor.specs.Acting.{Acting, begun, reading, told_at, wanting, with_heard}
use Rattle.intersection_actor.specs.Commits.{Commitment, IsCommit, record_of}
use Rattle.intersection_actor.specs.Rounds.{IsOf}
use Rattle.intersection_actor.specs.declared.records.Want.TheVariants.{Done}
use Rattle.histories.specs.Calls.{step_of}
use Rattle.net_parts.specs.Numbers.{Net}
use Rattle.net_simulator.specs.Flow.{cumulative_under}
use Rattle.net_simulator.specs.Senses.{sense}
use Rattle.net_simulator.specs.Worlds.{IsWorldOf, WorldState, Stands, signs_by}
use Rattle.outflow.specs.Outflow.{departures, told_forecast}
use Rattle.road_net.specs.declared.senses.Sensed.{Sensed}
use Rattle.node_rounds.specs.Told.{AreCallsOf, heard_of}

-- a node may play a round: the round begins in the world's second, the node's actor rests, and its pass is of these boards, has the
-- node's number, and has the calls of a round left
pub record CanPlay (net : Net) (round : ℕ) (world : WorldState) (boards : BoardsView) (a : Acting)
    (p : PassView) : Type 0 where
  pub more : round < net.run.rounds
  pub second : world.second ≡ round * net.run.step
  pub stands : IsWorldOf net world
  pub of : IsOf net a
  pub want : a.want ≡ Done
  pub ahead : round * net.run.step < end_of a.line
  pub own : p.boards ≡ boards.id
  pub number : p.number ≡ a.node
  pub left : length (board_steps net a.node) ≤ p.left

-- the pass is still of the same boards and has the same number
abbrev pub IsSamePass : PassView → PassView → Type 0
IsSamePass old new = (new.boards ≡ old.boards) × (new.number ≡ old.number)

-- the pass has made these calls since
pub record HasMade (old new : PassView) (calls : List Call) : Type 0 where
  pub same : IsSamePass old new
  pub left : new.left + length calls ≡ old.left
  pub added : new.calls ≡ old.calls ++ calls
  pub later : All (λ call. old.known ≤ call.stamp) calls
  pub known : old.known ≤ new.known

-- what a node sensed is what it senses of any arrivals and lines for which the world stands
abbrev pub IsSeen : Net → WorldState → ℕ → Sensed → Type 0
IsSeen net world node sensed =
    (arriving : ℕ → ℕ → ℕ) (lines : ℕ → List Green) → Stands net arriving (signs_by lines) world
    → sensed ≡ sense net (cumulative_under net arriving (signs_by lines) world.second) world.second node

-- a node has begun a round: it has sensed the world, and heard nothing yet
pub record HasBegun (net : Net) (round : ℕ) (world : WorldState) (a b : Acting) : Type 0 where
  pub sensed : Sensed
  pub seen : IsSeen net world a.node sensed
  pub actor : b ≡ begun net round sensed a

-- a node may go on with a round: it has begun it, from an actor that might
pub record CanGoOn (net : Net) (round : ℕ) (boards : BoardsView) (b : Acting) (p : PassView) : Type 0 where
  pub world : WorldState
  pub rested : Acting
  pub can : CanPlay net round world boards rested p
  pub begins : HasBegun net round world rested b
  pub of : IsOf net b

-- a reading of a link: the call was added to the pass, and the actor took what it tells
pub record HasRead (link : ℕ) (a b : Acting) (p q : PassView) : Type 0 where
  pub call : Call
  pub reads : call.publishes ≡ false
  pub at : call.link ≡ link
  pub later : p.known ≤ call.stamp
  pub pass : q ≡ after_call p call
  pub actor : b ≡ with_heard (heard_of call) a

-- the first of an actor's readings are done
pub record HasHeard (a b : Acting) (p q : PassView) : Type 0 where
  pub calls : List Call
  pub made : HasMade p q calls
  pub reads : All (λ call. call.publishes ≡ false) calls
  pub links : map (λ (call : Call). call.link) calls ++ b.left ≡ a.left
  pub want : b.want ≡ reading b.left
  pub actor : b ≡ record a { want = b.want; left = b.left; heard = a.heard ++ map heard_of calls }

-- what an actor tells on a link
abbrev pub outgoing : Net → ℕ → Acting → List Row
outgoing net link a =
    told_forecast net link a.sensed.now (departures a.window.lists (counts_of a.window.lists) a.phases a.served)

-- a publishing on a link: the call was added to the pass, with what the actor tells, and the actor wants the next
pub record HasSent (net : Net) (link : ℕ) (a b : Acting) (p q : PassView) : Type 0 where
  pub call : Call
  pub publishes : call.publishes ≡ true
  pub at : call.link ≡ link
  pub forecast : call.forecast ≡ outgoing net link a
  pub later : p.known ≤ call.stamp
  pub pass : q ≡ after_call p call
  pub actor : b ≡ wanting b.want a
  pub next : (place : ℕ) → a.want ≡ told_at net a.node place → b.want ≡ told_at net a.node (place + 1)

-- an actor has told on these links, the first of those on which it tells
pub record HasTold (net : Net) (a b : Acting) (p q : PassView) (links : List ℕ) : Type 0 where
  pub calls : List Call
  pub made : HasMade p q calls
  pub steps : map step_of calls ≡ map steps.Publish links
  pub tells : All (λ call. call.forecast ≡ outgoing net call.link a) calls
  pub actor : b ≡ wanting (told_at net a.node (length links)) a

-- what a node did in a round: what it sensed and heard, its commit, and the calls of its pass
pub record NodeRound : Type 0 where
  pub sensed : Sensed
  pub heard : List Heard
  pub made : Commitment
  pub calls : List Call

-- a node rests after a round in which it has heard this and made this commit
pub record RestsAfter (net : Net) (round : ℕ) (heard : List Heard) (made : Commitment) (a b : Acting) : Type 0 where
  pub node : b.node ≡ a.node
  pub of : IsOf net b
  pub want : b.want ≡ Done
  pub line : b.line ≡ made.line
  pub ahead : (round + 1) * net.run.step < end_of b.line
  pub records : b.records ≡ a.records ++ record_of a.node round heard made ∷ []

-- This is what a node did in a round: it sensed the world and heard each link on which it hears another node; its commit is made
-- from its line, and from what it sensed and heard; it rests again; and the calls of its pass are those of the round.
pub record IsRoundOf (net : Net) (round : ℕ) (world : WorldState) (a b : Acting) (p q : PassView)
    (did : NodeRound) : Type 0 where
  pub sensed : IsSeen net world a.node did.sensed
  pub heard : IsHeardOf net a.node did.heard
  pub commit : IsCommit net a.node round a.line did.sensed did.heard did.made
  pub rests : RestsAfter net round did.heard did.made a b
  pub calls : AreCallsOf net round a.node did.heard did.made did.calls
  pub made : HasMade p q did.calls
  pub order : AreInOrder q.known q.calls

-- a node has played a round
abbrev pub HasPlayed : Net → ℕ → WorldState → Acting → Acting → PassView → PassView → Type 0
HasPlayed net round world a b p q = (did : NodeRound) × IsRoundOf net round world a b p q did

-- a node that had begun a round has played it: under whatever world, and from whatever actor, it had begun it
abbrev pub HasPlayedOn : Net → ℕ → BoardsView → Acting → Acting → PassView → PassView → Type 0
HasPlayedOn net round boards b c p q =
    (world : WorldState) (a : Acting) → CanPlay net round world boards a p → HasBegun net round world a b
    → HasPlayed net round world a c p q

-- No public clause names these: what is so of the parts of a run between two steps, and what a core keeps beside them.
use Rattle.std.specs.Prelude.{◌≡◌, ◌≢◌, ℕ, Bool, true, false, ◌+◌, ◌-◌, ◌*◌, ◌<◌, ◌≤◌, ◌⊎◌, List, [], ◌∷◌, ◌++◌, Some, count_by, drop, length, replicate, slice_index_or, slice_set, vec_capacity}
use Rattle.std.specs.List.{concat}
use Rattle.std.specs.Global.{Vec}
use Rattle.arrivals.specs.Amounts.{Amounts, AreArrivals, arriving_of}
use Rattle.board_model.specs.declared.boards.Heard.{Heard}
use Rattle.control_flow.specs.Greens.{end_of}
use Rattle.histories.specs.Histories.{count, turns, version_at, HasRounds}
use Rattle.histories.specs.Steps.{board_steps}
use Rattle.intersection_actor.specs.Acting.{Acting, reading}
use Rattle.intersection_actor.specs.Commits.{Commitment, phases_of, record_of}
use Rattle.intersection_actor.specs.Rounds.{IsOf}
use Rattle.intersection_actor.specs.declared.records.Want.{Want}
use Rattle.intersection_actor.specs.declared.records.Want.TheVariants.{Read, Commit, Publish, Done}
use Rattle.intersection_actor.specs.declared.records.PlanRecord.{PlanRecord}
use Rattle.net_parts.specs.Numbers.{Net}
use Rattle.net_parts.specs.Outline.{link_at}
use Rattle.net_simulator.specs.Worlds.{WorldState, Stands}
use Rattle.road_net.specs.Network.{heard_links, told_links}
use Rattle.runs.specs.Runs.{AllCommit, Commits, HearAlong, forecast_at, line_before, plans_of, sensed_in, shown_by}
use Rattle.runs.specs.Ending.{HasCapacity}
use Rattle.runs.specs.declared.run_records.EmptyRecord.{EmptyRecord}
use Rattle.runs.specs.Resting.{Rests}
use Rattle.runs.specs.Tallies.{IsTally, IsTallyOf}
use Rattle.runs.specs.declared.plan_tallies.PlanTally.{PlanTally}
use Rattle.net_core.specs.declared.parts.Board.{Board}
use Rattle.net_core.specs.declared.parts.Kept.{Kept}
use Rattle.net_core.specs.declared.parts.Parts.{Parts}

-- with these links yet to tell, a node publishes on the first; with none, it is done
abbrev pub telling_first : List ℕ → Want
telling_first [] = Done
telling_first (link ∷ links) = Publish link

-- A node listens in a round: it has done `done` readings, and has yet to commit.
pub record Listens (net : Net) (arrivals : Amounts) (heard : ℕ → ℕ → List Heard) (made : ℕ → ℕ → Commitment)
    (round done node : ℕ) (a : Acting) : Type 0 where
  pub node_is : a.node ≡ node
  pub round_is : a.round ≡ round
  pub sensed : a.sensed ≡ sensed_in net (arriving_of arrivals) made round node
  pub so_far : a.heard ≡ heard round node
  pub count : length a.heard ≡ done
  pub left : a.left ≡ drop done (heard_links net node)
  pub want : a.want ≡ reading (drop done (heard_links net node))
  pub line : a.line ≡ line_before net made round node
  pub records : a.records ≡ []

-- It hears: readings are left to it.
pub record Hears (net : Net) (arrivals : Amounts) (heard : ℕ → ℕ → List Heard) (made : ℕ → ℕ → Commitment)
    (round done node : ℕ) (a : Acting) : Type 0 where
  pub more : done < length (heard_links net node)
  pub listens : Listens net arrivals heard made round done node a

-- what it tells of: what it planned in the round
pub record TellsOf (net : Net) (round : ℕ) (c : Commitment) (a : Acting) : Type 0 where
  pub now : a.sensed.now ≡ round * net.run.step
  pub window : a.window ≡ c.window
  pub phases : a.phases ≡ phases_of c.answer
  pub served : a.served ≡ c.served

-- It tells: it has committed, and has what it planned as long as it wants to publish.
pub record Tells (net : Net) (arrivals : Amounts) (heard : ℕ → ℕ → List Heard) (made : ℕ → ℕ → Commitment)
    (round done node : ℕ) (a : Acting) : Type 0 where
  pub enough : length (heard_links net node) ≤ done
  pub commits : Commits net (arriving_of arrivals) heard made round node
  pub tells_of : (link : ℕ) → a.want ≡ Publish link → TellsOf net round (made round node) a
  pub want : a.want ≡ telling_first (drop (done - length (heard_links net node)) (told_links net node))
  pub line : a.line ≡ (made round node).line
  pub ahead : (round + 1) * net.run.step < end_of a.line
  pub records : a.records ≡ record_of node round (heard round node) (made round node) ∷ []

-- how far a node is in a round
pub record Plays (net : Net) (arrivals : Amounts) (heard : ℕ → ℕ → List Heard) (made : ℕ → ℕ → Commitment)
    (round done node : ℕ) (a : Acting) : Type 0 where
  pub node_is : a.node ≡ node
  pub of : IsOf net a
  pub stage : Hears net arrivals heard made round done node a ⊎ Tells net arrivals heard made round done node a

-- There is a board for each link; that of a link between two nodes has its newest version, and the forecast of that version.
pub record HasBoards (net : Net) (made : ℕ → ℕ → Commitment) (history : List ℕ) (boards : List Board) : Type 0 where
  pub all : length boards ≡ length net.link_names
  pub versions : (link from to : ℕ) (d : Board) → (link_at net link).from ≡ Some from → (link_at net link).to ≡ Some to
      → (slice_index_or boards link d).version ≡ version_at (board_steps net) history link (length history)
  pub forecasts : (link from to : ℕ) (d : Board) → (link_at net link).from ≡ Some from → (link_at net link).to ≡ Some to
      → (slice_index_or boards link d).forecast
      ≡ forecast_at net made link (version_at (board_steps net) history link (length history))

-- What holds of a run whose first rounds are done, whatever its nodes do in the next: their commits, what was heard along the
-- history, the boards, the world at the begin of the next round, and the plans of the rounds that are done.
pub record IsRunning (net : Net) (arrivals : Amounts) (heard : ℕ → ℕ → List Heard) (made : ℕ → ℕ → Commitment)
    (history : List ℕ) (done : ℕ) (boards : List Board) (world : WorldState) (plans : List PlanRecord) : Type 0 where
  pub commits : AllCommit net (arriving_of arrivals) heard made done
  pub along : HearAlong net history heard made
  pub boards_are : HasBoards net made history boards
  pub second : world.second ≡ done * net.run.step
  pub stands : Stands net (arriving_of arrivals) (shown_by net made) world
  pub planned : plans ≡ plans_of net heard made done

-- Within a round: `round` rounds are done, and of the next one a part; each node has played as much of it as it stands in it.
pub record InRound (net : Net) (arrivals : Amounts) (history : List ℕ) (round : ℕ) (actors : List Acting)
    (boards : List Board) (world : WorldState) (plans : List PlanRecord) : Type 0 where
  pub heard : ℕ → ℕ → List Heard
  pub made : ℕ → ℕ → Commitment
  pub early : List ℕ
  pub part : List ℕ
  pub whole : history ≡ early ++ part
  pub rounds_done : HasRounds (board_steps net) round early
  pub within : (node : ℕ) → count node part ≤ length (board_steps net node)
  pub below : round < net.run.rounds
  pub running : IsRunning net arrivals heard made history round boards world plans
  pub all : length actors ≡ length net.node_names
  pub fresh : (later node : ℕ) → round < later → heard later node ≡ []
  pub plays : (node : ℕ) (d : Acting) → node < length net.node_names
      → Plays net arrivals heard made round (count node part) node (slice_index_or actors node d)

-- Between two rounds: `round` are done, and each node rests.
pub record Between (net : Net) (arrivals : Amounts) (history : List ℕ) (round : ℕ) (actors : List Acting)
    (boards : List Board) (world : WorldState) (plans : List PlanRecord) : Type 0 where
  pub heard : ℕ → ℕ → List Heard
  pub made : ℕ → ℕ → Commitment
  pub rounds_done : HasRounds (board_steps net) round history
  pub most : round ≤ net.run.rounds
  pub running : IsRunning net arrivals heard made history round boards world plans
  pub all : length actors ≡ length net.node_names
  pub fresh : (later node : ℕ) → round ≤ later → heard later node ≡ []
  pub rests : (node : ℕ) (d : Acting) → node < length net.node_names
      → Rests net made round node (slice_index_or actors node d)

-- A round begins: the nodes before this one have begun it, and the others rest.
pub record Begins (net : Net) (arrivals : Amounts) (history : List ℕ) (round : ℕ) (actors : List Acting)
    (boards : List Board) (world : WorldState) (plans : List PlanRecord) (first : ℕ) : Type 0 where
  pub heard : ℕ → ℕ → List Heard
  pub made : ℕ → ℕ → Commitment
  pub rounds_done : HasRounds (board_steps net) round history
  pub below : round < net.run.rounds
  pub running : IsRunning net arrivals heard made history round boards world plans
  pub all : length actors ≡ length net.node_names
  pub fresh : (later node : ℕ) → round ≤ later → heard later node ≡ []
  pub plays : (node : ℕ) (d : Acting) → node < first → node < length net.node_names
      → Plays net arrivals heard made round 0 node (slice_index_or actors node d)
  pub rests : (node : ℕ) (d : Acting) → first ≤ node → node < length net.node_names
      → Rests net made round node (slice_index_or actors node d)

-- some node wants something
pub record IsOpen (actors : List Acting) : Type 0 where
  pub node : ℕ
  pub there : node < length actors
  pub wants : (d : Acting) → (slice_index_or actors node d).want ≢ Done

-- each node is done
abbrev pub AllDone : List Acting → Type 0
AllDone actors = (node : ℕ) (d : Acting) → node < length actors → (slice_index_or actors node d).want ≡ Done

-- Below, `history` has the nodes that have done board steps, and `plans` the plans of the rounds that are done. A run may keep neither.

-- what is so of the parts of a run: within a round, between two, and as one begins
abbrev pub AreInRound : Net → Amounts → List ℕ → List PlanRecord → Parts → Type 0
AreInRound net arrivals history plans p =
    InRound net arrivals history p.round p.actors.all.items p.boards.items p.world plans

abbrev pub AreBetween : Net → Amounts → List ℕ → List PlanRecord → Parts → Type 0
AreBetween net arrivals history plans p =
    Between net arrivals history p.round p.actors.all.items p.boards.items p.world plans

abbrev pub AreBeginning : Net → Amounts → List ℕ → List PlanRecord → Parts → ℕ → Type 0
AreBeginning net arrivals history plans p first =
    Begins net arrivals history p.round p.actors.all.items p.boards.items p.world plans first

-- between two steps of a run: within a round in which some node wants something, or after the last round
abbrev pub AreGoing : Net → Amounts → List ℕ → List PlanRecord → Parts → Type 0
AreGoing net arrivals history plans p =
    (AreInRound net arrivals history plans p × IsOpen p.actors.all.items)
    ⊎ (AreBetween net arrivals history plans p × (p.round ≡ net.run.rounds))

-- the parts are within a round, between two, or as one begins, after some history, which need not be kept
abbrev pub ArePlaying : Net → Amounts → Parts → Type 0
ArePlaying net arrivals p = (history : List ℕ) × (plans : List PlanRecord) × AreInRound net arrivals history plans p

abbrev pub AreResting : Net → Amounts → Parts → Type 0
AreResting net arrivals p = (history : List ℕ) × (plans : List PlanRecord) × AreBetween net arrivals history plans p

abbrev pub AreStarting : Net → Amounts → Parts → ℕ → Type 0
AreStarting net arrivals p first =
    (history : List ℕ) × (plans : List PlanRecord) × AreBeginning net arrivals history plans p first

-- a node wants this, or something
abbrev pub Wants : Parts → ℕ → Want → Type 0
Wants p node want = (d : Acting) → (slice_index_or p.actors.all.items node d).want ≡ want

abbrev pub WantsMore : Parts → ℕ → Type 0
WantsMore p node = (d : Acting) → (slice_index_or p.actors.all.items node d).want ≢ Done

-- one actor has changed, that of a node
abbrev pub HasChanged : ℕ → List Acting → List Acting → Type 0
HasChanged node old new = (actor : Acting) × (new ≡ slice_set old node actor)

-- whether something is wanted, and how many actors want something
abbrev pub is_busy : Want → Bool
is_busy Done = false
is_busy (Read link) = true
is_busy Commit = true
is_busy (Publish link) = true

abbrev pub busy_count : List Acting → ℕ
busy_count actors = count_by (λ (a : Acting). is_busy a.want) actors

-- a board for each of `links` links, on which nothing is published
pub record AreBlank (links : ℕ) (boards : List Board) : Type 0 where
  pub all : length boards ≡ links
  pub versions : (link : ℕ) (d : Board) → link < links → (slice_index_or boards link d).version ≡ 0
  pub forecasts : (link : ℕ) (d : Board) → link < links → (slice_index_or boards link d).forecast ≡ []

-- the parts of a run before the first round
pub record AreAtFirst (net : Net) (arrivals : Amounts) (p : Parts) : Type 0 where
  pub between : AreBetween net arrivals [] [] p
  pub round : p.round ≡ 0

-- A core has capacity for the plans of all rounds.
abbrev pub HasCapacityForAll : Net → Kept → Type 0
HasCapacityForAll net kept = net.run.rounds * length net.node_names ≤ vec_capacity kept.plans

-- What a core keeps between two rounds: its history and plans are those of its parts, and it has that capacity.
pub record IsResting (net : Net) (arrivals : Amounts) (p : Parts) (kept : Kept) : Type 0 where
  pub between : AreBetween net arrivals kept.history.items kept.plans.items p
  pub capacity : HasCapacityForAll net kept

-- What a core keeps within a round: its history and plans are those of its parts, it has that capacity, and it knows how many
-- nodes want something.
pub record IsPlaying (net : Net) (arrivals : Amounts) (p : Parts) (kept : Kept) : Type 0 where
  pub in_round : AreInRound net arrivals kept.history.items kept.plans.items p
  pub capacity : HasCapacityForAll net kept
  pub busy : kept.busy ≡ busy_count p.actors.all.items

-- What a core keeps between two steps, in a round in which some node wants something, or after the last round.
pub record IsGoing (net : Net) (arrivals : Amounts) (p : Parts) (kept : Kept) : Type 0 where
  pub going : AreGoing net arrivals kept.history.items kept.plans.items p
  pub capacity : HasCapacityForAll net kept
  pub busy : p.round ≢ net.run.rounds → kept.busy ≡ busy_count p.actors.all.items

-- A core at rest: its arrivals are those of its network, and where it is not spent it can go on.
pub record IsSound (net : Net) (arrivals : Amounts) (p : Parts) (kept : Kept) (spent : Bool) : Type 0 where
  pub enter : AreArrivals net arrivals
  pub going : spent ≡ false → IsGoing net arrivals p kept

-- and with the lists for the timelines and totals of its record
pub record IsReady (net : Net) (arrivals : Amounts) (p : Parts) (kept : Kept) (spent : Bool)
    (empty : EmptyRecord) : Type 0 where
  pub sound : IsSound net arrivals p kept spent
  pub capacity : HasCapacity net empty

-- ---- the turn order, in which no history and no plan is kept

-- the history of the first rounds of the turn order
abbrev pub turns_of : Net → ℕ → List ℕ
turns_of net rounds = concat (replicate rounds (turns (board_steps net) (length net.node_names)))

-- within a round after this history, in which a node has done as many rounds as are done, and nothing of this one
pub record IsUnbegun (net : Net) (arrivals : Amounts) (node : ℕ) (history : List ℕ) (plans : List PlanRecord)
    (p : Parts) : Type 0 where
  pub in_round : AreInRound net arrivals history plans p
  pub counted : count node history ≡ p.round * length (board_steps net node)

-- the turn of a node comes, after some history, which need not be kept
abbrev pub IsAtTurn : Net → Amounts → ℕ → Parts → Type 0
IsAtTurn net arrivals node p =
    (history : List ℕ) × (plans : List PlanRecord) × IsUnbegun net arrivals node history plans p

-- A list that is empty, with capacity for a plan of each node.
pub record IsBlank (net : Net) (planned : Vec PlanRecord) : Type 0 where
  pub none : planned.items ≡ []
  pub capacity : length net.node_names ≤ vec_capacity planned

-- The first rounds of the turn order are done, and their plans are counted.
pub record AreTurned (net : Net) (arrivals : Amounts) (rounds : ℕ) (p : Parts) (tally : PlanTally) : Type 0 where
  pub plans : List PlanRecord
  pub between : AreBetween net arrivals (turns_of net rounds) plans p
  pub round : p.round ≡ rounds
  pub counted : IsTallyOf plans tally
  pub bounds : IsTally tally

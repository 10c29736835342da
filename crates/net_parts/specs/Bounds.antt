-- The bounds of what is in a draft.
use Rattle.std.specs.Prelude.{◌≡◌, ℕ, ◌*◌, ◌%◌, ◌≤◌, ◌⊎◌, Bool, IsTrue, IfSome, List, length, count_by, All}
use Rattle.net_parts.specs.Limits.{most_look, most_rounds, most_sat, most_seconds, most_travel, limits}
use Rattle.phase_plan.specs.Phases.{IsPhase, is_unmarked}
use Rattle.net_parts.specs.declared.drafts.Run.{Run}
use Rattle.net_parts.specs.declared.drafts.Draft.{Draft}
use Rattle.net_parts.specs.declared.drafts.DraftNode.{DraftNode}
use Rattle.net_parts.specs.declared.drafts.DraftPhase.{DraftPhase}
use Rattle.net_parts.specs.declared.drafts.DraftLink.{DraftLink}
use Rattle.net_parts.specs.declared.drafts.DraftTurn.{DraftTurn}
use Rattle.net_parts.specs.declared.drafts.DraftYield.{DraftYield}
use Rattle.net_parts.specs.declared.roads.Walk.{Walk}

-- a to z, 0 to 9 and _
abbrev pub IsNameByte : ℕ → Type 0
IsNameByte b = ((97 ≤ b) × (b ≤ 122)) ⊎ (((48 ≤ b) × (b ≤ 57)) ⊎ (b ≡ 95))

-- 1 to 16 of these characters
pub record IsName (name : List ℕ) : Type 0 where
  pub count : (1 ≤ length name) × (length name ≤ 16)
  pub bytes : All IsNameByte name

-- a step of actuated control, in a run whose rounds have `step` seconds: it divides these
pub record IsActStep (step act_step : ℕ) : Type 0 where
  pub bounds : (1 ≤ act_step) × (act_step ≤ 30)
  pub whole : step % act_step ≡ 0

-- the numbers of a run are within their bounds, a round is no longer than a planning looks ahead, and all rounds together have at most
-- the seconds of a day
pub record IsRun (run : Run) : Type 0 where
  pub step : (1 ≤ run.step) × (run.step ≤ 30)
  pub look : (10 ≤ run.look) × (run.look ≤ most_look)
  pub within : run.step ≤ run.look
  pub gap : run.gap ≤ 10
  pub rounds : (1 ≤ run.rounds) × (run.rounds ≤ most_rounds)
  pub seconds : run.rounds * run.step ≤ most_seconds
  pub age : IfSome run.age (λ age. (1 ≤ age) × (age ≤ 3600))
  pub hold : IfSome run.hold (λ hold. (1 ≤ hold) × (hold ≤ 20))
  pub recall : IfSome run.recall (λ recall. (1 ≤ recall) × (recall ≤ 3600))
  pub act_step : IfSome run.act_step (IsActStep run.step)
  pub rate : IfSome run.rate (λ rate. (1 ≤ rate) × (rate ≤ 1000))

-- a phase and how many links it names, as served and as green also
pub record IsBoundedPhase (p : DraftPhase) : Type 0 where
  pub phase : IsPhase p.phase
  pub links : length p.links ≤ 16
  pub also : length p.also ≤ 16

-- how many phases of a ring may be unmarked: two or more, or none where the ring may be free
abbrev pub IsUnmarkedCount : Bool → ℕ → Type 0
IsUnmarkedCount free_ring count = (2 ≤ count) ⊎ (IsTrue free_ring × (count ≡ 0))

-- the bounds of a node itself, the times of its phases apart
pub record HasNodeBounds (n : DraftNode) : Type 0 where
  pub name : IsName n.name
  pub count : (2 ≤ length n.phases) × (length n.phases ≤ 4)
  pub ring : IsUnmarkedCount n.free_ring (count_by (λ p. is_unmarked p.phase) n.phases)

-- a node with its phases
pub record IsBoundedNode (n : DraftNode) : Type 0 where
  pub own : HasNodeBounds n
  pub phases : All IsBoundedPhase n.phases

-- a share is at most the whole
abbrev pub IsBoundedTurn : DraftTurn → Type 0
IsBoundedTurn t = t.share ≤ 1000

-- how many links a link of this greatest discharge gives way to, and its discharge then
pub record HasYieldBounds (most : ℕ) (given : DraftYield) : Type 0 where
  pub count : (1 ≤ length given.links) × (length given.links ≤ 16)
  pub sat : (1 ≤ given.sat) × (given.sat ≤ most)

-- the seconds of a walk
pub record HasWalkBounds (walk : Walk) : Type 0 where
  pub seconds : (1 ≤ walk.seconds) × (walk.seconds ≤ 120)
  pub cross : walk.cross ≤ 120

-- the bounds of a link itself, its turns apart
pub record HasLinkBounds (l : DraftLink) : Type 0 where
  pub name : IsName l.name
  pub travel : (1 ≤ l.travel) × (l.travel ≤ most_travel)
  pub sat : (1 ≤ l.sat) × (l.sat ≤ most_sat)
  pub weight : (1 ≤ l.weight) × (l.weight ≤ 20)
  pub count : length l.turns ≤ 16
  pub yields : IfSome l.yields (HasYieldBounds l.sat)
  pub walk : IfSome l.walk HasWalkBounds

-- a link with its turns
pub record IsBoundedLink (l : DraftLink) : Type 0 where
  pub own : HasLinkBounds l
  pub turns : All IsBoundedTurn l.turns

-- how many nodes, links and conflicts there are
pub record HasCounts (d : Draft) : Type 0 where
  pub nodes : (1 ≤ length d.nodes) × (length d.nodes ≤ (limits d.great).nodes)
  pub links : (1 ≤ length d.links) × (length d.links ≤ (limits d.great).links)
  pub conflicts : length d.conflicts ≤ (limits d.great).conflicts

-- the run of a draft, which has no more rounds than the draft may have
pub record HasRun (d : Draft) : Type 0 where
  pub run : IsRun d.run
  pub rounds : d.run.rounds ≤ (limits d.great).rounds

-- a draft with all in it
pub record IsBounded (d : Draft) : Type 0 where
  pub counts : HasCounts d
  pub run : IsRun d.run
  pub rounds : d.run.rounds ≤ (limits d.great).rounds
  pub nodes : All IsBoundedNode d.nodes
  pub links : All IsBoundedLink d.links

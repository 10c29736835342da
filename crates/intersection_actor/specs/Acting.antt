-- An actor, as contracts see it: what it keeps of its signal, and how far it is in its round.
use Rattle.std.specs.Prelude.{ℕ, ◌++◌, List, [], ◌∷◌, Option, Some, None, drop, find, nat_le, slice_get}
use Rattle.board_model.specs.declared.boards.Heard.{Heard}
use Rattle.control_flow.specs.declared.greens.Green.{Green}
use Rattle.switch_rules.specs.declared.Served.{Served}
use Rattle.net_parts.specs.Numbers.{Net}
use Rattle.road_net.specs.Network.{heard_links, told_links}
use Rattle.road_net.specs.declared.senses.Sensed.{Sensed}
use Rattle.clusters.specs.declared.vehicle_groups.Window.{Window}
use Rattle.intersection_actor.specs.declared.records.PlanRecord.{PlanRecord}
use Rattle.intersection_actor.specs.declared.records.Want.{Want}
use Rattle.intersection_actor.specs.declared.records.Want.TheVariants.{Read, Commit, Publish, Done}

-- The node's signal and its plans so far, and what the node wants to do next. Of the round it keeps the links that it has yet to
-- read, what it sensed and heard, and what it planned: the window, and the phases and servings of its sequence.
pub record Acting : Type 0 where
  pub node : ℕ
  pub line : List Green
  pub records : List PlanRecord
  pub want : Want
  pub round : ℕ
  pub left : List ℕ
  pub sensed : Sensed
  pub heard : List Heard
  pub window : Window
  pub phases : List ℕ
  pub served : List Served

-- a want to publish
abbrev pub IsPublish : Want → Type 0
IsPublish (Publish link) = Unit {0}
IsPublish (Read link) = ⊥
IsPublish Commit = ⊥
IsPublish Done = ⊥

-- with these links yet to read, a node reads the first; with none, it commits
abbrev pub reading : List ℕ → Want
reading [] = Commit
reading (link ∷ links) = Read link

-- a node publishes on this link, if there is one, or is done
abbrev pub telling : Option ℕ → Want
telling None = Done
telling (Some link) = Publish link

-- a node tells on the first, from this number on, of the links on which it tells another one; where there is none it is done
abbrev pub tells_from : Net → ℕ → ℕ → Want
tells_from net node first = telling (find (λ l. nat_le first l) (told_links net node))

-- a node tells on the link at this place, from 0, among those on which it tells another one; after the last it is done
abbrev pub told_at : Net → ℕ → ℕ → Want
told_at net node place = telling (slice_get (told_links net node) place)

-- the actor of a node with this timeline, between two rounds: it has planned nothing
abbrev pub at_rest : ℕ → List Green → Acting
at_rest node line = record {
  node = node;
  line = line;
  records = [];
  want = Done;
  round = 0;
  left = [];
  sensed = record { now = 0; links = [] };
  heard = [];
  window = record { lists = []; waiting = 0 };
  phases = [];
  served = [];
}

-- the actor in a new round, in which it sensed this and heard nothing yet
abbrev pub begun : Net → ℕ → Sensed → Acting → Acting
begun net round sensed a = record a {
  want = reading (heard_links net a.node);
  round = round;
  left = heard_links net a.node;
  sensed = sensed;
  heard = [];
}

-- the actor with one reading more
abbrev pub with_heard : Heard → Acting → Acting
with_heard h a = record a { want = reading (drop 1 a.left); left = drop 1 a.left; heard = a.heard ++ h ∷ [] }

-- the actor that wants this
abbrev pub wanting : Want → Acting → Acting
wanting want a = record a { want = want }

-- the actor after its round: it has dropped what it sensed, heard and planned in it
abbrev pub resting : Acting → Acting
resting a = record a {
  left = [];
  sensed = record { now = 0; links = [] };
  heard = [];
  window = record { lists = []; waiting = 0 };
  phases = [];
  served = [];
}

-- the actor without its plan records
abbrev pub without_records : Acting → Acting
without_records a = record a { records = [] }

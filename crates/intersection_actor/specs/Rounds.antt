-- Which actors are of a network, and what a commit makes of an actor.
use Rattle.std.specs.Prelude.{◌≡◌, ℕ, ◌+◌, ◌*◌, ◌<◌, ◌≤◌, ◌++◌, List, [], ◌∷◌, Contains, length, map}
use Rattle.net_parts.specs.Limits.{most_seconds}
use Rattle.phase_plan.specs.declared.Phase.{Phase}
use Rattle.switch_rules.specs.Sequences.{AreNextServings}
use Rattle.switch_rules.specs.declared.Head.{Head}
use Rattle.control_flow.specs.Greens.{BeginBy, IsLawful, colour_at, end_of}
use Rattle.control_flow.specs.Signs.{sign_at}
use Rattle.control_flow.specs.Timelines.{rotation_of}
pub use Rattle.control_flow.specs.Timelines.{first_head}
use Rattle.net_parts.specs.Numbers.{Net}
use Rattle.net_parts.specs.Outline.{plan_at}
use Rattle.road_net.specs.Network.{heard_links, told_links}
use Rattle.road_net.specs.Senses.{IsSensedOf}
use Rattle.clusters.specs.Sound.{AreOfNode, cluster_lists}
use Rattle.clusters.specs.Windows.{counts_of}
use Rattle.intersection_actor.specs.Acting.{Acting, reading, tells_from}
use Rattle.intersection_actor.specs.Commits.{Commitment, IsCommit, phases_of, record_of, used_of}
use Rattle.intersection_actor.specs.declared.records.Used.{Used}
use Rattle.intersection_actor.specs.declared.records.Want.{Want}
use Rattle.intersection_actor.specs.declared.records.Want.TheVariants.{Read, Commit, Publish, Done}

-- The actor hears in a round of the network: what it sensed is of its node, in the second at which the round begins, before its
-- timeline ends. What it has heard and the links that it has yet to read are, one after another, those on which its node hears, and
-- it wants the first that is left.
pub record IsHearing (net : Net) (a : Acting) : Type 0 where
  pub now : a.sensed.now ≡ a.round * net.run.step
  pub sensed : IsSensedOf net a.node a.sensed
  pub ahead : a.sensed.now < end_of a.line
  pub heard : map (λ h. h.link) a.heard ++ a.left ≡ heard_links net a.node
  pub want : a.want ≡ reading a.left

-- The actor tells on this link, one on which its node tells another one: the platoons of its window are the node's, and its
-- servings those of these phases by some plan and from some head.
pub record IsTelling (net : Net) (a : Acting) (wanted : ℕ) : Type 0 where
  pub link : Contains (told_links net a.node) wanted
  pub now : a.sensed.now ≤ most_seconds
  pub platoons : AreOfNode net a.node a.sensed.now a.window.lists
  pub plan : List Phase
  pub head : Head
  pub served : AreNextServings plan (cluster_lists a.window.lists) (counts_of a.window.lists) head a.phases a.served

-- how far an actor of the network is that wants this
abbrev pub IsInRound : Net → Acting → Want → Type 0
IsInRound net a (Read link) = IsHearing net a
IsInRound net a Commit = IsHearing net a
IsInRound net a (Publish link) = IsTelling net a link
IsInRound net a Done = Unit {0}

-- The actor is of the network: its node exists there, its timeline is lawful for the node's plan, with every row beginning at
-- or below 100,000, and what it wants, sensed, heard and planned in its round is the node's.
pub record IsOf (net : Net) (a : Acting) : Type 0 where
  pub node : a.node < length net.node_names
  pub lawful : IsLawful (plan_at net a.node) a.line
  pub begins : BeginBy 100000 a.line
  pub round : IsInRound net a a.want

-- a new actor of a node: the ring turns from second 0, nothing is planned, and no round has begun
pub record IsNew (net : Net) (n : ℕ) (a : Acting) : Type 0 where
  pub node : a.node ≡ n
  pub line : a.line ≡ rotation_of (plan_at net n) first_head 0
  pub records : a.records ≡ []
  pub want : a.want ≡ Done
  pub ahead : 0 < end_of a.line

-- What a commit makes of an actor: its timeline is the new one, its plans are one record more, it keeps what it planned for what it
-- tells, and wants to tell on the first link. Of the round it keeps what it sensed and heard.
pub record IsCommitted (net : Net) (old new : Acting) : Type 0 where
  pub made : Commitment
  pub is : IsCommit net old.node old.round old.line old.sensed old.heard made
  pub all : new ≡ record old {
    line = made.line;
    records = old.records ++ record_of old.node old.round old.heard made ∷ [];
    want = tells_from net old.node 0;
    window = made.window;
    phases = phases_of made.answer;
    served = made.served;
  }

-- What a commit keeps: in every second before the round the new timeline shows the same sign as the old one, and every phase the
-- same colour. The new timeline ends after the begin of the next round; and the versions that were used are those of the links on
-- which the node hears, in their order.
pub record KeepsPast (net : Net) (old new : Acting) : Type 0 where
  pub past : (second : ℕ) → second < old.sensed.now → sign_at new.line second ≡ sign_at old.line second
  pub colours : (k second : ℕ) → second < old.sensed.now
      → colour_at (plan_at net old.node) new.line k second ≡ colour_at (plan_at net old.node) old.line k second
  pub later : (old.round + 1) * net.run.step < end_of new.line
  pub used : map (λ (u : Used). u.link) (used_of old.heard) ≡ heard_links net old.node

-- The rounds of nodes as tasks. No public clause names these definitions.
use Rattle.std.specs.Prelude.{◌≡◌, ℕ, ◌<◌, ◌≤◌, OnOk, List, All, length, map, slice_index_or}
use Rattle.link_boards.specs.Passes.{BoardsView, PassView}
use Rattle.intersection_actor.specs.Acting.{Acting}
use Rattle.intersection_actor.specs.Rounds.{IsOf}
use Rattle.net_parts.specs.Numbers.{Net}
use Rattle.net_simulator.specs.Worlds.{WorldState}
use Rattle.node_rounds.specs.Nodes.{CanGoOn, CanPlay, HasBegun, HasPlayed, HasPlayedOn, IsSamePass}
use Rattle.net_threads.specs.declared.node_tasks.NodeTask.{NodeTask}

module _ {P S G Ready : Type 0} where
  -- the actor and the pass of a task's node
  abbrev pub actor_of : NodeTask P S G Ready → Acting
  actor_of task = task.node.value.actor

  abbrev pub pass_of : NodeTask P S G Ready → PassView
  pass_of task = task.node.value.pass

  -- those of all tasks, by node
  abbrev pub actors_in : List (NodeTask P S G Ready) → List Acting
  actors_in tasks = map actor_of tasks

  abbrev pub passes_in : List (NodeTask P S G Ready) → List PassView
  passes_in tasks = map pass_of tasks

  -- what all tasks are done by, but the round, which is that of each
  abbrev pub settings_in : List (NodeTask P S G Ready) → List (Net × BoardsView)
  settings_in tasks = map (λ (task : NodeTask P S G Ready). (task.setting.net.now, task.setting.boards.now)) tasks

  -- the tasks are of this network and of these boards
  abbrev pub AreTasksOf : Net → BoardsView → List (NodeTask P S G Ready) → Type 0
  AreTasksOf net boards tasks = All (λ (s : Net × BoardsView). (s.0 ≡ net) × (s.1 ≡ boards)) (settings_in tasks)

  -- the task is still of the same network and boards, and its pass has the same boards and number
  pub record IsSameTask (old new : NodeTask P S G Ready) : Type 0 where
    pub net : new.setting.net ≡ old.setting.net
    pub boards : new.setting.boards ≡ old.setting.boards
    pub pass : IsSamePass (pass_of old) (pass_of new)

  -- the node may begin the round
  abbrev pub CanBeginTask : ℕ → WorldState → NodeTask P S G Ready → Type 0
  CanBeginTask round world task = CanPlay task.setting.net.now round world task.setting.boards.now (actor_of task)
      (pass_of task)

  -- the node has begun the round
  pub record HasBegunTask (round : ℕ) (world : WorldState) (old new : NodeTask P S G Ready) : Type 0 where
    pub round_is : new.setting.round ≡ round
    pub begun : HasBegun old.setting.net.now round world (actor_of old) (actor_of new)
    pub of : IsOf old.setting.net.now (actor_of new)
    pub same : IsSameTask old new
    pub pass : pass_of new ≡ pass_of old

  -- the node may go on with the round that it has begun
  pub record CanPlayTask (task : NodeTask P S G Ready) : Type 0 where
    pub links : task.setting.boards.now.links ≡ length task.setting.net.now.link_names
    pub can : CanGoOn task.setting.net.now task.setting.round task.setting.boards.now (actor_of task) (pass_of task)

  -- the node has played the round that it had begun
  abbrev pub HasEnded : NodeTask P S G Ready → NodeTask P S G Ready → Type 0
  HasEnded old new = HasPlayedOn old.setting.net.now old.setting.round old.setting.boards.now (actor_of old)
      (actor_of new) (pass_of old) (pass_of new)

  -- it has played that round, unless memory ran out
  pub record HasPlayedTask (old new : NodeTask P S G Ready) : Type 0 where
    pub same : IsSameTask old new
    pub played : OnOk new.ended (HasEnded old new)

  -- the node has played the round, from its begin
  abbrev pub HasPlayedRound : ℕ → WorldState → NodeTask P S G Ready → NodeTask P S G Ready → Type 0
  HasPlayedRound round world old new = HasPlayed old.setting.net.now round world (actor_of old) (actor_of new)
      (pass_of old) (pass_of new)

  -- this is so of the tasks at each place, before and after
  pub record AreEach (Is : NodeTask P S G Ready → NodeTask P S G Ready → Type 0)
      (old new : List (NodeTask P S G Ready)) : Type 0 where
    pub count : length new ≡ length old
    pub each : (k : ℕ) (s t : NodeTask P S G Ready) → k < length old
        → Is (slice_index_or old k s) (slice_index_or new k t)

  -- this is so of the tasks at the first places; those at the others are as they were
  pub record AreFirst (Is : NodeTask P S G Ready → NodeTask P S G Ready → Type 0) (count : ℕ)
      (old new : List (NodeTask P S G Ready)) : Type 0 where
    pub long : length new ≡ length old
    pub done : (k : ℕ) (s t : NodeTask P S G Ready) → k < count → k < length old
        → Is (slice_index_or old k s) (slice_index_or new k t)
    pub rest : (k : ℕ) (s : NodeTask P S G Ready) → count ≤ k → slice_index_or new k s ≡ slice_index_or old k s

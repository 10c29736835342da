-- Histories: lists of nodes, one for each board step. Which are lawful, and which step and version are at a place.
use Rattle.std.specs.Prelude.{◌+◌, ◌≡◌, ℕ, zero, suc, ◌/◌, ◌%◌, ◌==◌, ◌<◌, ◌≤◌, List, [], ◌++◌, length, take, replicate, count_by, slice_index, slice_index_or}
use Rattle.std.specs.List.{concat, flat_map, range_with_len}
use Rattle.net_parts.specs.Numbers.{Net}
use Rattle.histories.specs.declared.steps.BoardStep.{BoardStep}
use Rattle.histories.specs.declared.steps.BoardStep.TheVariants.{Read}
use Rattle.histories.specs.Steps.{board_steps, is_publish_of, publishings, readings}

-- how often a node is in a history
abbrev pub count : ℕ → List ℕ → ℕ
count node history = count_by (λ n. n == node) history

-- how often the node at a place is before it
abbrev pub earlier : List ℕ → ℕ → ℕ
earlier history place = count (slice_index history place) (take place history)

-- the entry of a node with `before` earlier ones is at this place
pub record IsEntry (history : List ℕ) (node before place : ℕ) : Type 0 where
  pub inside : place < length history
  pub node_there : slice_index history place ≡ node
  pub counted : count node (take place history) ≡ before

-- the nodes below a number each do all their steps, in number order
abbrev pub turns : (ℕ → List BoardStep) → ℕ → List ℕ
turns steps nodes = flat_map (λ node. replicate (length (steps node)) node) (range_with_len 0 nodes)

-- `steps node` are the board steps that a node does in each round, in their order.
module _ (steps : ℕ → List BoardStep) where
  -- each node as often as it has steps in a round, in any order
  abbrev pub IsRound : List ℕ → Type 0
  IsRound block = (node : ℕ) → count node block ≡ length (steps node)

  -- `rounds` rounds, one after another
  abbrev pub HasRounds : ℕ → List ℕ → Type 0
  HasRounds zero history = history ≡ []
  HasRounds (suc rounds) history = (early block : List ℕ) × (history ≡ early ++ block) × IsRound block
      × HasRounds rounds early

  -- A history under way: `done` rounds are done, and of the next one a part, in which no node has more steps than a round
  -- has, and some node has fewer. Once all rounds are done, nothing more.
  pub record IsUnderWay (rounds done : ℕ) (history : List ℕ) : Type 0 where
    pub early : List ℕ
    pub part : List ℕ
    pub whole : history ≡ early ++ part
    pub rounds_done : HasRounds done early
    pub within : (node : ℕ) → count node part ≤ length (steps node)
    pub unfinished : done < rounds → (node : ℕ) × (count node part < length (steps node))
    pub most : done ≤ rounds
    pub over : done ≡ rounds → part ≡ []

  -- A history can go on to one with `rounds` rounds.
  abbrev pub CanGoOn : ℕ → List ℕ → Type 0
  CanGoOn rounds history = (rest : List ℕ) × HasRounds rounds (history ++ rest)

  -- the round of a place of a history, from 0: how often the node there has done all its steps of a round before the place
  abbrev pub round_at : List ℕ → ℕ → ℕ
  round_at history place = earlier history place / length (steps (slice_index history place))

  -- the board step at a place of a history: the node there does its steps in their order, round after round
  abbrev pub step_at : List ℕ → ℕ → BoardStep
  step_at history place =
      let own = steps (slice_index history place) in
      slice_index_or own (earlier history place % length own) (Read 0)

  -- the version of a link at a place: how many Publishes of the link are before it
  abbrev pub version_at : List ℕ → ℕ → ℕ → ℕ
  version_at history link place = count_by (λ before. is_publish_of link (step_at history before))
      (range_with_len 0 place)

  -- the version of a link at a place is the place's round, or one more
  abbrev pub IsOfRound : List ℕ → ℕ → ℕ → Type 0
  IsOfRound history link place = (round_at history place ≤ version_at history link place)
      × (version_at history link place ≤ round_at history place + 1)

  -- wherever a node reads a link, its version is the round of the place: what was published in the round before, and nothing of this one
  abbrev pub ReadsRoundBefore : List ℕ → Type 0
  ReadsRoundBefore history = (place link : ℕ) → place < length history → step_at history place ≡ Read link
      → version_at history link place ≡ round_at history place

-- a history is lawful for a network where it has the network's rounds
abbrev pub IsLawful : Net → List ℕ → Type 0
IsLawful net history = HasRounds (board_steps net) net.run.rounds history

-- the turn order: in each round the nodes do all their steps in number order
abbrev pub turn_order : Net → List ℕ
turn_order net = concat (replicate net.run.rounds (turns (board_steps net) (length net.node_names)))

-- the read-first order: in each round all nodes do their Reads, in number order, and then all do their Publishes
abbrev pub read_first : Net → List ℕ
read_first net =
    concat (replicate net.run.rounds
    (turns (readings net) (length net.node_names) ++ turns (publishings net) (length net.node_names)))

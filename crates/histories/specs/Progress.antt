-- How far a history has come.
use Rattle.std.specs.Prelude.{◌≡◌, ℕ, ◌+◌, ◌<◌, ◌++◌, List, ◌∷◌, slice_index_or, length}
use Rattle.net_parts.specs.Numbers.{Net}
use Rattle.histories.specs.declared.progress.Stop.{Stop}
use Rattle.histories.specs.declared.progress.Stop.TheVariants.{Over, NotItsTurn}
use Rattle.histories.specs.Histories.{count, IsLawful, IsUnderWay}
use Rattle.histories.specs.Steps.{board_steps}

-- how many rounds there are and are done, the steps of each node in a round, and those left in the round under way
pub record Course : Type 0 where
  pub rounds : ℕ
  pub done : ℕ
  pub steps : List ℕ
  pub left : List ℕ

-- the history of a network has come so far
pub record HasCome (net : Net) (history : List ℕ) (p : Course) : Type 0 where
  pub rounds : p.rounds ≡ net.run.rounds
  pub steps : (n : ℕ) → slice_index_or p.steps n 0 ≡ length (board_steps net n)
  pub way : IsUnderWay (board_steps net) p.rounds p.done history
  pub left : (n : ℕ) → count n way.part + slice_index_or p.left n 0 ≡ length (board_steps net n)

-- A history under way, not all of whose rounds are done, and in whose round the node has done all its steps.
pub record IsDoneInRound (net : Net) (history : List ℕ) (node : ℕ) : Type 0 where
  pub done : ℕ
  pub way : IsUnderWay (board_steps net) net.run.rounds done history
  pub goes_on : done < net.run.rounds
  pub all : count node way.part ≡ length (board_steps net node)

-- why a node has no step after a history: all rounds are done, or it has done all its steps in this one
abbrev pub IsStop : Net → List ℕ → ℕ → Stop → Type 0
IsStop net history node Over = IsLawful net history
IsStop net history node NotItsTurn = IsDoneInRound net history node

-- the history can be part of no lawful one once the node comes next
abbrev pub IsStuck : Net → List ℕ → ℕ → Type 0
IsStuck net history node = (rest : List ℕ) → ¬ IsLawful net (history ++ node ∷ rest)

-- For how long a phase of a signal may be without green.
use Rattle.std.specs.Prelude.{◌≡◌, ℕ, ◌+◌, ◌<◌, ◌≤◌, ◌⊎◌, max, false, IsTrue, List, [], ◌∷◌, length, sum_by}
use Rattle.phase_plan.specs.Phases.{between, phase_at}
use Rattle.phase_plan.specs.declared.Phase.{Phase}
use Rattle.switch_rules.specs.Serving.{earliest_green, head_after}
use Rattle.switch_rules.specs.declared.Head.{Head}
use Rattle.switch_rules.specs.declared.Served.{Served}
use Rattle.control_flow.specs.Greens.{end_of, is_green, row_at}
use Rattle.control_flow.specs.declared.greens.Green.{Green}

-- the intergreens of a timeline are within these: from the end of a row of phase k to the begin of the next row at most `intergreen k`
-- seconds pass
pub record AreIntergreensWithin (intergreen : ℕ → ℕ) (rows : List Green) : Type 0 where
  pub next : (i : ℕ) → i + 1 < length rows
      → (row_at rows (i + 1)).from ≤ (row_at rows i).to + intergreen (row_at rows i).phase

-- the longest intergreen after phase k where a signal waits in all-red no more than `look` seconds from the end of a green on: that,
-- or yellow and all-red where they take longer
abbrev pub longest_intergreen : List Phase → ℕ → ℕ → ℕ
longest_intergreen plan look k = max ((phase_at plan k).yellow + (phase_at plan k).clear) look

-- how long a phase may keep the others waiting: its greatest green and the intergreen after it
abbrev pub longest_span : List Phase → (ℕ → ℕ) → ℕ → ℕ
longest_span plan intergreen k = (phase_at plan k).greatest + intergreen k

-- the longest time from the end of a green of phase s to the begin of the next one of phase j: the intergreen after s, and for each
-- phase between them on the ring its greatest green and the intergreen after it
abbrev pub longest_way : List Phase → (ℕ → ℕ) → ℕ → ℕ → ℕ
longest_way plan intergreen s j = intergreen s + sum_by (longest_span plan intergreen) (between plan s j)

-- the longest time that phase k is without green: the intergreen after it, and for each other phase its greatest green and the
-- intergreen after it
abbrev pub longest_red : List Phase → (ℕ → ℕ) → ℕ → ℕ
longest_red plan intergreen k = longest_way plan intergreen k k

-- a phase is green in some second from one to another, both among them
pub record IsGreenBy (rows : List Green) (k from to : ℕ) : Type 0 where
  pub second : ℕ
  pub after : from ≤ second
  pub before : second ≤ to
  pub green : IsTrue (is_green rows k second)

-- a phase is green within `most` seconds of each second from the timeline's first green on, where it goes on as long
abbrev pub IsGreenWithin : List Green → ℕ → ℕ → Type 0
IsGreenWithin rows k most =
    (second : ℕ) → (row_at rows 0).from ≤ second → second + most < end_of rows → IsGreenBy rows k second (second + most)

-- each new green of these servings begins by a second, or else as early as it can
abbrev pub BeginSoon : List Phase → ℕ → Head → List ℕ → List Served → Type 0
BeginSoon plan by head [] served = Unit {0}
BeginSoon plan by head (k ∷ ks) [] = Unit {0}
BeginSoon plan by head (k ∷ ks) (s ∷ ss) =
    (s.kept ≡ false → (s.green ≤ by) ⊎ (s.green ≡ earliest_green plan head k))
    × BeginSoon plan by (head_after k s) ks ss

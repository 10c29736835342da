-- Lines of what was counted in all.
use Rattle.std.specs.Prelude.{ℕ, List, [], ◌∷◌, map}
use Rattle.std.specs.Fmt.{decimal}
use Rattle.net_simulator.specs.declared.totals.Totals.{Totals}
use Rattle.text_lines.specs.Lines.{line}

-- A line of a word and numbers.
abbrev pub number_line : List ℕ → List ℕ → List ℕ
number_line word numbers = line (word ∷ map decimal numbers)

-- a line of a word and what was counted in all: what entered, left, is on the links, and waited
abbrev pub totals_line : List ℕ → Totals → List ℕ
totals_line word totals = number_line word (totals.entered ∷ totals.left ∷ totals.on ∷ totals.delay ∷ [])

-- the words of what was counted in all
abbrev pub totals_words : Totals → List (List ℕ)
totals_words totals = map decimal (totals.entered ∷ totals.left ∷ totals.on ∷ totals.delay ∷ [])

-- Numbers in a line.
use Rattle.std.specs.Prelude.{ℕ, List, ◌∷◌}
use Rattle.std.specs.Fmt.{decimal}

-- a number after a space
abbrev pub after_space : ℕ → List ℕ
after_space n = 32 ∷ decimal n

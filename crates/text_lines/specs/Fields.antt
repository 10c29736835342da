-- The two units of a text: a literal, and a number in decimal with a separator after it.
use Rattle.std.specs.Prelude.{ℕ, zero, suc, List, [], ◌∷◌, ◌++◌, length, drop, Option, Some, None, nat_eq, if◌then◌else◌}
use Rattle.std.specs.List.{starts_with}
use Rattle.std.specs.Option.{option_map, option_or}
use Rattle.std.specs.Fmt.{decimal}
use Rattle.std.specs.Borrow.{Bor}

-- the bytes after the text, where they begin with it
unfoldable pub literal_at : List ℕ → List ℕ → Option (List ℕ)
literal_at text bytes = if starts_with nat_eq bytes text then Some (drop (length text) bytes) else None

-- the number below the limit at the front that has the separator after it, and the bytes after both
unfoldable pub field_at : ℕ → ℕ → List ℕ → Option (ℕ × List ℕ)
field_at zero separator bytes = None
field_at (suc n) separator bytes =
    option_or (option_map (λ rest. (n, rest)) (literal_at (decimal n ++ separator ∷ []) bytes))
    (field_at n separator bytes)

-- a number and the bytes after it, as contracts see them
abbrev pub field_seen : ℕ × Bor (List ℕ) → ℕ × List ℕ
field_seen x = (x.0, x.1.now)

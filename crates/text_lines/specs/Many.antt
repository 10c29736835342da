-- As many things as follow one another at the front of the bytes.
use Rattle.std.specs.Prelude.{ℕ, zero, suc, List, [], ◌∷◌, Option}
use Rattle.std.specs.Option.{option_map_or}

-- what a reader reads one after another, up to this many, and the bytes after them
unfoldable pub many_at : {A : Type 0} → (List ℕ → Option (A × List ℕ)) → ℕ → List ℕ → List A × List ℕ
many_at read zero bytes = ([], bytes)
many_at read (suc most) bytes =
    option_map_or (λ first. let others = many_at read most first.1 in (first.0 ∷ others.0, others.1)) (read bytes)
    ([], bytes)

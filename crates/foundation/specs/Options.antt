-- Options one after another.
use Rattle.std.specs.Prelude.{Option, Some, option_and_then, List, [], ◌∷◌}

-- goes on with a value, where there is one
infixl 10 ◌>>=◌
abbrev pub ◌>>=◌ : {X Y : Type 0} → Option X → (X → Option Y) → Option Y
o >>= f = option_and_then f o

-- what f gives of each element, where it gives something of all of them
abbrev pub each : {X Y : Type 0} → (X → Option Y) → List X → Option (List Y)
each f [] = Some []
each f (x ∷ xs) = do
  y ← f x
  ys ← each f xs
  Some (y ∷ ys)

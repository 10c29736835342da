-- A sink over a stream, as contracts see it, and what a put that fails half way has written.
use Rattle.std.specs.Prelude.{ℕ, List, take, Option}
use Rattle.std.specs.Io.KnownBytes.{Appends}

-- the stream, and how often it failed
pub record SinkOverStream (W : Type 0) : Type 0 where
  pub stream : W
  pub faults : ℕ

-- known bytes grew by some front of these
abbrev pub AppendsFront : Option (List ℕ) → Option (List ℕ) → List ℕ → Type 0
AppendsFront old new piece = (count : ℕ) × Appends old new (take count piece)

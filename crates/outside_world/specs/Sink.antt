-- What a sink has written, and how its count of faults goes up.
use Rattle.std.specs.Prelude.{◌≡◌, ℕ, ◌+◌, ◌-◌, ◌^◌, ◌≤◌, min, List, take, Option}
use Rattle.std.specs.Io.KnownBytes.{append_known}

-- a sink as contracts see it: the bytes written so far, where it exposes them, and how often it failed
pub record SinkState : Type 0 where
  pub written : Option (List ℕ)
  pub faults : ℕ

-- one more, as far as 64 bits go
abbrev pub one_more : ℕ → ℕ
one_more count = min (count + 1) (2 ^ 64 - 1)

-- the count has risen, or stands at the last value of 64 bits
abbrev pub Rose : ℕ → ℕ → Type 0
Rose before now = one_more before ≤ now

-- these bytes were written, and nothing else changed
abbrev pub Gains : SinkState → SinkState → List ℕ → Type 0
Gains old new piece = new ≡ record { written = append_known old.written piece; faults = old.faults }

-- Some front of these bytes was written, and just one put failed. Each put may fail, and a second failure would be counted, so no
-- put came after the one that failed.
pub record Breaks (old new : SinkState) (piece : List ℕ) : Type 0 where
  pub faults : new.faults ≡ one_more old.faults
  pub count : ℕ
  pub front : new.written ≡ append_known old.written (take count piece)

-- What a source gives, line by line, and how its count of faults goes up.
use Rattle.std.specs.Prelude.{◌≡◌, ◌≢◌, ℕ, ◌-◌, ◌<◌, ◌≤◌, min, List, [], All, length, take, Option, IsTrue, ◌⊎◌}
use Rattle.std.specs.Io.BufRead.{ends_with_byte}
use Rattle.std.specs.Io.KnownBytes.{IsAtEnd, prepend_known}
use Rattle.outside_world.specs.declared.source.LineRead.{LineRead}
use Rattle.outside_world.specs.declared.source.LineRead.TheVariants.{End, Whole, Part}

-- a source as contracts see it: the bytes still to come, where it exposes them, and how often it failed
pub record SourceState : Type 0 where
  pub left : Option (List ℕ)
  pub faults : ℕ

-- bytes that are one line: there are some, and none but the last is a line feed
pub record IsLine (line : List ℕ) : Type 0 where
  pub some : 0 < length line
  pub one : All (λ byte. byte ≢ 10) (take (length line - 1) line)

-- the next line came, with its line feed unless the source has ended, and nothing else changed
pub record Comes (old new : SourceState) (line : List ℕ) : Type 0 where
  pub is : IsLine line
  pub left : old.left ≡ prepend_known line new.left
  pub whole : IsTrue (ends_with_byte 10 line) ⊎ IsAtEnd new.left
  pub faults : new.faults ≡ old.faults

-- these bytes are a front of the line, of no fewer than this number
pub record IsFront (line : List ℕ) (least : ℕ) (kept : List ℕ) : Type 0 where
  pub front : kept ≡ take (length kept) line
  pub long : least ≤ length kept

-- what was kept of the next line: nothing, since the source has ended; the whole line; or a front of it, with no fewer bytes than
-- there was memory for before the call or may be kept at most
abbrev pub IsRead : LineRead → SourceState → SourceState → ℕ → ℕ → List ℕ → Type 0
IsRead End old new capacity most kept = (new ≡ old) × IsAtEnd old.left × (kept ≡ [])
IsRead Whole old new capacity most kept = Comes old new kept
IsRead Part old new capacity most kept = (line : List ℕ) × Comes old new line × IsFront line (min capacity most) kept

-- No public clause names these: reading an entry from the front of the bytes.
use Rattle.std.specs.Prelude.{◌≡◌, ℕ, ◌^◌, Bool, nat_lt, if◌then◌else◌, List, [], ◌∷◌, ◌++◌, Option, Some, codes}
use Rattle.text_lines.specs.Fields.{literal_at, field_at}
use Rattle.foundation.specs.Options.{◌>>=◌}
use Rattle.dp_certificate.specs.declared.Entry.{Entry}
use Rattle.certificate_form.specs.declared.lines.Front.{Front}

-- a count, where there is one, and else 0
unfoldable pub count_at : Bool → List ℕ → Option (ℕ × List ℕ)
count_at there bytes = if there then field_at (2 ^ 8) 32 bytes else Some (0, bytes)

-- the counts and the phase at the front of an entry's line
unfoldable pub front_at : ℕ → List ℕ → Option (Front × List ℕ)
front_at phases bytes = do
  rest ← literal_at (codes "entry ") bytes
  first ← count_at (nat_lt 0 phases) rest
  second ← count_at (nat_lt 1 phases) first.1
  third ← count_at (nat_lt 2 phases) second.1
  fourth ← count_at (nat_lt 3 phases) third.1
  phase ← field_at (2 ^ 8) 32 fourth.1
  Some (record { counts = first.0 ∷ second.0 ∷ third.0 ∷ fourth.0 ∷ []; phase = phase.0 }, phase.1)

-- the entry with this front, from what follows the front
unfoldable pub entry_after_at : Front → List ℕ → Option (Entry × List ℕ)
entry_after_at front bytes = do
  since ← field_at (2 ^ 32) 32 bytes
  at ← field_at (2 ^ 32) 32 since.1
  delay ← field_at (2 ^ 64) 10 at.1
  Some (record { counts = front.counts; phase = front.phase; since = since.0; at = at.0; delay = delay.0 }, delay.1)

-- an entry with this many counts
unfoldable pub entry_line_at : ℕ → List ℕ → Option (Entry × List ℕ)
entry_line_at phases bytes = do
  front ← front_at phases bytes
  entry_after_at front.0 front.1

-- bytes that are read as this front, whatever follows them
abbrev pub IsFrontText : ℕ → Front → List ℕ → Type 0
IsFrontText phases front text = (rest : List ℕ) → front_at phases (text ++ rest) ≡ Some (front, rest)

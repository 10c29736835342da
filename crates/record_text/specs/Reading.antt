-- The course of a reader of records.
use Rattle.std.specs.Prelude.{◌≡◌, ◌+◌, ℕ, Bool, true, false, List, [], ◌∷◌, Option, Some, None, IsSome, length}
use Rattle.std.specs.Bool.{MatchBool}
use Rattle.std.specs.Borrow.{Bor}
use Rattle.csv.specs.Machine.{ends_at_end}
use Rattle.csv.specs.Reading.{Ready, default_config, is_flexible, reader_config, reader_state, reader_trim, records_from, source_of}
use Rattle.csv.specs.declared.parser.State.{State}
use Rattle.csv.specs.declared.reader.Reader.{Reader}
use Rattle.csv.specs.declared.reader.Trim.TheVariants as trim

-- the bytes that a reader of a text in memory has left
abbrev pub source : Reader (Bor (List ℕ)) → Option (List ℕ)
source reader = source_of (λ s. Some s.now) reader

-- the records of these bytes, from this state
abbrev pub records_in : State → Option (List ℕ) → List (List (List ℕ))
records_in state None = []
records_in state (Some bytes) = records_from default_config (length bytes + 1) state bytes

-- the records that a reader has left
abbrev pub left_of : Reader (Bor (List ℕ)) → List (List (List ℕ))
left_of reader = records_in (reader_state reader) (source reader)

-- a reader between two records, which takes records of any length
pub record IsReading (reader : Reader (Bor (List ℕ))) : Type 0 where
  pub plain : reader_trim reader ≡ trim.None
  pub ready : Ready reader
  pub config : reader_config reader ≡ default_config
  pub any_length : is_flexible reader ≡ true
  pub known : IsSome (source reader)
  pub between : ends_at_end (reader_state reader) ≡ false

-- a read took the first record that was left, and found none where none was
abbrev pub Takes : Reader (Bor (List ℕ)) → Reader (Bor (List ℕ)) → Bool → List (List ℕ) → Type 0
Takes old new found fields = MatchBool found (IsReading new × (left_of old ≡ fields ∷ left_of new)) (left_of old ≡ [])

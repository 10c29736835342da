-- What a command makes of its texts, and how that is delivered. No public clause of a command names anything here.
use Rattle.std.specs.Prelude.{◌≡◌, ℕ, List, Result, Ok, Err, ◌⊎◌}
use Rattle.outside_world.specs.Shelf.{ShelfState}
use Rattle.outside_world.specs.Sink.{Breaks, Gains, SinkState}
use Rattle.commands.specs.Meanings.{Meaning, MissesNothing}
use Rattle.commands.specs.Outcome.{IsBadInput, Read}
use Rattle.commands.specs.Refusals.{Refuses, Says}
use Rattle.commands.specs.Stops.{StopsIn}
use Rattle.commands.specs.Texts.{AllSaid}
use Rattle.commands.specs.declared.ending.Made.{Made}
use Rattle.commands.specs.declared.ending.Made.TheVariants as made
use Rattle.commands.specs.declared.refusals.Refusal.{Refusal}
use Rattle.commands.specs.declared.refusals.Refusal.TheVariants as refusal
use Rattle.commands.specs.declared.status.Status.{Status}
use Rattle.commands.specs.declared.status.Status.TheVariants.{Done, Rejected, WriteFault}

-- why a command made nothing: its texts could not be had, or its words name what is not in them
abbrev pub Explains : Meaning → ShelfState → ShelfState → Refusal → Type 0
Explains call old new (refusal.Missing what) = (new ≡ old) × IsBadInput call old.files (refusal.Missing what)
Explains call old new why = StopsIn call.texts old new why

-- what was made is what the command writes for texts that say this
abbrev pub IsMadeOf : (call : Meaning) → Made → AllSaid call.texts → Type 0
IsMadeOf call (made.Done text) said = call.writes said text.items × ¬ call.against said
IsMadeOf call (made.Rejected text) said = call.rejects said text.items × call.against said

-- what a command made of its texts, in which its words miss nothing, or why it made nothing
abbrev pub Makes : Meaning → ShelfState → ShelfState → Result Made Refusal → Type 0
Makes call old new (Ok made) =
    (new ≡ old) × Read call old.files (λ said. IsMadeOf call made said × MissesNothing call said)
Makes call old new (Err why) = Explains call old new why

-- the bytes that were made, and the status that goes with them
abbrev pub bytes_of : Made → List ℕ
bytes_of (made.Done text) = text.items
bytes_of (made.Rejected text) = text.items

abbrev pub made_status : Made → Status
made_status (made.Done text) = Done
made_status (made.Rejected text) = Rejected

-- these bytes were written whole, and the status says what they mean
pub record IsWritten (bytes : List ℕ) (means : Status) (out out' err err' : SinkState) (status : Status) : Type 0 where
  pub is : status ≡ means
  pub gains : Gains out out' bytes
  pub same : err' ≡ err

-- these bytes could not be written whole: a front of them was, and nothing after it
pub record IsBroken (bytes : List ℕ) (out out' err err' : SinkState) (status : Status) : Type 0 where
  pub is : status ≡ WriteFault
  pub breaks : Breaks out out' bytes
  pub line : Says refusal.Unwritten err err'

-- how what was made, or refused, is answered
abbrev pub Ends : Result Made Refusal → SinkState → SinkState → SinkState → SinkState → Status → Type 0
Ends (Ok made) out out' err err' status =
    IsWritten (bytes_of made) (made_status made) out out' err err' status
    ⊎ IsBroken (bytes_of made) out out' err err' status
Ends (Err why) out out' err err' status = (out' ≡ out) × Refuses why err err' status

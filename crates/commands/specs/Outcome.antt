-- How a command ends: each status with its cause, and what it leaves.
use Rattle.std.specs.Prelude.{◌≡◌, ◌≢◌, ℕ, List, ◌⊎◌}
use Rattle.outside_world.specs.Shelf.{Files, GainsLast, ShelfState}
use Rattle.outside_world.specs.Sink.{Breaks, Gains, Rose, SinkState}
use Rattle.commands.specs.Meanings.{Meaning, MissesNothing}
use Rattle.commands.specs.Refusals.{Says}
use Rattle.commands.specs.Texts.{AllSaid, AreIn, At, IsBad, Tells, TellsBad}
use Rattle.commands.specs.declared.refusals.Named.{Named}
use Rattle.commands.specs.declared.refusals.TextPlace.{TextPlace}
use Rattle.commands.specs.declared.refusals.Refusal.{Refusal}
use Rattle.commands.specs.declared.refusals.Refusal.TheVariants as refusal
use Rattle.commands.specs.declared.status.Status.{Status}
use Rattle.commands.specs.declared.status.Status.TheVariants.{Done, Rejected, Usage, BadInput, ReadFault, WriteFault, NoMemory}

-- the shelf and the two sinks at a moment
pub record Outside : Type 0 where
  pub shelf : ShelfState
  pub out : SinkState
  pub err : SinkState

-- the texts of the command are read as something of which this is so
abbrev pub Read : (call : Meaning) → Files → (AllSaid call.texts → Type 0) → Type 0
Read call files holds = (said : AllSaid call.texts) × AreIn files call.texts said × holds said

-- the text at this place could not be read, and all texts before it are read
abbrev pub IsUnread : Meaning → ShelfState → ShelfState → TextPlace → Type 0
IsUnread call old new place = At (λ kind name. GainsLast old.failed new.failed name) old.files call.texts place

-- the input is bad: the text at this place is refused for this fault, and all texts before it are read; or all texts are
-- read, and a word names what is not in them, or the arrivals cannot be scaled by a factor
abbrev pub IsBadInput : Meaning → Files → Refusal → Type 0
IsBadInput call files (refusal.Bad place code) = At (IsBad files code.items) files call.texts place
IsBadInput call files (refusal.Missing what) = Read call files (λ said. call.misses said what)
IsBadInput call files _ = ⊥

-- How a command ends: the table of answers. `old` is what the shelf and the sinks were, `new` what they are now.
pub record Outcome (call : Meaning) (old new : Outside) (status : Status) : Type 0 where
  -- the work is done, and its text was written
  pub done : status ≡ Done
      → Read call old.shelf.files (λ said. (bytes : List ℕ) × call.writes said bytes × Gains old.out new.out bytes)
  -- the verdict goes against the texts, and was written
  pub rejected : status ≡ Rejected
      → Read call old.shelf.files (λ said. (bytes : List ℕ) × call.rejects said bytes × Gains old.out new.out bytes)
  -- the words are a command
  pub usage : status ≢ Usage
  -- a text or a word is refused, and the line says which and why
  pub bad_input : status ≡ BadInput → (why : Refusal) × IsBadInput call old.shelf.files why × Says why old.err new.err
  -- a text could not be read, and the line says which
  pub read_fault : status ≡ ReadFault
      → (place : TextPlace) × IsUnread call old.shelf new.shelf place × Says (refusal.Unread place) old.err new.err
  -- what was to be written was not written whole
  pub write_fault : status ≡ WriteFault → Says refusal.Unwritten old.err new.err
      × Read call old.shelf.files
      (λ said. (bytes : List ℕ) × (call.writes said bytes ⊎ call.rejects said bytes) × Breaks old.out new.out bytes)
  -- memory ran out
  pub no_memory : status ≡ NoMemory → Says refusal.NoMemory old.err new.err
  -- nothing else changes the shelf, out or err, and nothing the shelf's files
  pub shelf : status ≢ ReadFault → new.shelf ≡ old.shelf
  pub files : new.shelf.files ≡ old.shelf.files
  pub out : status ≢ Done → status ≢ Rejected → status ≢ WriteFault → new.out ≡ old.out
  pub err : (status ≡ Done) ⊎ (status ≡ Rejected) → new.err ≡ old.err
  -- a text that the shelf tells, and that is read as nothing of its kind, is refused
  pub refused : (place : TextPlace) → TellsBad old.shelf.files call.texts place → new.shelf ≡ old.shelf
      → (status ≡ BadInput) ⊎ (status ≡ NoMemory)
  -- and so is a word that names what is not in the texts
  pub missing : (said : AllSaid call.texts) → Tells old.shelf.files call.texts said → (what : Named)
      → call.misses said what
      → new.shelf ≡ old.shelf → (status ≡ BadInput) ⊎ (status ≡ NoMemory)
  -- where nothing is wrong and nothing failed, the work is done
  pub complete : (said : AllSaid call.texts) → Tells old.shelf.files call.texts said → MissesNothing call said
      → ¬ call.against said
      → new.shelf ≡ old.shelf → ¬ Rose old.out.faults new.out.faults → (status ≡ Done) ⊎ (status ≡ NoMemory)
  -- or the verdict goes against the texts
  pub against : (said : AllSaid call.texts) → Tells old.shelf.files call.texts said → MissesNothing call said
      → call.against said
      → new.shelf ≡ old.shelf → ¬ Rose old.out.faults new.out.faults → (status ≡ Rejected) ⊎ (status ≡ NoMemory)

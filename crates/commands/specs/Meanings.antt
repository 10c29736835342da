-- What a command means: the texts that it reads, and what it writes.
use Rattle.std.specs.Prelude.{ℕ, List, codes}
use Rattle.commands.specs.Texts.{AllSaid, Texts}
use Rattle.commands.specs.declared.refusals.Named.{Named}

-- What a command means: its texts, in the order of its words; what is written where the work is done; when its verdict goes against its
-- texts, and what is written then; and what a word of it names that is not in its texts.
pub record Meaning : Type 1 where
  pub texts : Texts
  pub writes : AllSaid texts → List ℕ → Type 0
  pub against : AllSaid texts → Type 0
  pub rejects : AllSaid texts → List ℕ → Type 0
  pub misses : AllSaid texts → Named → Type 0

-- whatever the words of a command name is in its texts
abbrev pub MissesNothing : (call : Meaning) → AllSaid call.texts → Type 0
MissesNothing call said = (what : Named) → ¬ call.misses said what

-- a command that writes this of its texts, and neither judges nor names anything in them
abbrev pub writer : (texts : Texts) → (AllSaid texts → List ℕ → Type 0) → Meaning
writer texts writes =
    record { texts = texts; writes = writes; against = λ said. ⊥; rejects = λ said bytes. ⊥; misses = λ said what. ⊥ }

-- the line of a verdict that is not against the texts of its command
abbrev pub accepted_line : List ℕ
accepted_line = codes "accepted\n"

-- What a reader's fault says of a text.
use Rattle.std.proofs.Common.{ℕ, ◌≤◌, List, length, inr}
use Rattle.commands.specs.Flaws.{IsFlaw, IsFlawOf}
use Rattle.commands.specs.Kinds.{Kind}
use Rattle.commands.specs.Limits.{most_bytes}
use Rattle.commands.specs.Texts.{Reads}
use Rattle.commands.specs.declared.texts.Flaw.{Flaw}
use Rattle.commands.specs.declared.texts.Flaw.TheVariants.{Bad, NoMemory}

-- a flaw of a fault that says why a text within the limit is read as nothing is one of the text
pub flawed : (kind : Kind) (is_of_text : kind.Fault → Type 0) (fault : kind.Fault) (text : List ℕ) (flaw : Flaw) → IsFlawOf kind.code is_of_text fault flaw → length text ≤ most_bytes
    → (is_of_text fault → ((said : kind.Said) → ¬ Reads kind text said)) → (is_of_text fault → kind.is_fault text fault) → IsFlaw kind text flaw
flawed kind of fault text (Bad code) is short unread first =
    (unread is.1, inr (record { short = short; fault = fault; is = first is.1; code_is = is.0 }))
flawed kind of fault text NoMemory is short unread first = tt

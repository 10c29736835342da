-- What the flaw of a state's text says of a request.
use Rattle.std.proofs.Common.{ℕ, ◌≤◌, List, length}
use Rattle.commands.specs.Flaws.{IsFlawOf, refusal_of}
use Rattle.commands.specs.Kinds.{Kind}
use Rattle.commands.specs.Limits.{most_bytes}
use Rattle.commands.specs.Texts.{Reads}
use Rattle.commands.specs.declared.refusals.TextPlace.TheVariants.{Second}
use Rattle.commands.specs.declared.texts.Flaw.{Flaw}
use Rattle.commands.specs.declared.texts.Flaw.TheVariants.{Bad, NoMemory}
use Rattle.round_jobs.specs.Gathering.{HasLine, OrNoMemory}
use Rattle.round_jobs.specs.Serving.{IsRefused}

-- a text within the limit that is read as nothing for a fault is refused for it, or memory ran out
pub refused : (kind : Kind) (is_of_text : kind.Fault → Type 0) (fault : kind.Fault) (text : List ℕ) (flaw : Flaw) → IsFlawOf kind.code is_of_text fault flaw
    → length text ≤ most_bytes → (is_of_text fault → ((said : kind.Said) → ¬ Reads kind text said)) → (is_of_text fault → kind.is_fault text fault)
    → OrNoMemory (IsRefused kind text) (refusal_of Second flaw)
refused kind of fault text (Bad code) is short unread first =
    (unread is.1, record { short = short; fault = fault; is = first is.1; code_is = is.0 })
refused kind of fault text NoMemory is short unread first = tt

-- the refusal has a line
pub has-line : (flaw : Flaw) → HasLine (refusal_of Second flaw)
has-line (Bad code) = tt
has-line NoMemory = tt

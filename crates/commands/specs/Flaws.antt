-- Why a text is read as nothing. No public clause of a command names anything here.
use Rattle.std.specs.Prelude.{◌≡◌, ℕ, List}
use Rattle.commands.specs.Kinds.{Kind}
use Rattle.commands.specs.Texts.{HasCode, Reads}
use Rattle.commands.specs.declared.refusals.TextPlace.{TextPlace}
use Rattle.commands.specs.declared.refusals.Refusal.{Refusal}
use Rattle.commands.specs.declared.refusals.Refusal.TheVariants as refusal
use Rattle.commands.specs.declared.texts.Flaw.{Flaw}
use Rattle.commands.specs.declared.texts.Flaw.TheVariants.{Bad, NoMemory}

-- the text is read as nothing of its kind, and this is the code of what is wrong with it; or memory ran out
abbrev pub IsFlaw : Kind → List ℕ → Flaw → Type 0
IsFlaw kind text (Bad code) = ((said : kind.Said) → ¬ Reads kind text said) × HasCode kind text code.items
IsFlaw kind text NoMemory = Unit {0}

-- the flaw has the code of this fault, which is of the text; or memory ran out
abbrev pub IsFlawOf : {Fault : Type 0} → (Fault → List ℕ) → (Fault → Type 0) → Fault → Flaw → Type 0
IsFlawOf code is_of_text fault (Bad told) = (told.items ≡ code fault) × is_of_text fault
IsFlawOf code is_of_text fault NoMemory = Unit {0}

-- the refusal of a text at this place that has this flaw
abbrev pub refusal_of : TextPlace → Flaw → Refusal
refusal_of place (Bad code) = refusal.Bad place code
refusal_of place NoMemory = refusal.NoMemory

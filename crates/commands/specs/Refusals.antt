-- Why a command is refused, and the line that says so.
use Rattle.std.specs.Prelude.{◌≡◌, ℕ, List, [], ◌∷◌, ◌++◌, ◌⊎◌, codes}
use Rattle.std.specs.Fmt.{decimal}
use Rattle.outside_world.specs.Sink.{Breaks, Gains, SinkState}
use Rattle.commands.specs.declared.refusals.Named.{Named}
use Rattle.commands.specs.declared.refusals.Named.TheVariants.{Factor, Node, Round}
use Rattle.commands.specs.declared.refusals.TextPlace.{TextPlace}
use Rattle.commands.specs.declared.refusals.TextPlace.TheVariants.{First, Second, Third}
use Rattle.commands.specs.declared.refusals.Refusal.{Refusal}
use Rattle.commands.specs.declared.refusals.Refusal.TheVariants as refusal
use Rattle.commands.specs.declared.status.Status.{Status}
use Rattle.commands.specs.declared.status.Status.TheVariants.{Done, Rejected, Usage, BadInput, ReadFault, WriteFault, NoMemory}

-- the number with which the program ends
abbrev pub exit_status : Status → ℕ
exit_status Done = 0
exit_status Rejected = 1
exit_status Usage = 2
exit_status BadInput = 3
exit_status ReadFault = 4
exit_status WriteFault = 5
exit_status NoMemory = 6

-- the number of a text, from 1
abbrev pub number_of : TextPlace → ℕ
number_of First = 1
number_of Second = 2
number_of Third = 3

-- the line for a text that cannot be read
abbrev pub unread_line : TextPlace → List ℕ
unread_line First = codes "signal: cannot read 1\n"
unread_line Second = codes "signal: cannot read 2\n"
unread_line Third = codes "signal: cannot read 3\n"

-- the line for a word that names nothing
abbrev pub missing_line : Named → List ℕ
missing_line Node = codes "signal: bad node\n"
missing_line Round = codes "signal: bad round\n"
missing_line Factor = codes "signal: bad factor\n"

-- the line for a text that is refused, with this code
abbrev pub bad_line : TextPlace → List ℕ → List ℕ
bad_line text code = codes "signal: bad " ++ (decimal (number_of text) ++ 32 ∷ code) ++ 10 ∷ []

-- the line of a refusal
abbrev pub line_of : Refusal → List ℕ
line_of refusal.Usage = codes "signal: usage\n"
line_of (refusal.Bad text code) = bad_line text code.items
line_of (refusal.Missing what) = missing_line what
line_of (refusal.Unread text) = unread_line text
line_of refusal.Unwritten = codes "signal: cannot write\n"
line_of refusal.NoMemory = codes "signal: no memory\n"

-- the status of a refusal
abbrev pub status_of : Refusal → Status
status_of refusal.Usage = Usage
status_of (refusal.Bad text code) = BadInput
status_of (refusal.Missing what) = BadInput
status_of (refusal.Unread text) = ReadFault
status_of refusal.Unwritten = WriteFault
status_of refusal.NoMemory = NoMemory

-- a line was written, or a front of it where just one put failed
abbrev pub Writes : List ℕ → SinkState → SinkState → Type 0
Writes line old new = Gains old new line ⊎ Breaks old new line

-- the line of a refusal was written, or a front of it where just one put failed
abbrev pub Says : Refusal → SinkState → SinkState → Type 0
Says why old new = Writes (line_of why) old new

-- the line of this refusal takes memory
abbrev pub TakesMemory : Refusal → Type 0
TakesMemory (refusal.Bad text code) = Unit {0}
TakesMemory _ = ⊥

-- a refusal was answered with its status and its line, or with `NoMemory`, where there is no memory for the line
abbrev pub Refuses : Refusal → SinkState → SinkState → Status → Type 0
Refuses why err err' status =
    ((status ≡ status_of why) × Says why err err')
    ⊎ (TakesMemory why × (status ≡ NoMemory) × Says refusal.NoMemory err err')

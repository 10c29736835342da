-- What is gathered of a request while its lines come, and how each is answered. No public clause names anything here.
use Rattle.std.specs.Prelude.{◌≡◌, ◌≢◌, ℕ, ◌<◌, ◌+◌, All, Bool, true, false, List, [], ◌∷◌, ◌++◌, Option, Some, None, Result, Ok, Err, IsSomeAnd, OnOk, length, slice_index_or, take, ◌⊎◌}
use Rattle.std.specs.List.{AllZip, concat}
use Rattle.std.specs.Io.KnownBytes.{IsAtEnd}
use Rattle.outside_world.specs.Sink.{Breaks, Gains, SinkState, one_more}
use Rattle.outside_world.specs.Source.{Comes, IsFront, SourceState}
use Rattle.outside_world.specs.declared.source.LineRead.{LineRead}
use Rattle.outside_world.specs.declared.source.LineRead.TheVariants as read
use Rattle.net_parts.specs.Numbers.{Net}
use Rattle.round_states.specs.NextTexts.{AreKept}
use Rattle.round_states.specs.StateRecords.{header}
use Rattle.round_states.specs.declared.states.RoundState.{RoundState}
use Rattle.round_states.specs.declared.kept_records.KeptRecords.{KeptRecords}
use Rattle.record_text.specs.Records.{records_of}
use Rattle.commands.specs.Limits.{most_bytes}
use Rattle.commands.specs.Refusals.{Says}
use Rattle.round_jobs.specs.Rounds.{IsDecisionText}
use Rattle.commands.specs.declared.refusals.Named.TheVariants.{Node}
use Rattle.commands.specs.declared.refusals.Refusal.{Refusal}
use Rattle.commands.specs.declared.refusals.Refusal.TheVariants as refusal
use Rattle.commands.specs.declared.refusals.TextPlace.TheVariants.{Second}
use Rattle.commands.specs.declared.status.Status.{Status}
use Rattle.commands.specs.declared.status.Status.TheVariants.{Done, NoMemory, ReadFault, WriteFault}
use Rattle.round_jobs.specs.Requests.{Asks, EndsRequest, Request}
use Rattle.round_jobs.specs.Serving.{AreAnswered, AreToldBy, IsAnswer, IsBrokenOff, IsCutOff, IsDecidedFor, IsNodeDecided, IsServed, Records}
use Rattle.round_jobs.specs.declared.decide.Reply.{Reply}
use Rattle.round_jobs.specs.declared.requests.Gathered.{Gathered}
use Rattle.round_jobs.specs.declared.requests.Lost.{Lost}
use Rattle.round_jobs.specs.declared.requests.Lost.TheVariants as lost

-- of a line this was read: the whole, or a front that says whether the line ends a request
abbrev pub IsOf : List ℕ → LineRead → List ℕ → Type 0
IsOf line read.End kept = ⊥
IsOf line read.Whole kept = kept ≡ line
IsOf line read.Part kept = IsFront line 5 kept

-- lines of a state are gathered as a text, or are lost: they are too long, or there was no memory for them
abbrev pub IsTextOf : List (List ℕ) → Option Lost → List ℕ → Type 0
IsTextOf lines None text = text ≡ concat lines
IsTextOf lines (Some lost.NoMemory) text = Unit {0}
IsTextOf lines (Some lost.Long) text = most_bytes < length (concat lines)

-- whether there are any is told
abbrev pub HasBegun : Bool → List (List ℕ) → Type 0
HasBegun false lines = lines ≡ []
HasBegun true lines = 0 < length lines

-- these lines of a state are gathered
pub record IsGathered (lines : List (List ℕ)) (g : Gathered) : Type 0 where
  pub begun : HasBegun g.has_begun lines
  pub text : IsTextOf lines g.lost g.text.items

-- why a line cannot be appended to a text: both are too long together, or memory ran out
abbrev pub IsTooMuch : List ℕ → List ℕ → Lost → Type 0
IsTooMuch text line lost.NoMemory = Unit {0}
IsTooMuch text line lost.Long = most_bytes < length text + length line

-- this is why, or memory ran out
abbrev pub OrNoMemory : (Refusal → Type 0) → Refusal → Type 0
OrNoMemory holds refusal.NoMemory = Unit {0}
OrNoMemory holds why = holds why

-- a request that is these lines and this last one
abbrev pub request_of : List (List ℕ) → List ℕ → Request
request_of lines last = record { lines = lines; last = last }

-- a refusal that has a line in an answer: of a state's text, of a node, or of memory
abbrev pub HasLine : Refusal → Type 0
HasLine (refusal.Bad Second why) = Unit {0}
HasLine (refusal.Missing Node) = Unit {0}
HasLine refusal.NoMemory = Unit {0}
HasLine _ = ⊥

-- the names that are left, and those before them, of which this was decided
pub record HasDecided (net : Net) (text : List ℕ) (names left : List (List ℕ)) (all : List ℕ) : Type 0 where
  pub before : List (List ℕ)
  pub parts : List (List ℕ)
  pub are : names ≡ before ++ left
  pub each : AllZip (IsNodeDecided net text) before parts
  pub whole : all ≡ concat parts

-- a request was answered
pub record IsAnswered (net : Net) (told : Records) (lines : List (List ℕ)) (last : List ℕ) (answer : List ℕ)
    (after : Records) : Type 0 where
  pub ends : EndsRequest last
  pub is : IsAnswer net told (request_of lines last) answer after

-- what is told last after an answer: that of which this is kept, or what was told before where nothing is
abbrev pub AreKeptAfter : Net → Records → Option KeptRecords → Records → Type 0
AreKeptAfter net told None after = after ≡ told
AreKeptAfter net told (Some kept) after = AreKept net after kept

-- all nodes decide this in the round of a state, and what it tells is kept
pub record IsDecidedIn (net : Net) (state : RoundState) (reply : Reply) : Type 0 where
  pub text : IsDecisionText net state reply.text.items
  pub records : Records
  pub are : records_of reply.text.items ≡ header ∷ records
  pub kept : IsSomeAnd reply.kept (AreKept net records)

-- this is decided of a text for those whom a request asks, and what is then told last is kept
pub record IsReply (net : Net) (told : Records) (text : List ℕ) (asks : Asks) (reply : Reply) : Type 0 where
  pub after : Records
  pub decided : IsDecidedFor net told text asks reply.text.items
  pub told_by : AreToldBy told asks reply.text.items after
  pub kept : AreKeptAfter net told reply.kept after

-- this answers a request, and what is then told last is kept
pub record IsAnswerTo (net : Net) (told : Records) (request : Request) (answer : Reply) : Type 0 where
  pub after : Records
  pub is : IsAnswer net told request answer.text.items after
  pub kept : AreKeptAfter net told answer.kept after

-- a text was written, or could not be written whole
abbrev pub IsPut : List ℕ → SinkState → SinkState → Result (Unit {0}) Refusal → Type 0
IsPut text out out' (Ok done) = Gains out out' text
IsPut text out out' (Err refusal.Unwritten) = Breaks out out' text
IsPut text out out' (Err _) = ⊥

-- the answer to a request was written, and what is told last is kept; or it could not be written whole
abbrev pub IsPutFor : Net → Records → Request → KeptRecords → SinkState → SinkState → Result (Unit {0}) Refusal → Type 0
IsPutFor net told request kept out out' result =
    (answer : List ℕ) × (after : Records) × IsAnswer net told request answer after × IsPut answer out out' result
    × OnOk result (AreKept net after kept)

-- A further line was heard: it is one of a state, and is gathered; or it ends a request, whose answer was written, and what is told last is
-- kept. Or the answer could not be written whole.
abbrev pub IsHeard : Net → Records → List (List ℕ) → List ℕ → Gathered → KeptRecords → SinkState → SinkState
    → Result (Unit {0}) Refusal → Type 0
IsHeard net told lines line g kept out out' (Ok done) =
    ((¬ EndsRequest line) × IsGathered (lines ++ line ∷ []) g × AreKept net told kept × (out' ≡ out))
    ⊎ (IsGathered [] g
    × ((answer : List ℕ) × (after : Records) × IsAnswered net told lines line answer after × AreKept net after kept
    × Gains out out' answer))
IsHeard net told lines line g kept out out' (Err refusal.Unwritten) =
    (answer : List ℕ) × (after : Records) × IsAnswered net told lines line answer after × Breaks out out' answer
IsHeard net told lines line g kept out out' (Err _) = ⊥

-- how all requests were answered, or why not all were
abbrev pub IsAnsweredAll : Net → SourceState → SourceState → SinkState → SinkState → Result (Unit {0}) Refusal → Type 0
IsAnsweredAll net from to out out' (Ok done) = IsServed net from to out out'
IsAnsweredAll net from to out out' (Err (refusal.Unread Second)) = IsCutOff net from to out out'
IsAnsweredAll net from to out out' (Err refusal.Unwritten) = IsBrokenOff net from to out out'
IsAnsweredAll net from to out out' (Err refusal.NoMemory) = (to ≡ from) × (out' ≡ out)
IsAnsweredAll net from to out out' (Err _) = ⊥

-- the source has ended, or this was read of the line that came
abbrev pub IsLineTaken : Option LineRead → SourceState → SourceState → List ℕ → Type 0
IsLineTaken None old new kept = (new ≡ old) × IsAtEnd old.left
IsLineTaken (Some r) old new kept = (line : List ℕ) × Comes old new line × IsOf line r kept

-- the source failed, and so there is no line
abbrev pub IsUntaken : SourceState → SourceState → Refusal → Type 0
IsUntaken old new (refusal.Unread Second) = new.faults ≡ one_more old.faults
IsUntaken old new _ = ⊥

-- how the serving of a network ended
abbrev pub EndsServing : Net → SourceState → SourceState → SinkState → SinkState → SinkState → SinkState → Status
    → Type 0
EndsServing net from to out out' err err' status =
    ((status ≡ Done) × IsServed net from to out out' × (err' ≡ err))
    ⊎ ((status ≡ ReadFault) × IsCutOff net from to out out' × Says (refusal.Unread Second) err err')
    ⊎ ((status ≡ WriteFault) × IsBrokenOff net from to out out' × Says refusal.Unwritten err err')
    ⊎ ((status ≡ NoMemory) × (to ≡ from) × (out' ≡ out) × Says refusal.NoMemory err err')

-- the first comma of some bytes is here
pub record IsFirstComma (bytes : List ℕ) (place : ℕ) : Type 0 where
  pub within : place < length bytes
  pub here : slice_index_or bytes place 0 ≡ 44
  pub before : All (λ byte. byte ≢ 44) (take place bytes)

-- the requests that came so far are answered, the lines after them are gathered, and what is told last is kept
pub record IsServing (net : Net) (from now : SourceState) (out out' : SinkState) (g : Gathered) (kept : KeptRecords)
    (count : ℕ) : Type 0 where
  pub lines : List (List ℕ)
  pub others : List (List ℕ)
  pub answers : List (List ℕ)
  pub answered : AreAnswered net from now lines others answers
  pub gathered : IsGathered others g
  pub told : AreKept net answered.told kept
  pub written : Gains out out' (concat answers)
  pub counted : length lines ≡ count

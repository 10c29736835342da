-- What `serve` answers to requests, and how it ends.
use Rattle.std.specs.Prelude.{◌≡◌, ◌≢◌, ℕ, ◌-◌, ◌^◌, ◌<◌, List, [], ◌∷◌, ◌++◌, Some, None, All, codes, length, ◌⊎◌}
use Rattle.std.specs.Io.KnownBytes.{IsAtEnd}
use Rattle.std.specs.List.{AllZip, concat}
use Rattle.outside_world.specs.Shelf.{GainsLast}
use Rattle.outside_world.specs.Sink.{Breaks, Gains, Rose, SinkState, one_more}
use Rattle.outside_world.specs.Source.{SourceState}
use Rattle.net_parts.specs.Numbers.{Net, number_of}
use Rattle.round_states.specs.declared.states.RoundState.{RoundState}
use Rattle.commands.specs.Kinds.{Kind}
use Rattle.scene_jobs.specs.Kinds.{NetworkText}
use Rattle.round_jobs.specs.Kinds.{StateText, node_state_of}
use Rattle.commands.specs.Limits.{most_bytes}
use Rattle.commands.specs.Outcome.{Outside}
use Rattle.commands.specs.Refusals.{Says, Writes, bad_line, line_of}
use Rattle.round_jobs.specs.Rounds.{IsDecisionText, IsNodeDecisionText}
use Rattle.commands.specs.Texts.{HasFault, IsBad, IsIn, IsReadAs, Reads, text_of}
use Rattle.commands.specs.declared.refusals.Named.TheVariants.{Node}
use Rattle.commands.specs.declared.refusals.Refusal.{Refusal}
use Rattle.commands.specs.declared.refusals.Refusal.TheVariants as refusal
use Rattle.commands.specs.declared.refusals.TextPlace.TheVariants.{First, Second}
use Rattle.commands.specs.declared.status.Status.{Status}
use Rattle.commands.specs.declared.status.Status.TheVariants.{Done, Rejected, Usage, BadInput, ReadFault, WriteFault, NoMemory}
use Rattle.round_jobs.specs.Requests as requests
use Rattle.round_jobs.specs.Requests.{AllCome, AreRequests, Asks, OfAll, OfNext, OfNames, Request, asked_by}
use Rattle.round_states.specs.NextTexts.{IsStateTextWith, IsTextFaultWith}
use Rattle.round_states.specs.StateRecords.{header}
use Rattle.round_states.specs.declared.asked.Asked.TheVariants as asked
use Rattle.round_states.specs.Codes.{state_code}
use Rattle.round_states.specs.declared.faults.StateFault.{StateFault}
use Rattle.round_states.specs.declared.faults.StateFault.TheVariants as state
use Rattle.record_text.specs.Records.{records_of}

-- what `decide` writes of a state's text of which it asks all nodes
pub record IsDecided (net : Net) (text bytes : List ℕ) : Type 0 where
  pub state : RoundState
  pub read : IsReadAs (StateText net) text state
  pub is : IsDecisionText net state bytes

-- what `decide` writes of a state's text of which it asks the node with this name
pub record IsNodeDecided (net : Net) (text name bytes : List ℕ) : Type 0 where
  pub state : RoundState
  pub read : IsReadAs (node_state_of name net) text state
  pub is : IsNodeDecisionText net state name bytes

-- records, each with its fields
abbrev pub Records : Type 0
Records = List (List (List ℕ))

-- the first fault of a text that tells no state where these records, which were told last, come after its own
abbrev pub IsBadNext : Net → Records → List ℕ → StateFault → Type 0
IsBadNext net told text fault = IsTextFaultWith net asked.AllNodes told text fault × (fault ≢ state.NoMemory)

-- the kind of texts that tell the state in which a round begins where these records come after their own
abbrev pub NextText : Net → Records → Kind
NextText net told =
    record {
      Said = RoundState;
      Fault = StateFault;
      is_text = IsStateTextWith net asked.AllNodes told;
      is_fault = IsBadNext net told;
      code = state_code;
    }

-- what `decide` writes of the state that a text tells where these records come after its own
pub record IsDecidedNext (net : Net) (told : Records) (text bytes : List ℕ) : Type 0 where
  pub state : RoundState
  pub read : IsReadAs (NextText net told) text state
  pub is : IsDecisionText net state bytes

-- what `decide` writes of all nodes; of all, where the records that were told last come after those of the text; or of those with these names,
-- one after another
abbrev pub IsDecidedFor : Net → Records → List ℕ → Asks → List ℕ → Type 0
IsDecidedFor net told text OfAll bytes = IsDecided net text bytes
IsDecidedFor net told text OfNext bytes = IsDecidedNext net told text bytes
IsDecidedFor net told text (OfNames names) bytes =
    (parts : List (List ℕ)) × AllZip (IsNodeDecided net text) names parts × (bytes ≡ concat parts)

-- the records that are told last after what was decided: of all nodes its own, but for the header; of nodes by themselves those of before
abbrev pub AreToldBy : Records → Asks → List ℕ → Records → Type 0
AreToldBy told (OfNames names) bytes after = after ≡ told
AreToldBy told _ bytes after = records_of bytes ≡ header ∷ after

-- a text within the limit is read as nothing of its kind, and this is the code of its fault
abbrev pub IsUnread : Kind → List ℕ → List ℕ → Type 0
IsUnread kind text code = ((said : kind.Said) → ¬ Reads kind text said) × HasFault kind text code

-- why `decide` refuses a state's text, which is to be of this kind
abbrev pub IsRefused : Kind → List ℕ → Refusal → Type 0
IsRefused kind text (refusal.Bad Second code) = IsUnread kind text code.items
IsRefused kind text _ = ⊥

-- why `decide` refuses a state's text of which it asks the node with this name: the text, or the name
abbrev pub IsNodeRefused : Net → List ℕ → List ℕ → Refusal → Type 0
IsNodeRefused net text name (refusal.Bad Second code) = IsUnread (node_state_of name net) text code.items
IsNodeRefused net text name (refusal.Missing Node) =
    (state : RoundState) × IsReadAs (node_state_of name net) text state × (number_of net.node_names name ≡ None)
IsNodeRefused net text name _ = ⊥

-- the first of these names of which `decide` refuses the text
pub record IsFirstRefused (net : Net) (text : List ℕ) (names : List (List ℕ)) (why : Refusal) : Type 0 where
  pub before : List (List ℕ)
  pub name : List ℕ
  pub after : List (List ℕ)
  pub are : names ≡ before ++ name ∷ after
  pub decided : All (λ other. (bytes : List ℕ) × IsNodeDecided net text other bytes) before
  pub refused : IsNodeRefused net text name why

-- why `decide` refuses the text of a request: of all nodes; of all, where the records that were told last come after those of the text; or
-- of the first of the names that it refuses
abbrev pub IsRefusedFor : Net → Records → List ℕ → Asks → Refusal → Type 0
IsRefusedFor net told text OfAll why = IsRefused (StateText net) text why
IsRefusedFor net told text OfNext why = IsRefused (NextText net told) text why
IsRefusedFor net told text (OfNames names) why = IsFirstRefused net text names why

-- why a request is refused: its text is too long, or `decide` refuses it; or memory ran out
abbrev pub IsWhy : Net → Records → Request → Refusal → Type 0
IsWhy net told request refusal.NoMemory = Unit {0}
IsWhy net told request (refusal.Bad Second code) =
    ((code.items ≡ codes "long") × (most_bytes < length (requests.text_of request)))
    ⊎ IsRefusedFor net told (requests.text_of request) (asked_by request.last) (refusal.Bad Second code)
IsWhy net told request why = IsRefusedFor net told (requests.text_of request) (asked_by request.last) why

-- the line that ends an answer, and the answer that is a refusal
abbrev pub end_line : List ℕ
end_line = codes "end\n"

abbrev pub refused_answer : Refusal → List ℕ
refused_answer why = codes "refused," ++ line_of why ++ end_line

-- the answer to a request, where records were told last, and those that are told last after it: what `decide` writes of it, and a line
-- `end`; or why it is refused, and then they are those of before
abbrev pub IsAnswer : Net → Records → Request → List ℕ → Records → Type 0
IsAnswer net told request answer after =
    ((bytes : List ℕ) × IsDecidedFor net told (requests.text_of request) (asked_by request.last) bytes
    × AreToldBy told (asked_by request.last) bytes after × (answer ≡ bytes ++ end_line))
    ⊎ ((why : Refusal) × IsWhy net told request why × (after ≡ told) × (answer ≡ refused_answer why))

-- the answers to requests, one after another, and the records that are told last before and after them
abbrev pub AreAnswers : Net → Records → List Request → List (List ℕ) → Records → Type 0
AreAnswers net told [] [] after = after ≡ told
AreAnswers net told (request ∷ requests) (answer ∷ answers) after =
    (next : Records) × IsAnswer net told request answer next × AreAnswers net next requests answers after
AreAnswers net told _ _ after = ⊥

-- what is answered to lines after the last request, as the source has ended: nothing where there are none, else that they cannot be read
abbrev pub answer_to_others : List (List ℕ) → List ℕ
answer_to_others [] = []
answer_to_others (line ∷ rest) = refused_answer (refusal.Unread Second)

-- lines came, and these are the answers to the requests that they are
pub record AreAnswered (net : Net) (from to : SourceState) (lines others answers : List (List ℕ)) : Type 0 where
  pub come : AllCome from lines to
  pub requests : List Request
  pub are : AreRequests lines requests others
  pub told : Records
  pub each : AreAnswers net [] requests answers told

-- the source has ended after these lines; one that gives 2^64 - 1 lines counts as ended
abbrev pub HasEnded : SourceState → List (List ℕ) → Type 0
HasEnded to lines = IsAtEnd to.left ⊎ (length lines ≡ 2 ^ 64 - 1)

-- all lines came, and all requests were answered
pub record IsServed (net : Net) (from to : SourceState) (out out' : SinkState) : Type 0 where
  pub lines : List (List ℕ)
  pub others : List (List ℕ)
  pub answers : List (List ℕ)
  pub answered : AreAnswered net from to lines others answers
  pub ended : HasEnded to lines
  pub written : Gains out out' (concat answers ++ answer_to_others others)

-- after the lines that came the source failed, and all requests that came were answered
pub record IsCutOff (net : Net) (from to : SourceState) (out out' : SinkState) : Type 0 where
  pub lines : List (List ℕ)
  pub others : List (List ℕ)
  pub answers : List (List ℕ)
  pub before : SourceState
  pub answered : AreAnswered net from before lines others answers
  pub failed : to.faults ≡ one_more before.faults
  pub written : Gains out out' (concat answers)

-- after these answers this is the last one: to the request that ends the lines; or to the lines after the last request, as the source
-- has ended
abbrev pub IsLast : Net → SourceState → SourceState → List (List ℕ) → List (List ℕ) → List (List ℕ) → List ℕ → Type 0
IsLast net from to lines [] answers last = AreAnswered net from to lines [] (answers ++ last ∷ [])
IsLast net from to lines (line ∷ rest) answers last =
    AreAnswered net from to lines (line ∷ rest) answers × (last ≡ answer_to_others (line ∷ rest)) × HasEnded to lines

-- the last answer could not be written whole: those before it were, then a front of it, and nothing after it
pub record IsBrokenOff (net : Net) (from to : SourceState) (out out' : SinkState) : Type 0 where
  pub lines : List (List ℕ)
  pub others : List (List ℕ)
  pub answers : List (List ℕ)
  pub last : List ℕ
  pub is : IsLast net from to lines others answers last
  pub middle : SinkState
  pub before : Gains out middle (concat answers)
  pub breaks : Breaks middle out' last

-- the text in a file is read as this network, and as nothing else; and this is so of it
abbrev pub OfNetwork : (net : List ℕ) → Outside → (Net → Type 0) → Type 0
OfNetwork net old holds = (network : Net) × IsIn old.shelf.files net NetworkText network × holds network

-- How `serve` ends: `old` is what the shelf and the sinks were and `new` what they are now, and the source was `from` and is `to`.
pub record Serves (net : List ℕ) (old new : Outside) (from to : SourceState) (status : Status) : Type 0 where
  -- all requests were answered
  pub done : status ≡ Done → OfNetwork net old (λ network. IsServed network from to old.out new.out)
  -- the words are right, and nothing is judged
  pub usage : status ≢ Usage
  pub rejected : status ≢ Rejected
  -- the network is refused, and the line says why
  pub bad_input : status ≡ BadInput
      → (code : List ℕ) × IsBad old.shelf.files code NetworkText net × Writes (bad_line First code) old.err new.err
  -- the network cannot be read, or the source failed, and the line says which
  pub read_fault : status ≡ ReadFault →
      (GainsLast old.shelf.failed new.shelf.failed net × (to ≡ from) × (new.out ≡ old.out)
      × Says (refusal.Unread First) old.err new.err)
      ⊎ (OfNetwork net old (λ network. IsCutOff network from to old.out new.out)
      × Says (refusal.Unread Second) old.err new.err)
  -- an answer was not written whole
  pub write_fault : status ≡ WriteFault
      → OfNetwork net old (λ network. IsBrokenOff network from to old.out new.out)
      × Says refusal.Unwritten old.err new.err
  -- memory ran out before any line came
  pub no_memory : status ≡ NoMemory → Says refusal.NoMemory old.err new.err
  -- nothing else changes the shelf, the source, out or err, and nothing the shelf's files
  pub shelf : status ≢ ReadFault → new.shelf ≡ old.shelf
  pub files : new.shelf.files ≡ old.shelf.files
  pub source : (status ≡ BadInput) ⊎ (status ≡ NoMemory) → to ≡ from
  pub out : (status ≡ BadInput) ⊎ (status ≡ NoMemory) → new.out ≡ old.out
  pub err : status ≡ Done → new.err ≡ old.err
  -- a network that the shelf tells, and that is read as none, is refused
  pub refused : (text : List ℕ) → text_of old.shelf.files net ≡ Some text
      → ((network : Net) → ¬ Reads NetworkText text network)
      → new.shelf ≡ old.shelf → (status ≡ BadInput) ⊎ (status ≡ NoMemory)
  -- where nothing is wrong and nothing failed, all requests are answered
  pub complete : (text : List ℕ) → text_of old.shelf.files net ≡ Some text → (network : Net)
      → Reads NetworkText text network
      → new.shelf ≡ old.shelf → ¬ Rose from.faults to.faults → ¬ Rose old.out.faults new.out.faults
      → (status ≡ Done) ⊎ (status ≡ NoMemory)

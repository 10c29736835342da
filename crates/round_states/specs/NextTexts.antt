-- Which state a text tells where records that an answer told come after its own.
use Rattle.std.specs.Prelude.{◌≡◌, ℕ, List, ◌++◌, All, Some}
use Rattle.foundation.specs.Options.{each}
use Rattle.net_parts.specs.Numbers.{Net}
use Rattle.record_text.specs.Forms.{AreRecordsOf, AreRefusedFor}
use Rattle.record_text.specs.Records.{records_of}
use Rattle.round_states.specs.declared.asked.Asked.{Asked}
use Rattle.round_states.specs.declared.entries.Entry.{Entry}
use Rattle.round_states.specs.declared.entries.StateRecord.{StateRecord}
use Rattle.round_states.specs.declared.entries.StateRecord.TheVariants as said
use Rattle.round_states.specs.declared.faults.StateFault.{StateFault}
use Rattle.round_states.specs.declared.states.RoundState.{RoundState}
use Rattle.round_states.specs.declared.kept_records.KeptRecords.{KeptRecords}
use Rattle.round_states.specs.Faults.{cause_of}
use Rattle.round_states.specs.StateRecords.{parse_in}
use Rattle.round_states.specs.Texts.{form}

-- an answer tells neither when a round begins nor what is sensed
abbrev pub IsOfAnswer : StateRecord → Type 0
IsOfAnswer (said.Now second) = ⊥
IsOfAnswer (said.Queue queue) = ⊥
IsOfAnswer (said.Coming row) = ⊥
IsOfAnswer _ = Unit {0}

-- all that is kept is of an answer
abbrev pub AreOfAnswer : KeptRecords → Type 0
AreOfAnswer kept = All (λ (e : Entry). IsOfAnswer e.content) kept.all.items

-- what these records of an answer tell is kept
pub record AreKept (net : Net) (records : List (List (List ℕ))) (kept : KeptRecords) : Type 0 where
  pub reads : each (parse_in net) records ≡ Some kept.all.items
  pub told : AreOfAnswer kept

-- what is kept of some records, and now of these too
pub record Keeps (net : Net) (old new : KeptRecords) (records : List (List (List ℕ))) : Type 0 where
  pub keeps : (before : List (List (List ℕ))) → AreKept net before old → AreKept net (before ++ records) new

-- the state that a text tells for these nodes where these records come after its own
abbrev pub IsStateTextWith : Net → Asked → List (List (List ℕ)) → List ℕ → RoundState → Type 0
IsStateTextWith net asked told bytes state = AreRecordsOf (form net asked) (records_of bytes ++ told) state

-- the first fault of a text that tells no state for these nodes where these records come after its own
abbrev pub IsTextFaultWith : Net → Asked → List (List (List ℕ)) → List ℕ → StateFault → Type 0
IsTextFaultWith net asked told bytes fault =
    AreRefusedFor (form net asked) (records_of bytes ++ told) (cause_of net asked fault)

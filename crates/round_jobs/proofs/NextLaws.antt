-- What was told last, and a text that has its records.
use Rattle.std.proofs.Common.{◌≡◌, ◌≤◌, ℕ, List, [], ◌∷◌, ◌++◌, Option, Some, None, IsSomeAnd, length, refl, sym, subst, arith}
use Rattle.std.proofs.lemmas.List.Elements.{All-cons}
use Rattle.std.proofs.lemmas.Option.{none-some}
use Rattle.std.specs.List.{flat_map}
use Rattle.csv.specs.Writing.{default_writer, fields_text, is_blank, row_text}
use Rattle.foundation.proofs.EachLaws.{each-good}
use Rattle.net_parts.specs.Numbers.{Net}
use Rattle.record_text.specs.Forms.{AreRecordsOf, AreRefusedFor}
use Rattle.record_text.specs.Records.{records_of}
use Rattle.world_records.specs.Records.{records_text}
use Rattle.world_records.proofs.RecordLaws.{HasField, read-records}
use Rattle.round_states.specs.declared.asked.Asked.TheVariants.{AllNodes}
use Rattle.round_states.specs.declared.entries.Entry.{Entry}
use Rattle.round_states.specs.declared.kept_records.KeptRecords.{KeptRecords}
use Rattle.round_states.specs.Faults.{cause_of}
use Rattle.round_states.specs.NextTexts.{AreKept}
use Rattle.round_states.specs.StateRecords.{header, parse_in}
use Rattle.round_states.specs.Texts.{form}
use Rattle.round_jobs.specs.Kinds.{StateText}
use Rattle.commands.specs.Limits.{most_bytes}
use Rattle.commands.specs.declared.refusals.Refusal.{Refusal}
use Rattle.commands.specs.declared.refusals.Refusal.TheVariants as refusal
use Rattle.commands.specs.declared.refusals.TextPlace.TheVariants.{Second}
use Rattle.round_jobs.specs.Gathering.{AreKeptAfter}
use Rattle.round_jobs.specs.Serving.{IsDecided, IsDecidedNext, IsRefused, NextText, Records}

-- a record that tells something has a field
has-field : (net : Net) (fields : List (List ℕ)) (e : Entry) → parse_in net fields ≡ Some e → HasField fields
unfolding parse_in
has-field net [] e reads = absurd (none-some e reads)
has-field net (x ∷ fields) e reads = omega arith

-- the header is written first
header-begins : (rows : List (List (List ℕ))) → (rest : List ℕ) × (flat_map (row_text default_writer) (header ∷ rows) ≡ 107 ∷ rest)
unfolding is_blank fields_text
header-begins rows = (_, refl)

-- what is kept is what the text of its records tells
pub told-again : (net : Net) (told : Records) (kept : KeptRecords) → AreKept net told kept → records_of (records_text (header ∷ told)) ≡ header ∷ told
told-again net told kept is =
    let (rest, begins) = header-begins told in
    read-records (header ∷ told) rest begins (All-cons HasField header told (omega arith) (each-good (parse_in net) HasField (has-field net) told kept.all.items is.reads))

-- what an answer tells is kept
pub kept-after : (net : Net) (told after : Records) (new : Option KeptRecords) → IsSomeAnd new (AreKept net after) → AreKeptAfter net told new after
kept-after net told after None is = absurd is
kept-after net told after (Some kept) is = is

module _ (net : Net) (told : Records) (text whole : List ℕ) (are : records_of whole ≡ records_of text ++ told) (within : length text ≤ most_bytes) (fits : length whole ≤ most_bytes) where
  -- the text that has all records is read as theirs
  pub decided-whole : (bytes : List ℕ) → IsDecidedNext net told text bytes → IsDecided net whole bytes
  decided-whole bytes is = record {
    state = is.state;
    read = record {
      reads = (fits, subst (λ (l : Records). AreRecordsOf (form net AllNodes) l is.state) (sym are) is.read.reads.1);
      only = λ other reads. is.read.only other (within, subst (λ (l : Records). AreRecordsOf (form net AllNodes) l other) are reads.1);
    };
    is = is.is;
  }

  -- and refused as they are
  pub refused-whole : (why : Refusal) → IsRefused (NextText net told) text why → IsRefused (StateText net) whole why
  refused-whole (refusal.Bad Second code) is = (
    λ said reads. is.0 said (within, subst (λ (l : Records). AreRecordsOf (form net AllNodes) l said) are reads.1),
    record {
      short = fits;
      fault = is.1.fault;
      is = (subst (λ (l : Records). AreRefusedFor (form net AllNodes) l (cause_of net AllNodes is.1.fault)) (sym are) is.1.is.0, is.1.is.1);
      code_is = is.1.code_is;
    },
  )
  refused-whole _ is = absurd is

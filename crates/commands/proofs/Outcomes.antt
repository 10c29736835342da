-- How a command ends, from what it made or why it made nothing, and from how that was delivered.
use Rattle.std.proofs.Common.{◌≡◌, ℕ, List, Result, Ok, Err, inl, inr, sym, ap, subst, arith}
use Rattle.std.specs.Result.{IsErrAnd}
use Rattle.std.specs.Prelude.{◌⊎◌}
use Rattle.outside_world.specs.Shelf.{ShelfState}
use Rattle.outside_world.specs.Sink.{Breaks, Gains, Rose, one_more}
use Rattle.commands.specs.declared.ending.Made.{Made}
use Rattle.commands.specs.declared.ending.Made.TheVariants as made
use Rattle.commands.specs.declared.refusals.TextPlace.{TextPlace}
use Rattle.commands.specs.declared.refusals.Refusal.{Refusal}
use Rattle.commands.specs.declared.refusals.Refusal.TheVariants as refusal
use Rattle.commands.specs.declared.status.Status.{Status}
use Rattle.commands.specs.declared.status.Status.TheVariants.{Done, Rejected, BadInput, ReadFault, WriteFault, NoMemory}
use Rattle.commands.specs.Meanings.{Meaning, MissesNothing}
use Rattle.commands.specs.Ending.{Ends, Explains, Makes}
use Rattle.commands.specs.Outcome.{IsBadInput, IsUnread, Outcome, Outside, Read}
use Rattle.commands.specs.Refusals.{Says}
use Rattle.commands.specs.Stops.{StopsIn}
use Rattle.commands.specs.Texts.{AllSaid, AreIn, Tells, TellsBad}
use Rattle.commands.proofs.TextLaws.{as_told, none_bad, none_gains, none_told_bad}

-- a count with one fault more has risen
risen : (before now : ℕ) → now ≡ one_more before → Rose before now
risen before now more = omega (arith, more)

module _ (call : Meaning) (old new : Outside) where
  -- what is so of the texts that were read is so of those that are told
  told_so : (holds : AllSaid call.texts → Type 0) (read said : AllSaid call.texts) → AreIn old.shelf.files call.texts read → Tells old.shelf.files call.texts said → holds read → holds said
  told_so holds read said are told h = as_told old.shelf.files call.texts read said are told holds h

  none_refused : (said : AllSaid call.texts) → AreIn old.shelf.files call.texts said → (place : TextPlace) → TellsBad old.shelf.files call.texts place → ⊥
  none_refused said are place bad = none_told_bad old.shelf.files call.texts said place are bad

  pub done : (text : List ℕ) (status : Status) → new.shelf ≡ old.shelf
      → Read call old.shelf.files (λ said. (call.writes said text × ¬ call.against said) × MissesNothing call said)
      → status ≡ Done → Gains old.out new.out text → new.err ≡ old.err → Outcome call old new status
  done text status same read is gains err = record {
    done = λ e. (read.0, read.1, (text, read.2.0.0, gains));
    rejected = λ e. absurd (cc);
    usage = λ e. cc;
    bad_input = λ e. absurd (cc);
    read_fault = λ e. absurd (cc);
    write_fault = λ e. absurd (cc);
    no_memory = λ e. absurd (cc);
    shelf = λ e. same;
    files = ap (λ (s : ShelfState). s.files) same;
    out = λ a b c. absurd (a is);
    err = λ e. err;
    refused = λ place bad e. absurd (none_refused read.0 read.1 place bad);
    missing = λ said told what misses e. absurd (told_so (MissesNothing call) read.0 said read.1 told read.2.1 what misses);
    complete = λ said told none for e kept. inl is;
    against = λ said told none against e kept. absurd (told_so (λ s. ¬ call.against s) read.0 said read.1 told read.2.0.1 against);
  }

  rejected : (text : List ℕ) (status : Status) → new.shelf ≡ old.shelf
      → Read call old.shelf.files (λ said. (call.rejects said text × call.against said) × MissesNothing call said)
      → status ≡ Rejected → Gains old.out new.out text → new.err ≡ old.err → Outcome call old new status
  rejected text status same read is gains err = record {
    done = λ e. absurd (cc);
    rejected = λ e. (read.0, read.1, (text, read.2.0.0, gains));
    usage = λ e. cc;
    bad_input = λ e. absurd (cc);
    read_fault = λ e. absurd (cc);
    write_fault = λ e. absurd (cc);
    no_memory = λ e. absurd (cc);
    shelf = λ e. same;
    files = ap (λ (s : ShelfState). s.files) same;
    out = λ a b c. absurd (b is);
    err = λ e. err;
    refused = λ place bad e. absurd (none_refused read.0 read.1 place bad);
    missing = λ said told what misses e. absurd (told_so (MissesNothing call) read.0 said read.1 told read.2.1 what misses);
    complete = λ said told none for e kept. absurd (for (told_so (call.against) read.0 said read.1 told read.2.0.1));
    against = λ said told none against e kept. inl is;
  }

  pub broken : (text : List ℕ) (status : Status) → new.shelf ≡ old.shelf
      → Read call old.shelf.files (λ said. (call.writes said text ⊎ call.rejects said text) × MissesNothing call said)
      → status ≡ WriteFault → Breaks old.out new.out text → Says refusal.Unwritten old.err new.err → Outcome call old new status
  broken text status same read is breaks line = record {
    done = λ e. absurd (cc);
    rejected = λ e. absurd (cc);
    usage = λ e. cc;
    bad_input = λ e. absurd (cc);
    read_fault = λ e. absurd (cc);
    write_fault = λ e. (line, (read.0, read.1, (text, read.2.0, breaks)));
    no_memory = λ e. absurd (cc);
    shelf = λ e. same;
    files = ap (λ (s : ShelfState). s.files) same;
    out = λ a b c. absurd (c is);
    err = λ e. elim e [ inl a ↦ absurd (cc) | inr a ↦ absurd (cc) ];
    refused = λ place bad e. absurd (none_refused read.0 read.1 place bad);
    missing = λ said told what misses e. absurd (told_so (MissesNothing call) read.0 said read.1 told read.2.1 what misses);
    complete = λ said told none for e kept. absurd (kept (risen _ _ breaks.faults));
    against = λ said told none against e kept. absurd (kept (risen _ _ breaks.faults));
  }

  pub wants : (status : Status) → new.shelf ≡ old.shelf → status ≡ NoMemory → new.out ≡ old.out → Says refusal.NoMemory old.err new.err → Outcome call old new status
  wants status same is left line = record {
    done = λ e. absurd (cc);
    rejected = λ e. absurd (cc);
    usage = λ e. cc;
    bad_input = λ e. absurd (cc);
    read_fault = λ e. absurd (cc);
    write_fault = λ e. absurd (cc);
    no_memory = λ e. line;
    shelf = λ e. same;
    files = ap (λ (s : ShelfState). s.files) same;
    out = λ a b c. left;
    err = λ e. elim e [ inl a ↦ absurd (cc) | inr a ↦ absurd (cc) ];
    refused = λ place bad e. inr is;
    missing = λ said told what misses e. inr is;
    complete = λ said told none for e kept. inr is;
    against = λ said told none against e kept. inr is;
  }

  -- the input is bad, and where the shelf tells its texts, they are not all read and their words miss nothing
  bad : (why : Refusal) (status : Status) → new.shelf ≡ old.shelf → IsBadInput call old.shelf.files why
      → ((said : AllSaid call.texts) → Tells old.shelf.files call.texts said → MissesNothing call said → ⊥)
      → status ≡ BadInput → new.out ≡ old.out → Says why old.err new.err → Outcome call old new status
  bad why status same input never is left line = record {
    done = λ e. absurd (cc);
    rejected = λ e. absurd (cc);
    usage = λ e. cc;
    bad_input = λ e. (why, input, line);
    read_fault = λ e. absurd (cc);
    write_fault = λ e. absurd (cc);
    no_memory = λ e. absurd (cc);
    shelf = λ e. same;
    files = ap (λ (s : ShelfState). s.files) same;
    out = λ a b c. left;
    err = λ e. elim e [ inl a ↦ absurd (cc) | inr a ↦ absurd (cc) ];
    refused = λ place bad e. inl is;
    missing = λ said told what misses e. inl is;
    complete = λ said told none for e kept. absurd (never said told none);
    against = λ said told none against e kept. absurd (never said told none);
  }

  unread : (place : TextPlace) (status : Status) → new.shelf.files ≡ old.shelf.files → IsUnread call old.shelf new.shelf place
      → status ≡ ReadFault → new.out ≡ old.out → Says (refusal.Unread place) old.err new.err → Outcome call old new status
  unread place status files at is left line =
      let gained : new.shelf ≡ old.shelf → ⊥ = λ e. none_gains old.shelf.failed new.shelf.failed old.shelf.files call.texts place at (ap (λ (s : ShelfState). s.failed) e) in record {
        done = λ e. absurd (cc);
        rejected = λ e. absurd (cc);
        usage = λ e. cc;
        bad_input = λ e. absurd (cc);
        read_fault = λ e. (place, at, line);
        write_fault = λ e. absurd (cc);
        no_memory = λ e. absurd (cc);
        shelf = λ e. absurd (e is);
        files = files;
        out = λ a b c. left;
        err = λ e. elim e [ inl a ↦ absurd (cc) | inr a ↦ absurd (cc) ];
        refused = λ other bad e. absurd (gained e);
        missing = λ said told what misses e. absurd (gained e);
        complete = λ said told none for e kept. absurd (gained e);
        against = λ said told none against e kept. absurd (gained e);
      }

  pub refuses : (why : Refusal) (status : Status) → Explains call old.shelf new.shelf why → Ends (Err why) old.out new.out old.err new.err status → Outcome call old new status
  refuses refusal.Usage status makes ends = absurd makes
  refuses refusal.Unwritten status makes ends = absurd makes
  refuses refusal.NoMemory status makes (left, inl said) = wants status makes said.0 left said.1
  refuses refusal.NoMemory status makes (left, inr said) = absurd said.0
  refuses (refusal.Unread place) status makes (left, inl said) = unread place status makes.0 makes.1 said.0 left said.1
  refuses (refusal.Unread place) status makes (left, inr said) = absurd said.0
  refuses (refusal.Bad place code) status makes (left, inl said) =
      bad (refusal.Bad place code) status makes.0 makes.1 (λ said told none. none_bad old.shelf.files call.texts said place code.items told makes.1) said.0 left said.1
  refuses (refusal.Bad place code) status makes (left, inr said) = wants status makes.0 said.1 left said.2
  refuses (refusal.Missing what) status makes (left, inl said) =
      bad (refusal.Missing what) status makes.0 makes.1 (λ said told none. none what (told_so (λ s. call.misses s what) makes.1.0 said makes.1.1 told makes.1.2)) said.0 left said.1
  refuses (refusal.Missing what) status makes (left, inr said) = absurd said.0

  -- a command ends as the table of answers says
  pub outcome : (result : Result Made Refusal) (status : Status) → Makes call old.shelf new.shelf result → Ends result old.out new.out old.err new.err status → Outcome call old new status
  outcome (Ok (made.Done text)) status makes (inl w) = done text.items status makes.0 makes.1 w.is w.gains w.same
  outcome (Ok (made.Done text)) status makes (inr b) = broken text.items status makes.0 (makes.1.0, makes.1.1, (inl makes.1.2.0.0, makes.1.2.1)) b.is b.breaks b.line
  outcome (Ok (made.Rejected text)) status makes (inl w) = rejected text.items status makes.0 makes.1 w.is w.gains w.same
  outcome (Ok (made.Rejected text)) status makes (inr b) = broken text.items status makes.0 (makes.1.0, makes.1.1, (inr makes.1.2.0.0, makes.1.2.1)) b.is b.breaks b.line
  outcome (Err why) status makes ends = refuses why status makes ends

-- why the texts of a command could not be had explains why it made nothing
explained : (call : Meaning) (old new : ShelfState) (why : Refusal) → StopsIn call.texts old new why → Explains call old new why
explained call old new (refusal.Missing what) stops = absurd stops
explained call old new _ stops = stops

-- what explains it is the answer
pub handed_on : (call : Meaning) (old new : ShelfState) (result : Result Made Refusal) (why : Refusal) → Explains call old new why → IsErrAnd result (λ e. e ≡ why) → Makes call old new result
handed_on call old new (Ok made) why explains handed = absurd handed
handed_on call old new (Err e) why explains handed = subst (Explains call old new) (sym handed) explains

pub failed : (call : Meaning) (old new : ShelfState) (result : Result Made Refusal) (why : Refusal) → StopsIn call.texts old new why → IsErrAnd result (λ e. e ≡ why) → Makes call old new result
failed call old new result why stops handed = handed_on call old new result why (explained call old new why stops) handed

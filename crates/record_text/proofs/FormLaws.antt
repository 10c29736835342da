-- Texts of records of one form: the first cause to refuse one, and that it then stands for no value.
use Rattle.std.proofs.Common.{◌≡◌, ℕ, List, ◌∷◌, ◌++◌, Some, sym, ap, ◌∙◌, subst, inl, inr}
use Rattle.std.proofs.lemmas.Option.{same_Some}
use Rattle.std.specs.declared.alloc.AllocError.{AllocError}
use Rattle.foundation.specs.Options.{each}
use Rattle.record_text.specs.Faults.{HasAfterHeader, IsFirstFault}
use Rattle.record_text.specs.Forms.{Form, AreRecordsOf, AreReadAs, AreRefusedFor, Cause, OutOfMemory, NoHeader, AtRecord, AtEnd}
use Rattle.record_text.specs.Walks.{IsFaultAmong, OrMemory}
use Rattle.record_text.proofs.FaultLaws.{cut-at, one-after}

-- after records that were taken, this is the cause to refuse the record with this number
abbrev pub IsHere : {Y V : Type 0} → Form Y V → List (List (List ℕ)) → List (List ℕ) → ℕ → Cause Y → Type 0
IsHere form before here number OutOfMemory = Unit {0}
IsHere form before here number NoHeader = ⊥
IsHere {Y} form before here number (AtRecord n at_fault) = (n ≡ number) × (parsed : List Y) × AreReadAs form.read form.lawful before parsed × at_fault parsed here
IsHere form before here number (AtEnd at_fault) = ⊥

-- what is refused for this cause is told by no records of a value
abbrev pub Refutes : {Y V : Type 0} → Form Y V → Cause Y → Type 0
Refutes form OutOfMemory = ⊥
Refutes form NoHeader = Unit {0}
Refutes {Y} {V} form (AtRecord number at_fault) = (before : List Y) (here : List (List ℕ)) (y : Y) (rest : List Y) (value : V)
    → form.lawful before → at_fault before here → form.read here ≡ Some y → form.is_of (before ++ y ∷ rest) value → ⊥
Refutes {Y} {V} form (AtEnd at_fault) = (parsed : List Y) (value : V) → form.lawful parsed → at_fault parsed → form.is_of parsed value → ⊥

module _ {Y V : Type 0} (form : Form Y V) (all : List (List (List ℕ))) where
  -- one record at fault refuses all
  stopped : (cause : Cause Y) (number : ℕ) (records : List (List (List ℕ))) (are : all ≡ form.header ∷ records) {S : Type 0} {has_taken : List (List (List ℕ)) → S → Type 0} {at_fault : S → List (List ℕ) → Type 0}
      (first : IsFirstFault has_taken records number at_fault) → IsHere form first.before first.here number cause → AreRefusedFor form all cause
  stopped OutOfMemory number records are first h = tt
  stopped NoHeader number records are first h = absurd h
  stopped (AtRecord n at_fault) number records are first (same, parsed, reads, is) = record {
    records = records;
    are = are;
    after = record { before = first.before; here = first.here; after = first.after; are = first.are; counted = same ∙ first.counted; so_far = parsed; reads = reads; faulty = is };
  }
  stopped (AtEnd at_fault) number records are first h = absurd h

  -- so does the first that is not taken
  pub first-cause : {S F : Type 0} (cause : Cause Y) (memory : AllocError → F → Type 0) (has_taken : List (List (List ℕ)) → S → Type 0) (at_fault : S → List (List ℕ) → ℕ → F → Type 0) (fault : F)
      → ((e : AllocError) → memory e fault → AreRefusedFor form all cause)
      → ((before : List (List (List ℕ))) (taker : S) (here : List (List ℕ)) (number : ℕ) → has_taken before taker → at_fault taker here number fault → IsHere form before here number cause)
      → OrMemory memory fault (HasAfterHeader form.header all (IsFaultAmong has_taken at_fault fault)) → AreRefusedFor form all cause
  first-cause cause memory has_taken at_fault fault none refuses (inl (e, is)) = none e is
  first-cause cause memory has_taken at_fault fault none refuses (inr stop) =
      let (number, first) = stop.after in
      stopped cause number stop.records stop.are first (refuses first.before first.so_far first.here number first.reads first.faulty)

  -- what is refused stands for no value
  pub refuted : (cause : Cause Y) → Refutes form cause → AreRefusedFor form all cause → (value : V) → AreRecordsOf form all value → ⊥
  refuted OutOfMemory refutes refused value is = refutes
  refuted NoHeader refutes refused value is = refused is.records is.are
  refuted (AtRecord number at_fault) refutes refused value is =
      let first = refused.after in
      let same = ap (each form.read) (one-after form.header is.records refused.records (sym is.are ∙ refused.are) ∙ first.are) in
      let (y, rest, reads, whole) = cut-at form.read first.before first.after first.here is.parsed first.so_far (sym same ∙ is.reads) first.reads.reads in
      refutes first.so_far first.here y rest value first.reads.lawful first.faulty reads (subst (λ ys. form.is_of ys value) whole is.is)
  refuted (AtEnd at_fault) refutes refused value is =
      let (parsed, read, early) = refused.after in
      let same = ap (each form.read) (one-after form.header is.records refused.records (sym is.are ∙ refused.are)) in
      refutes parsed value read.lawful early (subst (λ ys. form.is_of ys value) (same_Some is.parsed parsed (sym is.reads ∙ same ∙ read.reads)) is.is)

  -- records tell one thing at most
  pub one-parsed : (one other : V) (a : AreRecordsOf form all one) (b : AreRecordsOf form all other) → a.parsed ≡ b.parsed
  one-parsed one other a b = same_Some a.parsed b.parsed (sym a.reads ∙ ap (each form.read) (one-after form.header a.records b.records (sym a.are ∙ b.are)) ∙ b.reads)

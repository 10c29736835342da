-- Texts of records of one form: which value a text stands for, and why it stands for none.
use Rattle.std.specs.Prelude.{◌≡◌, ◌≢◌, ℕ, List, ◌∷◌, Option, Some}
use Rattle.foundation.specs.Options.{each}
use Rattle.record_text.specs.Faults.{HasAfterHeader, IsFirstFault}
use Rattle.record_text.specs.Records.{records_of}

-- The form of a text: its header; what a record tells, where it tells something; when all that was told so far is lawful; and the
-- value of all that is told.
pub record Form (Y V : Type 0) : Type 1 where
  pub header : List (List ℕ)
  pub read : List (List ℕ) → Option Y
  pub lawful : List Y → Type 0
  pub is_of : List Y → V → Type 0

-- the first of all records is the header, and this is the value of what the others tell
pub record AreRecordsOf {Y V : Type 0} (form : Form Y V) (all : List (List (List ℕ))) (value : V) : Type 0 where
  pub records : List (List (List ℕ))
  pub are : all ≡ form.header ∷ records
  pub parsed : List Y
  pub reads : each form.read records ≡ Some parsed
  pub is : form.is_of parsed value

-- a text stands for the value of its records
abbrev pub IsTextOf : {Y V : Type 0} → Form Y V → List ℕ → V → Type 0
IsTextOf form bytes value = AreRecordsOf form (records_of bytes) value

-- these elements are read as this, which is lawful
pub record AreReadAs {X Y : Type 0} (read : X → Option Y) (is_lawful : List Y → Type 0) (elements : List X)
    (parsed : List Y) : Type 0 where
  pub reads : each read elements ≡ Some parsed
  pub lawful : is_lawful parsed

-- Why a text is refused: memory ran out, which says nothing of it; it does not begin with the header; `at_fault` holds of the record
-- with this number, counted from 1 after the header, and of what those before it tell; or it holds of what all records tell.
pub data Cause (Y : Type 0) : Type 1 where
  OutOfMemory : Cause Y
  NoHeader : Cause Y
  AtRecord : (number : ℕ) → (at_fault : List Y → List (List ℕ) → Type 0) → Cause Y
  AtEnd : (at_fault : List Y → Type 0) → Cause Y

-- Records are refused for this cause: a record at fault is the first one, so what those before it tell is lawful, and so is what all
-- tell where they are at fault at the end.
abbrev pub AreRefusedFor : {Y V : Type 0} → Form Y V → List (List (List ℕ)) → Cause Y → Type 0
AreRefusedFor form all OutOfMemory = Unit {0}
AreRefusedFor form all NoHeader = (records : List (List (List ℕ))) → all ≢ form.header ∷ records
AreRefusedFor form all (AtRecord number at_fault) =
    HasAfterHeader form.header all (λ records. IsFirstFault (AreReadAs form.read form.lawful) records number at_fault)
AreRefusedFor {Y} form all (AtEnd at_fault) =
    HasAfterHeader form.header all
    (λ records. (parsed : List Y) × AreReadAs form.read form.lawful records parsed × at_fault parsed)

-- a text is refused for the cause of its records
abbrev pub IsRefusedFor : {Y V : Type 0} → Form Y V → List ℕ → Cause Y → Type 0
IsRefusedFor form bytes cause = AreRefusedFor form (records_of bytes) cause

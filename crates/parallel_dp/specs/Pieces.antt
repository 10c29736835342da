-- What is reached from entries by one serving each, and what lists of such entries are together.
use Rattle.std.specs.Prelude.{◌≡◌, ℕ, ◌*◌, ◌<◌, ◌⊎◌, List, [], length, take, drop, slice_index_or, All, Contains, Some}
use Rattle.schedule_meaning.specs.Instances.{Problem}
use Rattle.dp_certificate.specs.Certificates.{AreRising}
use Rattle.dp_certificate.specs.Prefixes.{Stage, key_of, stage_after, stage_of}
use Rattle.dp_certificate.specs.Proves.{HasEntry, key_of_entry, stage_of_entry}
use Rattle.dp_certificate.specs.declared.Entry.{Entry}

-- a fit serving from one of the entries leads to this stage
pub record IsReachedFrom (p : Problem) (entries : List Entry) (s : Stage) : Type 0 where
  pub from : Entry
  pub among : Contains entries from
  pub phase : ℕ
  pub leads : stage_after p (stage_of_entry p from) phase ≡ Some s

-- an entry with the key and the delay of a stage of which this holds
pub record IsOf (Holds : Stage → Type 0) (e : Entry) : Type 0 where
  pub stage : Stage
  pub holds : Holds stage
  pub key : key_of_entry e ≡ key_of stage
  pub delay : e.delay ≡ stage.delay

-- a rising list of the keys of these stages, each once, with the least delay
pub record AreLeastOf (Holds : Stage → Type 0) (entries : List Entry) : Type 0 where
  pub rising : AreRising entries
  pub each : All (IsOf Holds) entries
  pub all : (s : Stage) → Holds s → HasEntry entries (key_of s) s.delay

-- what is next after entries
abbrev pub IsNextOf : Problem → List Entry → List Entry → Type 0
IsNextOf p entries next = AreLeastOf (IsReachedFrom p entries) next

-- an entry of one of two lists
abbrev pub IsOfEither : List Entry → List Entry → Entry → Type 0
IsOfEither a b e = Contains a e ⊎ Contains b e

-- two lists as one: their keys, each once, with the least delay
pub record IsJoinOf (a b joined : List Entry) : Type 0 where
  pub rising : AreRising joined
  pub each : All (IsOfEither a b) joined
  pub all : (e : Entry) → IsOfEither a b e → HasEntry joined (key_of_entry e) e.delay

-- a fit prefix of this many servings leads here
pub record IsLed (p : Problem) (served : ℕ) (s : Stage) : Type 0 where
  pub prefix : List ℕ
  pub long : length prefix ≡ served
  pub leads : stage_of p prefix ≡ Some s

-- a layer: the keys that fit prefixes of this many servings reach, with the least delay
abbrev pub IsLayer : Problem → ℕ → List Entry → Type 0
IsLayer p served entries = AreLeastOf (IsLed p served) entries

-- several lists as one: their keys, each once, with the least delay
pub record IsJoinOfAll (lists : List (List Entry)) (joined : List Entry) : Type 0 where
  pub rising : AreRising joined
  pub each : All (λ e. (list : List Entry) × Contains lists list × Contains list e) joined
  pub all : (list : List Entry) (e : Entry) → Contains lists list → Contains list e
      → HasEntry joined (key_of_entry e) e.delay

-- the piece of a layer from this multiple of the width on
abbrev pub piece_of : List Entry → ℕ → ℕ → List Entry
piece_of layer width k = take width (drop (k * width) layer)

-- lists of what is next after each piece
pub record AreNextOfPieces (p : Problem) (layer : List Entry) (width : ℕ) (lists : List (List Entry)) : Type 0 where
  pub enough : length layer < length lists * width
  pub each : (k : ℕ) → k < length lists → IsNextOf p (piece_of layer width k) (slice_index_or lists k [])

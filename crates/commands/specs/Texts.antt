-- The texts of a command: what each is to be, what it says, and what is wrong with it.
use Rattle.std.specs.Prelude.{◌≡◌, ℕ, ◌<◌, ◌≤◌, List, ◌⊎◌, codes, length, Option, Some, IsSome, option_and_then}
use Rattle.outside_world.specs.Shelf.{Files, file_of}
use Rattle.commands.specs.Kinds.{Kind}
use Rattle.commands.specs.Limits.{most_bytes}
use Rattle.commands.specs.declared.refusals.TextPlace.{TextPlace}
use Rattle.commands.specs.declared.refusals.TextPlace.TheVariants.{First, Second, Third}

-- a text is read as this: it is within the limit, and is the text of it
abbrev pub Reads : (kind : Kind) → List ℕ → kind.Said → Type 0
Reads kind text said = (length text ≤ most_bytes) × kind.is_text text said

-- a text is read as this, and as nothing else
pub record IsReadAs (kind : Kind) (text : List ℕ) (said : kind.Said) : Type 0 where
  pub reads : Reads kind text said
  pub only : (other : kind.Said) → Reads kind text other → said ≡ other

-- a text within the limit has this fault, its first, with this code
pub record HasFault (kind : Kind) (text code : List ℕ) : Type 0 where
  pub short : length text ≤ most_bytes
  pub fault : kind.Fault
  pub is : kind.is_fault text fault
  pub code_is : code ≡ kind.code fault

-- why a text is refused, by its code: it is longer than the limit; or it is within the limit, and has a fault
abbrev pub HasCode : Kind → List ℕ → List ℕ → Type 0
HasCode kind text code = ((code ≡ codes "long") × (most_bytes < length text)) ⊎ HasFault kind text code

-- the text of a file, where the shelf tells its files
abbrev pub text_of : Files → List ℕ → Option (List ℕ)
text_of files name = option_and_then (λ known. file_of known name) files

-- a file's text is read as this, and as nothing else
pub record IsIn (files : Files) (name : List ℕ) (kind : Kind) (said : kind.Said) : Type 0 where
  pub text : List ℕ
  pub told : IsSome files → text_of files name ≡ Some text
  pub reads : Reads kind text said
  pub only : (other : kind.Said) → Reads kind text other → said ≡ other

-- a file's text is read as nothing of its kind, and this is the code of what is wrong with it
pub record IsBad (files : Files) (code : List ℕ) (kind : Kind) (name : List ℕ) : Type 0 where
  pub text : List ℕ
  pub told : IsSome files → text_of files name ≡ Some text
  pub unread : (said : kind.Said) → ¬ Reads kind text said
  pub fault : HasCode kind text code

-- The texts of a command, in the order of its words: none any more, or one in the file with this name, and those after
-- it, which may depend on what it says.
pub data Texts : Type 1 where
  NoMore : Texts
  Next : (kind : Kind) → (name : List ℕ) → (kind.Said → Texts) → Texts

-- one text of a kind
abbrev pub one_text : Kind → List ℕ → Texts
one_text kind name = Next kind name (λ said. NoMore)

-- what such texts say, one after another
abbrev pub AllSaid : Texts → Type 0
AllSaid NoMore = Unit {0}
AllSaid (Next kind name rest) = (said : kind.Said) × AllSaid (rest said)

-- the texts are read as this
abbrev pub AreIn : Files → (texts : Texts) → AllSaid texts → Type 0
AreIn files NoMore said = Unit {0}
AreIn files (Next kind name rest) said = IsIn files name kind said.0 × AreIn files (rest said.0) said.1

-- this is so of the text at this place, and all texts before it are read
abbrev pub At : (Kind → List ℕ → Type 0) → Files → Texts → TextPlace → Type 0
At here files NoMore place = ⊥
At here files (Next kind name rest) First = here kind name
At here files (Next kind name rest) Second =
    (said : kind.Said) × IsIn files name kind said × At here files (rest said) First
At here files (Next kind name rest) Third =
    (said : kind.Said) × IsIn files name kind said × At here files (rest said) Second

-- the shelf tells a text for each file, and these are read as this
abbrev pub Tells : Files → (texts : Texts) → AllSaid texts → Type 0
Tells files NoMore said = Unit {0}
Tells files (Next kind name rest) said =
    ((text : List ℕ) × (text_of files name ≡ Some text) × Reads kind text said.0) × Tells files (rest said.0) said.1

-- the shelf tells the texts up to this place: the one there is read as nothing of its kind, and all before it are read
abbrev pub TellsBad : Files → Texts → TextPlace → Type 0
TellsBad files NoMore place = ⊥
TellsBad files (Next kind name rest) First =
    (text : List ℕ) × (text_of files name ≡ Some text) × ((said : kind.Said) → ¬ Reads kind text said)
TellsBad files (Next kind name rest) Second =
    (text : List ℕ) × (text_of files name ≡ Some text)
    × ((said : kind.Said) × Reads kind text said × TellsBad files (rest said) First)
TellsBad files (Next kind name rest) Third =
    (text : List ℕ) × (text_of files name ≡ Some text)
    × ((said : kind.Said) × Reads kind text said × TellsBad files (rest said) Second)

-- What is so of the texts of a command.
use Rattle.std.proofs.Common.{◌≡◌, ℕ, List, [], ◌∷◌, ◌++◌, length, Option, Some, None, IsSome, refl, sym, ap, subst, ◌∙◌, length-append, arith}
use Rattle.outside_world.specs.Shelf.{Files, GainsLast}
use Rattle.commands.specs.declared.refusals.TextPlace.{TextPlace}
use Rattle.commands.specs.declared.refusals.TextPlace.TheVariants.{First, Second, Third}
use Rattle.commands.specs.Kinds.{Kind}
use Rattle.commands.specs.Texts.{AllSaid, AreIn, At, IsBad, IsIn, Next, NoMore, Reads, Tells, TellsBad, Texts, text_of}

same_text : (o : Option (List ℕ)) (a b : List ℕ) → o ≡ Some a → o ≡ Some b → a ≡ b
same_text o a b p q = cc

-- a shelf that tells a text tells its files
some_files : (files : Files) (name text : List ℕ) → text_of files name ≡ Some text → IsSome files
some_files None name text e = absurd (cc)
some_files (Some known) name text e = refl

-- a text that is told and read is read as what was read of it
read_once : (files : Files) (name : List ℕ) (kind : Kind) (said other : kind.Said) (text : List ℕ) → IsIn files name kind said → text_of files name ≡ Some text → Reads kind text other → said ≡ other
read_once files name kind said other text is told reads =
    is.only other (subst (λ (t : List ℕ). Reads kind t other) (same_text (text_of files name) text is.text told (is.told (some_files files name text told))) reads)

-- a text that is read is not bad
not_bad : (files : Files) (name : List ℕ) (kind : Kind) (said : kind.Said) (text : List ℕ) (why : List ℕ) → text_of files name ≡ Some text → Reads kind text said → IsBad files why kind name → ⊥
not_bad files name kind said text why is reads bad =
    bad.unread said (subst (λ (t : List ℕ). Reads kind t said) (same_text (text_of files name) text bad.text is (bad.told (some_files files name text is))) reads)

-- of texts that are told and read none is bad
pub none_bad : (files : Files) (texts : Texts) (said : AllSaid texts) (place : TextPlace) (why : List ℕ) → Tells files texts said → At (IsBad files why) files texts place → ⊥
none_bad files NoMore said place why tells at = at
none_bad files (Next kind name rest) said First why tells at = not_bad files name kind said.0 tells.0.0 why tells.0.1 tells.0.2 at
none_bad files (Next kind name rest) said Second why tells at =
    let same = read_once files name kind at.0 said.0 tells.0.0 at.1 tells.0.1 tells.0.2 in
    none_bad files (rest said.0) said.1 First why tells.1 (subst (λ (s : kind.Said). At (IsBad files why) files (rest s) First) same at.2)
none_bad files (Next kind name rest) said Third why tells at =
    let same = read_once files name kind at.0 said.0 tells.0.0 at.1 tells.0.1 tells.0.2 in
    none_bad files (rest said.0) said.1 Second why tells.1 (subst (λ (s : kind.Said). At (IsBad files why) files (rest s) Second) same at.2)

-- what is so of what was read is so of what is told
pub as_told : (files : Files) (texts : Texts) (said other : AllSaid texts) → AreIn files texts said → Tells files texts other → (holds : AllSaid texts → Type 0) → holds said → holds other
as_told files NoMore said other are tells holds h = h
as_told files (Next kind name rest) said other are tells holds h =
    let same = read_once files name kind said.0 other.0 tells.0.0 are.0 tells.0.1 tells.0.2 in
    let both : (first : kind.Said) → AllSaid (rest first) → AllSaid (Next kind name rest) = λ first later. (first, later) in
    let behind : (later : AllSaid (rest other.0)) → AreIn files (rest other.0) later → holds (both other.0 later) → holds other
    = λ later are_later h. as_told files (rest other.0) later other.1 are_later tells.1 (λ l. holds (both other.0 l)) h in
    subst (λ (first : kind.Said). (later : AllSaid (rest first)) → AreIn files (rest first) later → holds (both first later) → holds other) (sym same) behind said.1 are.1 h

-- of texts that are read none is told to be bad
pub none_told_bad : (files : Files) (texts : Texts) (said : AllSaid texts) (place : TextPlace) → AreIn files texts said → TellsBad files texts place → ⊥
none_told_bad files NoMore said place are bad = bad
none_told_bad files (Next kind name rest) said First are bad =
    bad.2 said.0 (subst (λ (t : List ℕ). Reads kind t said.0) (same_text (text_of files name) are.0.text bad.0 (are.0.told (some_files files name bad.0 bad.1)) bad.1) are.0.reads)
none_told_bad files (Next kind name rest) said Second are bad =
    let same = read_once files name kind said.0 bad.2.0 bad.0 are.0 bad.1 bad.2.1 in
    none_told_bad files (rest said.0) said.1 First are.1 (subst (λ (s : kind.Said). TellsBad files (rest s) First) (sym same) bad.2.2)
none_told_bad files (Next kind name rest) said Third are bad =
    let same = read_once files name kind said.0 bad.2.0 bad.0 are.0 bad.1 bad.2.1 in
    none_told_bad files (rest said.0) said.1 Second are.1 (subst (λ (s : kind.Said). TellsBad files (rest s) Second) (sym same) bad.2.2)

-- a list that has gained a name is not the same
no_gain : (old new : List (List ℕ)) (name : List ℕ) → GainsLast old new name → new ≡ old → ⊥
no_gain old new name (more, e) same =
    omega (arith, ap length (sym same ∙ e), length-append (old ++ more) (name ∷ []), length-append old more)

-- where no name was gained, no text was unread
pub none_gains : (old new : List (List ℕ)) (files : Files) (texts : Texts) (place : TextPlace) → At (λ kind name. GainsLast old new name) files texts place → new ≡ old → ⊥
none_gains old new files NoMore place at same = at
none_gains old new files (Next kind name rest) First at same = no_gain old new name at same
none_gains old new files (Next kind name rest) Second at same = none_gains old new files (rest at.0) First at.2 same
none_gains old new files (Next kind name rest) Third at same = none_gains old new files (rest at.0) Second at.2 same

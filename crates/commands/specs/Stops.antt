-- Why a text of a command could not be had. No public clause of a command names anything here.
use Rattle.std.specs.Prelude.{◌≡◌, ℕ, List, codes}
use Rattle.outside_world.specs.Shelf.{GainsLast, ShelfState}
use Rattle.commands.specs.Kinds.{Kind}
use Rattle.commands.specs.Texts.{At, IsBad, Texts}
use Rattle.commands.specs.declared.refusals.TextPlace.{TextPlace}
use Rattle.commands.specs.declared.refusals.Refusal.{Refusal}
use Rattle.commands.specs.declared.refusals.Refusal.TheVariants as refusal

-- why the text at this place, of this kind and in this file, could not be had
abbrev pub StopsAt : Refusal → TextPlace → Kind → List ℕ → ShelfState → ShelfState → Type 0
StopsAt (refusal.Bad text code) place kind name old new =
    (text ≡ place) × (new ≡ old) × IsBad old.files code.items kind name
StopsAt (refusal.Unread text) place kind name old new =
    (text ≡ place) × (new.files ≡ old.files) × GainsLast old.failed new.failed name
StopsAt refusal.NoMemory place kind name old new = new ≡ old
StopsAt _ place kind name old new = ⊥

-- why not all of these texts could be had
abbrev pub StopsIn : Texts → ShelfState → ShelfState → Refusal → Type 0
StopsIn texts old new (refusal.Bad text code) = (new ≡ old) × At (IsBad old.files code.items) old.files texts text
StopsIn texts old new (refusal.Unread text) =
    (new.files ≡ old.files) × At (λ kind name. GainsLast old.failed new.failed name) old.files texts text
StopsIn texts old new refusal.NoMemory = new ≡ old
StopsIn texts old new _ = ⊥

-- the text at this place is longer than the limit; or memory ran out
abbrev pub IsLong : TextPlace → Refusal → Type 0
IsLong place (refusal.Bad text code) = (text ≡ place) × (code.items ≡ codes "long")
IsLong place refusal.NoMemory = Unit {0}
IsLong place _ = ⊥

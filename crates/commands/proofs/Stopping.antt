-- Why a text could not be had is why the texts of a command could not.
use Rattle.std.proofs.Common.{◌≡◌, ℕ, List, Result, Ok, Err, IfErr, sym, subst}
use Rattle.std.specs.Result.{IsErrAnd}
use Rattle.outside_world.specs.Shelf.{Files, GainsLast, ShelfState}
use Rattle.commands.specs.Kinds.{Kind}
use Rattle.commands.specs.Stops.{StopsAt, StopsIn}
use Rattle.commands.specs.Texts.{At, IsBad, Texts}
use Rattle.commands.specs.declared.refusals.TextPlace.{TextPlace}
use Rattle.commands.specs.declared.refusals.Refusal.{Refusal}
use Rattle.commands.specs.declared.refusals.Refusal.TheVariants as refusal

-- a text of these, all texts before which are read
pub stops : (texts : Texts) (place : TextPlace) (kind : Kind) (name : List ℕ) (old new : ShelfState) (why : Refusal)
    → ((here : Kind → List ℕ → Type 0) → here kind name → At here old.files texts place) → StopsAt why place kind name old new → StopsIn texts old new why
stops texts place kind name old new (refusal.Bad at code) behind stop =
    (stop.1, subst (λ (p : TextPlace). At (IsBad old.files code.items) old.files texts p) (sym stop.0) (behind (IsBad old.files code.items) stop.2))
stops texts place kind name old new (refusal.Unread at) behind stop =
    let lost : Kind → List ℕ → Type 0 = λ kind name. GainsLast old.failed new.failed name in
    (stop.1, subst (λ (p : TextPlace). At lost old.files texts p) (sym stop.0) (behind lost stop.2))
stops texts place kind name old new refusal.NoMemory behind stop = stop
stops texts place kind name old new refusal.Usage behind stop = stop
stops texts place kind name old new (refusal.Missing what) behind stop = stop
stops texts place kind name old new refusal.Unwritten behind stop = stop

-- why texts could not be had is the error that is answered
pub stopped : {X : Type 0} (texts : Texts) (old new : ShelfState) (result : Result X Refusal) (why : Refusal) → StopsIn texts old new why → IsErrAnd result (λ e. e ≡ why) → IfErr result (StopsIn texts old new)
stopped texts old new (Ok x) why stop same = tt
stopped texts old new (Err e) why stop same = subst (StopsIn texts old new) (sym same) stop

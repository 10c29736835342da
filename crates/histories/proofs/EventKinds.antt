-- Whether an event publishes.
use Rattle.std.proofs.Common.{◌≡◌, ℕ, cond, Bool, true, false, List, refl}
use Rattle.board_model.specs.declared.boards.BoardKind.{BoardKind}
use Rattle.board_model.specs.declared.boards.BoardKind.TheVariants.{Read, Publish}
use Rattle.board_model.specs.declared.forecasts.Row.{Row}

abbrev pub is_publish : BoardKind → Bool
is_publish (Read version) = false
is_publish (Publish forecast) = true

pub is-publish : (b : Bool) (v : ℕ) (f : List Row) → is_publish (cond b (Publish f) (Read v)) ≡ b
is-publish true v f = refl
is-publish false v f = refl

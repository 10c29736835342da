-- What the event at a place of a log tells.
use Rattle.std.proofs.Common.{◌≡◌, ℕ, zero, suc, ◌+◌, ◌<◌, ◌≤◌, List, [], ◌∷◌, ◌++◌, take, drop, sym, ap, subst, ◌∙◌, inl, arith, le_refl}
use Rattle.std.specs.Prelude.{Some, All, slice_get, unwrap_or}
use Rattle.std.specs.List.{AllPairs}
use Rattle.std.proofs.lemmas.List.{take-append-drop}
use Rattle.std.proofs.lemmas.List.Elements.{All-tail}
use Rattle.std.proofs.lemmas.Option.{none-some}
use Rattle.board_model.specs.declared.forecasts.Row.{Row}
use Rattle.board_model.specs.declared.boards.BoardEvent.{BoardEvent}
use Rattle.board_model.specs.declared.boards.BoardKind.{BoardKind}
use Rattle.board_model.specs.declared.boards.BoardKind.TheVariants.{Read, Publish}
use Rattle.board_model.specs.Boards.{IsLegal, IsReadOf, version_of, forecast_of, newest, version_at, Tells}
use Rattle.board_model.specs.Calls.{IsBefore}
use Rattle.board_model.proofs.ForCallers.{forecast_of-kept, version_of-read}
use Rattle.board_model.proofs.LastOf.{rising-apart}
use Rattle.board_model.proofs.LogLaws.{newest-publish}

take-suc : (events : List BoardEvent) (place : ℕ) (event : BoardEvent) → slice_get events place ≡ Some event → take (suc place) events ≡ take place events ++ event ∷ []
take-suc [] place event there = absurd (none-some event there)
take-suc (e ∷ es) zero event there = ap (λ o. unwrap_or o e ∷ []) there
take-suc (e ∷ es) (suc place) event there = ap (λ l. e ∷ l) (take-suc es place event there)

-- the events up to a place are those before it, and the one there
pub take-next : (events : List BoardEvent) (place : ℕ) (event : BoardEvent) → slice_get events place ≡ Some event → take (place + 1) events ≡ take place events ++ event ∷ []
take-next events place event there = let next : place + 1 ≡ suc place = omega arith in rw next (take-suc events place event there)

module _ (events : List BoardEvent) (place : ℕ) (event : BoardEvent) (there : slice_get events place ≡ Some event) where
  next : version_at events place ≡ version_of (take place events ++ event ∷ [])
  next = ap version_of (take-next events place event there)

  -- a Read leaves the version that stood before it
  read-tells : (version : ℕ) → event.kind ≡ Read version → version ≡ version_of (take place events) → version ≡ version_at events place
  read-tells version is before =
      before ∙ sym (next ∙ ap (λ k. version_of (take place events ++ record { stamp = event.stamp; node = event.node; kind = k } ∷ [])) (is ∙ ap Read before) ∙ version_of-read (take place events) event.stamp event.node)

  -- the forecast of a Publish is that of the version that it makes
  publish-tells : (forecast : List Row) → event.kind ≡ Publish forecast → forecast ≡ forecast_of events (version_at events place)
  publish-tells forecast is =
      let before : List BoardEvent = take place events in
      let made : newest (before ++ event ∷ []) ≡ forecast = ap (λ k. newest (before ++ record { stamp = event.stamp; node = event.node; kind = k } ∷ [])) is ∙ newest-publish before event.stamp event.node forecast in
      let kept : forecast_of (take (place + 1) events ++ drop (place + 1) events) (version_at events place) ≡ newest (take (place + 1) events) = forecast_of-kept (take (place + 1) events) (drop (place + 1) events) (version_at events place) (le_refl (version_at events place)) in
      sym (ap (λ l. forecast_of l (version_at events place)) (sym (take-append-drop (place + 1) events)) ∙ kept ∙ ap newest (take-next events place event there) ∙ made)

  tells : (kind : BoardKind) → event.kind ≡ kind → IsReadOf (version_of (take place events)) kind → Tells events place kind
  tells (Read version) is read = read-tells version is read
  tells (Publish forecast) is read = publish-tells forecast is

-- what holds of all holds of the one at a place
all-at : (P : BoardEvent → Type 0) (events : List BoardEvent) (place : ℕ) (event : BoardEvent) → All P events → slice_get events place ≡ Some event → P event
all-at P [] place event all there = absurd (none-some event there)
all-at P (e ∷ es) zero event all there = subst P (ap (λ o. unwrap_or o e) there) (all 0 e (omega arith))
all-at P (e ∷ es) (suc place) event all there = all-at P es place event (All-tail P e es all) there

-- the events of a legal log stand in order of (stamp, node)
pub legal-ordered : (log : List BoardEvent) → IsLegal log → AllPairs IsBefore log
legal-ordered log legal i j d before inside = inl (rising-apart (λ (e : BoardEvent). e.stamp) log legal.rising i j d before inside)

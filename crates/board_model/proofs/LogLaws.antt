-- A log with one event more.
use Rattle.std.proofs.Common.{◌≡◌, ℕ, zero, suc, ◌+◌, ◌<◌, ◌≤◌, List, [], ◌∷◌, ◌++◌, length, take, refl, sym, ◌∙◌, ap, inl, inr, arith}
use Rattle.std.specs.Prelude.{Some, IfSome, slice_get, slice_index_or}
use Rattle.std.proofs.lemmas.Bool.{cases_lt}
use Rattle.std.proofs.lemmas.List.{append-nil, length_push, map-append, take-append-le, take_at}
use Rattle.std.proofs.lemmas.List.Concat.{flat_map-append}
use Rattle.std.proofs.lemmas.Option.{slice_get_past}
use Rattle.board_model.specs.declared.forecasts.Row.{Row}
use Rattle.board_model.specs.declared.boards.BoardEvent.{BoardEvent}
use Rattle.board_model.specs.declared.boards.BoardKind.TheVariants.{Read}
use Rattle.board_model.specs.Forecasts.{IsAboveLast}
use Rattle.board_model.specs.Boards.{IsLegal, IsReadOf, most_versions, stamps, published, version_of, newest, after_publish}
use Rattle.board_model.specs.Stored.{IsStored, published_at}
use Rattle.board_model.proofs.LastOf.{rising-more}

-- what stands before the end stays
get-front : (events : List BoardEvent) (event : BoardEvent) (k : ℕ) → k < length events → slice_get (events ++ event ∷ []) k ≡ slice_get events k
get-front [] event k inside = absurd (omega arith)
get-front (e ∷ es) event zero inside = refl
get-front (e ∷ es) event (suc k) inside = get-front es event k (omega arith)

-- what was added stands at the end
get-end : (events : List BoardEvent) (event : BoardEvent) → slice_get (events ++ event ∷ []) (length events) ≡ Some event
get-end [] event = refl
get-end (e ∷ es) event = get-end es event

-- each Read of the longer log carries the number of Publishes before it
reads-more : (events : List BoardEvent) (event : BoardEvent) → IsLegal events → IsReadOf (version_of events) event.kind → (k : ℕ) → IfSome (slice_get (events ++ event ∷ []) k) (λ e. IsReadOf (version_of (take k (events ++ event ∷ []))) e.kind)
reads-more events event legal read k =
    elim (cases_lt k (length events)) [
      | inl inside ↦
          let within : k ≤ length events = omega arith in
          rw (get-front events event k inside, take-append-le k events (event ∷ []) within) (legal.reads k)
      | inr end ↦ elim (cases_lt (length events) k) [
        | inl past ↦ rw (slice_get_past (events ++ event ∷ []) k (omega (arith, length_push events event))) tt
        | inr here ↦
            let place : k ≡ length events = omega arith in
            rw (place, get-end events event, take_at events (event ∷ []) (length events) refl) read
      ]
    ]

-- a legal log with one more event that may follow is legal
pub IsLegal-more : (events : List BoardEvent) (event : BoardEvent) → IsLegal events → IsAboveLast (stamps events) event.stamp → IsReadOf (version_of events) event.kind → IsLegal (events ++ event ∷ [])
IsLegal-more events event legal above read = record {
  rising = rw map-append (rising-more (stamps events) event.stamp legal.rising above);
  reads = reads-more events event legal read;
}

-- a Read publishes nothing
pub published-read : (events : List BoardEvent) (stamp node version : ℕ) → published (events ++ record { stamp = stamp; node = node; kind = Read version } ∷ []) ≡ published events
published-read events stamp node version = flat_map-append _ events _ ∙ append-nil (published events)

-- a Publish publishes its forecast, after all others
pub published-publish : (events : List BoardEvent) (stamp node : ℕ) (forecast : List Row) → published (after_publish events stamp node forecast) ≡ published events ++ forecast ∷ []
published-publish events stamp node forecast = flat_map-append _ events _

-- a Read after the log leaves what is published at a place
published_at-read : (events : List BoardEvent) (stamp node version place : ℕ) → published_at (events ++ record { stamp = stamp; node = node; kind = Read version } ∷ []) place ≡ published_at events place
published_at-read [] stamp node version zero = refl
published_at-read [] stamp node version (suc place) = refl
published_at-read (e ∷ es) stamp node version zero = refl
published_at-read (e ∷ es) stamp node version (suc place) = published_at-read es stamp node version place

-- a Publish after the log is found at its end
published_at-publish : (events : List BoardEvent) (stamp node : ℕ) (forecast : List Row) → published_at (after_publish events stamp node forecast) (length events) ≡ forecast
published_at-publish [] stamp node forecast = refl
published_at-publish (e ∷ es) stamp node forecast = published_at-publish es stamp node forecast

-- after all others stands the newest
newest-more : (oldest : List Row) (all : List (List Row)) (forecast : List Row) → slice_index_or (oldest ∷ (all ++ forecast ∷ [])) (length (all ++ forecast ∷ [])) [] ≡ forecast
newest-more oldest [] forecast = refl
newest-more oldest (f ∷ fs) forecast = newest-more f fs forecast

-- logs that publish the same have the same newest forecast
pub newest-same : (events others : List BoardEvent) → published events ≡ published others → newest events ≡ newest others
newest-same events others same = ap (λ (all : List (List Row)). slice_index_or ([] ∷ all) (length all) []) same

-- after a Publish its forecast is the newest
pub newest-publish : (events : List BoardEvent) (stamp node : ℕ) (forecast : List Row) → newest (after_publish events stamp node forecast) ≡ forecast
newest-publish events stamp node forecast =
    ap (λ (all : List (List Row)). slice_index_or ([] ∷ all) (length all) []) (published-publish events stamp node forecast)
    ∙ newest-more [] (published events) forecast

-- a stored log stays one after a Read of the version that it keeps
pub IsStored-read : (events : List BoardEvent) (version place stamp node : ℕ) → IsStored events version place → IsAboveLast (stamps events) stamp → IsStored (events ++ record { stamp = stamp; node = node; kind = Read version } ∷ []) version place
IsStored-read events version place stamp node stored above =
    let longer : List BoardEvent = events ++ record { stamp = stamp; node = node; kind = Read version } ∷ [] in
    let same : published longer ≡ published events = published-read events stamp node version in
    record {
      legal = IsLegal-more events _ stored.legal above stored.counted;
      counted = stored.counted ∙ sym (ap length same);
      few = stored.few;
      found = published_at-read events stamp node version place ∙ stored.found ∙ sym (newest-same longer events same);
    }

-- a stored log stays one after a Publish
pub IsStored-publish : (events : List BoardEvent) (version place end stamp node : ℕ) (forecast : List Row) → IsStored events version place → version < most_versions → end ≡ length events → IsAboveLast (stamps events) stamp → IsStored (after_publish events stamp node forecast) (version + 1) end
IsStored-publish events version place end stamp node forecast stored few behind above = record {
  legal = IsLegal-more events _ stored.legal above tt;
  counted = ap (λ (n : ℕ). n + 1) stored.counted ∙ sym (ap length (published-publish events stamp node forecast) ∙ length_push (published events) forecast);
  few = omega arith;
  found = ap (published_at (after_publish events stamp node forecast)) behind ∙ published_at-publish events stamp node forecast ∙ sym (newest-publish events stamp node forecast);
}

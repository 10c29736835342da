-- Rising numbers: each pair of them, and one more after the last.
use Rattle.std.proofs.Common.{◌≡◌, ℕ, ◌+◌, ◌-◌, ◌<◌, List, [], ◌∷◌, ◌++◌, length, map, get_or, refl, sym, inl, inr, arith}
use Rattle.std.specs.Prelude.{Some, slice_get}
use Rattle.std.specs.List.{AllPairs}
use Rattle.std.specs.List.Sorted.{IsStrictlyIncreasing}
use Rattle.std.proofs.lemmas.Bool.{cases_lt}
use Rattle.std.proofs.lemmas.List.{get_or_append_left, get_or_push, get_or-map, length-map, length_push}
use Rattle.std.proofs.lemmas.List.Kept.{AllPairs-from_increasing}
use Rattle.std.proofs.lemmas.Option.{slice_get-get_or, slice_get_read}
use Rattle.board_model.specs.Forecasts.{IsAboveLast}

-- a number above the last is above the one at the last place
above-last : (xs : List ℕ) (x k : ℕ) → k + 1 ≡ length xs → IsAboveLast xs x → get_or xs k 0 < x
above-last xs x k last above =
    let place : length xs - 1 ≡ k = omega arith in
    let inside : k < length xs = omega arith in
    rw (place, slice_get-get_or xs k 0 inside) at above

-- rising numbers with one more above the last still rise
pub rising-more : (xs : List ℕ) (x : ℕ) → IsStrictlyIncreasing xs → IsAboveLast xs x → IsStrictlyIncreasing (xs ++ x ∷ [])
rising-more xs x rising above k inside =
    let long : length (xs ++ x ∷ []) ≡ length xs + 1 = length_push xs x in
    let here : k < length xs = omega arith in
    elim (cases_lt (k + 1) (length xs)) [
      | inl next ↦ rw (get_or_append_left xs (x ∷ []) 0 k here, get_or_append_left xs (x ∷ []) 0 (k + 1) next) (rising k next)
      | inr end ↦
          let last : k + 1 ≡ length xs = omega arith in
          rw (get_or_append_left xs (x ∷ []) 0 k here, get_or_push xs x 0 (k + 1) (sym last)) (above-last xs x k last above)
    ]

-- the last is the one that was added
last-more : (xs : List ℕ) (x : ℕ) → slice_get (xs ++ x ∷ []) (length (xs ++ x ∷ []) - 1) ≡ Some x
last-more xs x =
    let long : length (xs ++ x ∷ []) ≡ length xs + 1 = length_push xs x in
    let place : length (xs ++ x ∷ []) - 1 ≡ length xs = omega arith in
    slice_get_read (xs ++ x ∷ []) (length (xs ++ x ∷ [])) (length (xs ++ x ∷ []) - 1) x refl (omega arith) (sym (get_or_push xs x x (length (xs ++ x ∷ []) - 1) (sym place)))

-- what is above the one that was added is above the last
pub IsAboveLast-more : (xs : List ℕ) (x n : ℕ) → x < n → IsAboveLast (xs ++ x ∷ []) n
IsAboveLast-more xs x n below = rw (last-more xs x) below

-- where the numbers of a list rise, each is below all later ones
pub rising-apart : {X : Type 0} (n : X → ℕ) (xs : List X) → IsStrictlyIncreasing (map n xs) → AllPairs (λ early late. n early < n late) xs
rising-apart n xs rising i j d before inside =
    let long : length (map n xs) ≡ length xs = length-map xs n in
    rw (← get_or-map n xs i d 0 (omega arith), ← get_or-map n xs j d 0 inside) (AllPairs-from_increasing (map n xs) rising i j 0 before (omega arith))

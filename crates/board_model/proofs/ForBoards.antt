-- For shared boards: how long a log is, and how versions grow with it.
use Rattle.std.proofs.Common.{◌≡◌, ℕ, zero, suc, ◌+◌, ◌-◌, ◌<◌, ◌≤◌, List, [], ◌∷◌, ◌++◌, length, get_or, All, ap, ◌∙◌, inl, inr, arith, length-append}
use Rattle.std.specs.List.Sorted.{IsStrictlyIncreasing}
use Rattle.std.proofs.lemmas.Bool.{cases_lt}
use Rattle.std.proofs.lemmas.Option.{slice_get-get_or}
use Rattle.board_model.specs.declared.boards.BoardEvent.{BoardEvent}
use Rattle.board_model.specs.declared.boards.BoardKind.{BoardKind}
use Rattle.board_model.specs.declared.boards.BoardKind.TheVariants.{Read, Publish}
use Rattle.board_model.specs.Forecasts.{IsAboveLast}
use Rattle.board_model.specs.Boards.{published_by, published, version_of}

one-at-most : (kind : BoardKind) → length (published_by kind) ≤ 1
one-at-most (Read version) = omega arith
one-at-most (Publish forecast) = omega arith

-- there are no more versions than events
pub version_of-few : (events : List BoardEvent) → version_of events ≤ length events
version_of-few [] = omega arith
version_of-few (e ∷ es) = omega (arith, length-append (published_by e.kind) (published es), one-at-most e.kind, version_of-few es)

-- a number that is above all is above the last
pub above-all : (xs : List ℕ) (n : ℕ) → All (λ x. x < n) xs → IsAboveLast xs n
above-all [] n all = tt
above-all (x ∷ xs) n all =
    let inside : length (x ∷ xs) - 1 < length (x ∷ xs) = omega arith in
    rw (slice_get-get_or (x ∷ xs) (length (x ∷ xs) - 1) 0 inside) (all (length (x ∷ xs) - 1) 0 inside)

rising-from : (xs : List ℕ) (k : ℕ) → IsStrictlyIncreasing xs → k < length xs → k ≤ get_or xs k 0
rising-from xs zero rising h = omega arith
rising-from xs (suc k) rising h =
    let e : suc k ≡ k + 1 = omega arith in
    omega (arith, rising-from xs k rising (omega arith), rising k (omega arith), ap (λ i. get_or xs i 0) e)

-- rising numbers below n are at most n
pub rising-few : (xs : List ℕ) (n : ℕ) → IsStrictlyIncreasing xs → All (λ x. x < n) xs → length xs ≤ n
rising-few xs n rising all = elim (cases_lt 0 (length xs)) [
  | inl some ↦
      let inside : length xs - 1 < length xs = omega arith in
      omega (arith, rising-from xs (length xs - 1) rising inside, all (length xs - 1) 0 inside)
  | inr none ↦ omega arith
]

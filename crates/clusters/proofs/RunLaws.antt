-- The runs of a cut lie in the series, one after another, whatever they may span.
use Rattle.std.proofs.Common.{◌≡◌, ℕ, zero, suc, ◌+◌, ◌-◌, ◌<◌, ◌≤◌, nat_lt, List, [], ◌∷◌, ◌++◌, All, length, get_or, true, sym, ap, subst, ◌∙◌, inl, inr, arith, length-append}
use Rattle.std.specs.Prelude.{AllPairs}
use Rattle.std.specs.List.{concat, range_with_len}
use Rattle.std.specs.List.Sorted.{IsStrictlyIncreasing}
use Rattle.std.proofs.lemmas.Bool.{cases_lt, ltb-true}
use Rattle.std.proofs.lemmas.List.{get_or_append_left, get_or-append-add}
use Rattle.std.proofs.lemmas.List.Elements.{All-cons, All-filter, All-from_get_or, All-get_or, All-head, All-nil, All-tail, All-weaker, filter_passes}
use Rattle.std.proofs.lemmas.List.FromFn.{length-range_with_len, get_or-range_with_len}
use Rattle.std.proofs.lemmas.List.Kept.{AllPairs-from_increasing, IsStrictlyIncreasing-filter}
use Rattle.board_model.proofs.ForBoards.{rising-few}
use Rattle.clusters.specs.Cuts.{IsCutBy, IsRun, filled, filled_from, first_of, last_of, run_at}

abbrev pub Rise : List ℕ → Type 0
Rise xs = AllPairs (λ a b. a < b) xs

-- the filled seconds rise
filled-increasing : (series : List ℕ) → IsStrictlyIncreasing (filled series)
unfolding filled_from
filled-increasing series = IsStrictlyIncreasing-filter (λ x. nat_lt 0 (get_or series x 0)) (range_with_len 0 (length series)) (λ k inside.
    let long = length-range_with_len 0 (length series) in
    omega (arith, get_or-range_with_len 0 (length series) k 0 (omega arith), get_or-range_with_len 0 (length series) (k + 1) 0 (omega arith)))

pub filled-rise : (series : List ℕ) → Rise (filled series)
filled-rise series = AllPairs-from_increasing (filled series) (filled-increasing series)

pub rise-left : (xs ys : List ℕ) → Rise (xs ++ ys) → Rise xs
rise-left xs ys up i j d less inside = omega (arith, up i j d less (omega (arith, length-append xs ys)), get_or_append_left xs ys d i (omega arith), get_or_append_left xs ys d j inside)

pub rise-right : (xs ys : List ℕ) → Rise (xs ++ ys) → Rise ys
rise-right xs ys up i j d less inside = omega (arith, up (length xs + i) (length xs + j) d (omega arith) (omega (arith, length-append xs ys)), get_or-append-add xs ys i d, get_or-append-add xs ys j d)

-- none is above the last
pub rise-last : (xs : List ℕ) (i : ℕ) → Rise xs → i < length xs → get_or xs i 0 ≤ last_of xs
rise-last xs i up inside = elim (cases_lt i (length xs - 1)) [
  | inl less ↦ (let above = up i (length xs - 1) 0 less (omega arith) in omega arith)
  | inr more ↦ (let e : i ≡ length xs - 1 = omega arith in omega (arith, ap (λ k. get_or xs k 0) e))
]

rise-runs : (runs : List (List ℕ)) → Rise (concat runs) → All Rise runs
rise-runs [] up = All-nil Rise
rise-runs (run ∷ runs) up = All-cons Rise run runs (rise-left run (concat runs) up) (rise-runs runs (rise-right run (concat runs) up))

-- what holds of all seconds of the runs holds of the seconds of each
all-left : (P : ℕ → Type 0) (xs ys : List ℕ) → All P (xs ++ ys) → All P xs
all-left P xs ys h = All-from_get_or P xs 0 (λ i lt. subst P (get_or_append_left xs ys 0 i lt) (All-get_or P (xs ++ ys) i 0 (omega (arith, length-append xs ys)) h))

all-right : (P : ℕ → Type 0) (xs ys : List ℕ) → All P (xs ++ ys) → All P ys
all-right P xs ys h = All-from_get_or P ys 0 (λ i lt. subst P (get_or-append-add xs ys i 0) (All-get_or P (xs ++ ys) (length xs + i) 0 (omega (arith, length-append xs ys)) h))

all-runs : (P : ℕ → Type 0) (runs : List (List ℕ)) → All P (concat runs) → All (All P) runs
all-runs P [] h = All-nil (All P)
all-runs P (run ∷ runs) h = All-cons (All P) run runs (all-left P run (concat runs) h) (all-runs P runs (all-right P run (concat runs) h))

-- the filled seconds are within the series
range-within : (n : ℕ) → All (λ x. x < n) (range_with_len 0 n)
range-within n = All-from_get_or (λ x. x < n) (range_with_len 0 n) 0 (λ i lt.
    let below : i < n = omega (arith, length-range_with_len 0 n) in
    omega (arith, get_or-range_with_len 0 n i 0 below))

filled-within : (series : List ℕ) → All (λ x. x < length series) (filled series)
unfolding filled_from
filled-within series = All-filter (λ x. nat_lt 0 (get_or series x 0)) (λ x. x < length series) (range_with_len 0 (length series)) (range-within (length series))

filled-some : (series : List ℕ) → All (λ x. 1 ≤ get_or series x 0) (filled series)
unfolding filled_from
filled-some series = All-weaker (λ x. nat_lt 0 (get_or series x 0) ≡ true) (λ x. 1 ≤ get_or series x 0) (λ x e. let z = ltb-true 0 (get_or series x 0) e in omega arith) (filled series) (filter_passes (λ x. nat_lt 0 (get_or series x 0)) (range_with_len 0 (length series)))

filled-few : (series : List ℕ) → length (filled series) ≤ length series
filled-few series = rising-few (filled series) (length series) (filled-increasing series) (filled-within series)

-- a run has a second at least
abbrev HasSome : List ℕ → Type 0
HasSome run = 1 ≤ length run

-- there are no more runs than seconds in them
runs-few : (runs : List (List ℕ)) → All HasSome runs → length runs ≤ length (concat runs)
runs-few [] h = omega arith
runs-few (run ∷ runs) h =
    let some : 1 ≤ length run = All-head HasSome run runs h in
    omega (arith, some, length-append run (concat runs), runs-few runs (All-tail HasSome run runs h))

-- each run ends before the next begins
runs-order : (runs : List (List ℕ)) → Rise (concat runs) → All HasSome runs → (k : ℕ) → k + 1 < length runs → last_of (run_at runs k) < first_of (run_at runs (k + 1))
runs-order [] up h k inside = absurd (omega arith)
runs-order (run ∷ []) up h k inside = absurd (omega arith)
runs-order (run ∷ next ∷ runs) up h zero inside =
    let one : 1 ≤ length run = All-head HasSome run (next ∷ runs) h in
    let two : 1 ≤ length next = All-head HasSome next runs (All-tail HasSome run (next ∷ runs) h) in
    let whole = length-append run (next ++ concat runs) in
    let rest = length-append next (concat runs) in
    let order = up (length run - 1) (length run + 0) 0 (omega arith) (omega arith) in
    let last : get_or (run ++ (next ++ concat runs)) (length run - 1) 0 ≡ last_of run = get_or_append_left run (next ++ concat runs) 0 (length run - 1) (omega arith) in
    let first : get_or (run ++ (next ++ concat runs)) (length run + 0) 0 ≡ first_of next = get_or-append-add run (next ++ concat runs) 0 0 ∙ get_or_append_left next (concat runs) 0 0 (omega arith) in
    omega (arith, order, last, first)
runs-order (run ∷ next ∷ runs) up h (suc k) inside =
    let later = runs-order (next ∷ runs) (rise-right run (next ++ concat runs) up) (All-tail HasSome run (next ∷ runs) h) k (omega arith) in
    let e : suc k + 1 ≡ suc (k + 1) = omega arith in
    subst (λ j. last_of (run_at (next ∷ runs) k) < first_of (run_at (run ∷ next ∷ runs) j)) (sym e) later

-- a run that lies in a series, of which the first second is not empty
pub record LiesIn (series run : List ℕ) : Type 0 where
  pub filled : 1 ≤ get_or series (first_of run) 0
  pub order : first_of run ≤ last_of run
  pub before : last_of run < length series

lies-in : (series run : List ℕ) → HasSome run → Rise run → All (λ x. x < length series) run → All (λ x. 1 ≤ get_or series x 0) run → LiesIn series run
lies-in series run one up within some = record {
  filled = All-get_or (λ x. 1 ≤ get_or series x 0) run 0 0 (omega (arith, one)) some;
  order = rise-last run 0 up (omega (arith, one));
  before = All-get_or (λ x. x < length series) run (length run - 1) 0 (omega (arith, one)) within;
}

-- runs that lie in a series, one after another
pub record AreInOrder (series : List ℕ) (runs : List (List ℕ)) : Type 0 where
  pub each : All (LiesIn series) runs
  pub order : (k : ℕ) → k + 1 < length runs → last_of (run_at runs k) < first_of (run_at runs (k + 1))
  pub few : length runs ≤ length series

-- those of a cut do
pub cut-in-order : (gap rate : ℕ) (span : ℕ → ℕ) (series : List ℕ) (runs : List (List ℕ)) → IsCutBy gap rate span series runs → AreInOrder series runs
cut-in-order gap rate span series runs cut =
    let up : Rise (concat runs) = subst Rise (sym cut.all) (filled-rise series) in
    let rises : All Rise runs = rise-runs runs up in
    let within : All (All (λ x. x < length series)) runs = all-runs (λ x. x < length series) runs (subst (All (λ x. x < length series)) (sym cut.all) (filled-within series)) in
    let some : All (All (λ x. 1 ≤ get_or series x 0)) runs = all-runs (λ x. 1 ≤ get_or series x 0) runs (subst (All (λ x. 1 ≤ get_or series x 0)) (sym cut.all) (filled-some series)) in
    let have : All HasSome runs = All-weaker (λ run. IsRun gap rate (span (first_of run)) series run) HasSome (λ run r. r.some) runs cut.each in
    record {
      each = All-from_get_or (LiesIn series) runs [] (λ i lt. lies-in series (get_or runs i []) (All-get_or HasSome runs i [] lt have) (All-get_or Rise runs i [] lt rises) (All-get_or (All (λ x. x < length series)) runs i [] lt within) (All-get_or (All (λ x. 1 ≤ get_or series x 0)) runs i [] lt some));
      order = runs-order runs up have;
      few = omega (arith, runs-few runs have, ap length cut.all, filled-few series);
    }

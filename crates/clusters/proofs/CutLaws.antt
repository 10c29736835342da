-- Runs grow second by second, and a series is cut run by run.
use Rattle.std.proofs.Common.{◌≡◌, ℕ, zero, suc, ◌+◌, ◌-◌, ◌*◌, ◌<◌, ◌≤◌, Bool, nat_lt, List, [], ◌∷◌, ◌++◌, Option, Some, None, length, get_or, filter, max, refl, sym, ap, subst, ◌∙◌, inl, inr, arith}
use Rattle.std.specs.Prelude.{IfNone, IfSome, unwrap_or}
use Rattle.std.specs.List.{range_with_len}
use Rattle.std.proofs.lemmas.List.Elements.{filter-append}
use Rattle.std.proofs.lemmas.Bool.{cases_lt, cond_below, cond_above}
use Rattle.std.proofs.lemmas.List.{take-append-le, take_all}
use Rattle.std.proofs.lemmas.List.Recursion.{max_push}
use Rattle.clusters.specs.Cuts.{filled_from, filled, first_of, last_of, peak, IsRun}
use Rattle.clusters.specs.Steps.{IsEmpty, IsNext, IsRunUpTo}
use Rattle.clusters.proofs.ListLaws.{range-append, get_or-push-last, get_or-push-at, get_or-push-other, length-push}

abbrev is_filled : List ℕ → ℕ → Bool
is_filled series x = nat_lt 0 (get_or series x 0)

pub filled-append : (series : List ℕ) (a n m : ℕ) → filled_from series a (n + m) ≡ filled_from series a n ++ filled_from series (a + n) m
unfolding filled_from
filled-append series a n m =
    ap (filter (is_filled series)) (range-append a n m) ∙ filter-append (is_filled series) (range_with_len a n) (range_with_len (a + n) m)

pub filled-none : (series : List ℕ) (a n : ℕ) → ((k : ℕ) → a ≤ k → k < a + n → get_or series k 0 ≡ 0) → filled_from series a n ≡ []
unfolding filled_from
filled-none series a zero h = refl
filled-none series a (suc n) h =
    sym (cond_above 0 (get_or series a 0) (a ∷ filter (is_filled series) (range_with_len (a + 1) n)) (filter (is_filled series) (range_with_len (a + 1) n)) _ (let e : get_or series a 0 ≡ 0 = h a (omega arith) (omega arith) in omega (arith, e)) refl)
    ∙ filled-none series (a + 1) n (λ k lo hi. h k (omega arith) (omega arith))

pub filled-one : (series : List ℕ) (x : ℕ) → 1 ≤ get_or series x 0 → filled_from series x 1 ≡ x ∷ []
unfolding filled_from
filled-one series x h = sym (cond_below 0 (get_or series x 0) (x ∷ []) [] (omega arith))

-- the seconds from a to x, where those from e on are empty and x is not
pub filled-to : (series : List ℕ) (a e x : ℕ) → a ≤ e → e ≤ x → IsEmpty series e x → 1 ≤ get_or series x 0
    → filled_from series a (x + 1 - a) ≡ filled_from series a (e - a) ++ x ∷ []
filled-to series a e x le le2 empty filled =
    let total : x + 1 - a ≡ (e - a) + ((x - e) + 1) = omega arith in
    let start : a + (e - a) ≡ e = omega arith in
    let stop : e + (x - e) ≡ x = omega arith in
    let gap : filled_from series e (x - e) ≡ [] = filled-none series e (x - e) (λ k lo hi. empty k lo (omega arith)) in
    ap (filled_from series a) total
    ∙ filled-append series a (e - a) ((x - e) + 1)
    ∙ ap (λ s. filled_from series a (e - a) ++ filled_from series s ((x - e) + 1)) start
    ∙ ap (λ ys. filled_from series a (e - a) ++ ys)
    (filled-append series e (x - e) 1 ∙ ap (λ ys. ys ++ filled_from series (e + (x - e)) 1) gap ∙ ap (λ s. filled_from series s 1) stop ∙ filled-one series x filled)

-- the greatest amount of one second more
pub peak-grows : (series run : List ℕ) (x : ℕ) → peak series (run ++ x ∷ []) ≡ max (peak series run) (get_or series x 0)
unfolding peak
peak-grows series run x = max_push (peak series) (λ y. get_or series y 0) refl (λ y ys. refl) run x

-- a run grows by a second that can join it
pub run-single : (gap rate most : ℕ) (series : List ℕ) (x : ℕ) → 1 ≤ most → IsRun gap rate most series (x ∷ [])
run-single gap rate most series x h = record {
  some = omega arith;
  near = λ k lt. absurd (omega arith);
  span = omega arith;
  flows = λ k lt. absurd (omega arith);
}

pub run-grows : (gap rate most : ℕ) (series run : List ℕ) (x : ℕ) → IsRun gap rate most series run → x ≤ last_of run + gap + 1 → x + 1 ≤ first_of run + most
    → rate * peak series run ≤ 1000 * get_or series x 0 → IsRun gap rate most series (run ++ x ∷ [])
run-grows gap rate most series run x h near span flows = record {
  some = omega (arith, length-push run x);
  near = λ k lt. elim (cases_lt (k + 1) (length run)) [
    | inl below ↦ rw (get_or-push-other run x 0 (k + 1) below, get_or-push-other run x 0 k (omega arith)) (h.near k below)
    | inr past ↦
        let at : k + 1 ≡ length run = omega (arith, length-push run x, lt) in
        let e : k ≡ length run - 1 = omega arith in
        rw (get_or-push-at run x 0 (k + 1) at, get_or-push-other run x 0 k (omega arith), e) near
  ];
  span =
      let some = h.some in
      let end : length (run ++ x ∷ []) - 1 ≡ length run = omega (arith, length-push run x) in
      rw (end, get_or-push-last run x 0, get_or-push-other run x 0 0 (omega arith)) span;
  flows = λ k lt. elim (cases_lt (k + 1) (length run)) [
    | inl below ↦ rw (take-append-le (k + 1) run (x ∷ []) (omega arith), get_or-push-other run x 0 (k + 1) below) (h.flows k below)
    | inr past ↦
        let at : k + 1 ≡ length run = omega (arith, length-push run x, lt) in
        rw (at, take-append-le (length run) run (x ∷ []) (omega arith), take_all (length run) run (omega arith), get_or-push-last run x 0) flows
  ];
}

pub first-grows : (run : List ℕ) (x : ℕ) → 1 ≤ length run → first_of (run ++ x ∷ []) ≡ first_of run
first-grows run x h = get_or-push-other run x 0 0 (omega arith)

pub last-grows : (run : List ℕ) (x : ℕ) → last_of (run ++ x ∷ []) ≡ x
last-grows run x = get_or-push-at run x 0 (length (run ++ x ∷ []) - 1) (omega (arith, length-push run x))

-- A run that goes up to `end`, after which all is empty so far.
pub record IsGrowing (gap rate most : ℕ) (series : List ℕ) (first end greatest x : ℕ) : Type 0 where
  pub run : IsRunUpTo gap rate most series first end
  pub peak_is : greatest ≡ peak series (filled_from series first (end - first))
  pub passed : end ≤ x
  pub empty : IsEmpty series end x

pub growing-none : (gap rate most : ℕ) (series : List ℕ) (first : ℕ) → first < length series → 1 ≤ get_or series first 0 → 1 ≤ most
    → IsGrowing gap rate most series first (first + 1) (get_or series first 0) (first + 1)
unfolding peak
growing-none gap rate most series first lt filled some =
    let one : first + 1 - first ≡ 1 = omega arith in
    let run : filled_from series first (first + 1 - first) ≡ first ∷ [] = ap (filled_from series first) one ∙ filled-one series first filled in
    record {
      run = record {
        some = omega arith;
        there = omega arith;
        run = rw run (run-single gap rate most series first some);
        begins = rw run refl;
        ends = rw run refl;
      };
      peak_is = rw run (omega arith);
      passed = omega arith;
      empty = λ k lo hi. absurd (omega arith);
    }

pub growing-skip : (gap rate most : ℕ) (series : List ℕ) (first end greatest x : ℕ) → IsGrowing gap rate most series first end greatest x → get_or series x 0 ≡ 0
    → IsGrowing gap rate most series first end greatest (x + 1)
growing-skip gap rate most series first end greatest x h none = record {
  run = h.run;
  peak_is = h.peak_is;
  passed = omega (arith, h.passed);
  empty = λ k lo hi. elim (cases_lt k x) [
    | inl below ↦ h.empty k lo below
    | inr past ↦ let e : k ≡ x = omega arith in rw e none
  ];
}

pub growing-take : (gap rate most : ℕ) (series : List ℕ) (first end greatest x grown : ℕ) → IsGrowing gap rate most series first end greatest x → x < length series
    → 1 ≤ get_or series x 0 → x ≤ end + gap → x < first + most → rate * greatest ≤ 1000 * get_or series x 0 → grown ≡ max greatest (get_or series x 0)
    → IsGrowing gap rate most series first (x + 1) grown (x + 1)
growing-take gap rate most series first end greatest x grown h lt filled near within flows is =
    let r = h.run in
    let some : first < end = r.some in
    let passed : end ≤ x = h.passed in
    let e : filled_from series first (x + 1 - first) ≡ filled_from series first (end - first) ++ x ∷ [] = filled-to series first end x (omega arith) passed h.empty filled in
    record {
      run = record {
        some = omega arith;
        there = omega arith;
        run = rw e (run-grows gap rate most series (filled_from series first (end - first)) x r.run (omega (arith, r.ends)) (omega (arith, r.begins)) (subst (λ n. rate * n ≤ 1000 * get_or series x 0) h.peak_is flows));
        begins = rw e (first-grows (filled_from series first (end - first)) x r.run.some ∙ r.begins);
        ends = rw e (ap (λ k. k + 1) (last-grows (filled_from series first (end - first)) x));
      };
      peak_is = rw e (is ∙ ap (λ n. max n (get_or series x 0)) h.peak_is ∙ sym (peak-grows series (filled_from series first (end - first)) x));
      passed = omega arith;
      empty = λ k lo hi. absurd (omega arith);
    }

-- the first filled second of a series is the first one that is found from 0 on
first-next : (series : List ℕ) (x : ℕ) → IsNext series 0 x → first_of (filled series) ≡ x
first-next series x next =
    let rest : ℕ = length series - (x + 1) in
    let there : x < length series = next.there in
    let total : length series ≡ x + (1 + (length series - (x + 1))) = omega arith in
    let from : 0 + x ≡ x = omega arith in
    ap first_of
    (ap (filled_from series 0) total
    ∙ filled-append series 0 x (1 + rest)
    ∙ ap (λ ys. ys ++ filled_from series (0 + x) (1 + rest)) (filled-none series 0 x (λ k lo hi. next.before k lo (omega arith)))
    ∙ ap (λ s. filled_from series s (1 + rest)) from
    ∙ filled-append series x 1 rest
    ∙ ap (λ ys. ys ++ filled_from series (x + 1) rest) (filled-one series x next.filled))

pub first-found : (series : List ℕ) (found : Option ℕ) → IfNone found (IsEmpty series 0 (length series)) → IfSome found (IsNext series 0) → unwrap_or found 0 ≡ first_of (filled series)
first-found series None none some = sym (ap first_of (filled-none series 0 (length series) (λ k lo hi. none k lo (omega arith))))
first-found series (Some x) none some = sym (first-next series x some)

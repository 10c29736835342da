-- Facts on lists that the laws of this crate share.
use Rattle.std.proofs.Common.{◌≡◌, ℕ, zero, suc, ◌+◌, ◌-◌, ◌<◌, ◌≤◌, Bool, false, List, [], ◌∷◌, ◌++◌, None, All, length, get_or, find, refl, ap, subst, inl, inr, arith, length-append}
use Rattle.std.specs.List.{range_with_len}
use Rattle.std.specs.List.Sorted.{IsStrictlyIncreasing}
use Rattle.std.proofs.lemmas.List.{get_or_append_left, get_or-append-add, get_or_past}
use Rattle.std.proofs.lemmas.List.Elements.{All-get_or, All-head, All-tail}
use Rattle.std.proofs.lemmas.Bool.{cases_lt}

pub range-append : (a n m : ℕ) → range_with_len a (n + m) ≡ range_with_len a n ++ range_with_len (a + n) m
range-append a zero m =
    let e : zero + m ≡ m = omega arith in
    let f : a + zero ≡ a = omega arith in
    rw (e, f) refl
range-append a (suc n) m =
    let e : suc n + m ≡ suc (n + m) = omega arith in
    let f : a + suc n ≡ a + 1 + n = omega arith in
    rw (e, f) (ap (λ xs. a ∷ xs) (range-append (a + 1) n m))

-- the element after a list, and those in it
pub get_or-push-last : {X : Type 0} (xs : List X) (x d : X) → get_or (xs ++ x ∷ []) (length xs) d ≡ x
get_or-push-last xs x d =
    let e : length xs + 0 ≡ length xs = omega arith in
    let h : get_or (xs ++ x ∷ []) (length xs + 0) d ≡ x = get_or-append-add xs (x ∷ []) 0 d in
    rw e at h

pub get_or-push-at : {X : Type 0} (xs : List X) (x d : X) (k : ℕ) → k ≡ length xs → get_or (xs ++ x ∷ []) k d ≡ x
get_or-push-at xs x d k e = rw e (get_or-push-last xs x d)

pub get_or-push-other : {X : Type 0} (xs : List X) (x d : X) (k : ℕ) → k < length xs → get_or (xs ++ x ∷ []) k d ≡ get_or xs k d
get_or-push-other xs x d k h = get_or_append_left xs (x ∷ []) d k h

pub length-push : {X : Type 0} (xs : List X) (x : X) → length (xs ++ x ∷ []) ≡ length xs + 1
length-push xs x = length-append xs (x ∷ [])

-- of numbers that rise, an earlier one is below a later one
rising-by : (xs : List ℕ) → IsStrictlyIncreasing xs → (i d : ℕ) → i + suc d < length xs → get_or xs i 0 < get_or xs (i + suc d) 0
rising-by xs h i zero lt = let e : i + suc zero ≡ i + 1 = omega arith in rw e (h i (omega arith))
rising-by xs h i (suc d) lt =
    let e : i + suc (suc d) ≡ i + suc d + 1 = omega arith in
    rw e (omega (arith, rising-by xs h i d (omega arith), h (i + suc d) (omega arith)))

pub rising-apart : (xs : List ℕ) → IsStrictlyIncreasing xs → (i j : ℕ) → i < j → j < length xs → get_or xs i 0 < get_or xs j 0
rising-apart xs h i j lt below =
    let e : i + suc (j - i - 1) ≡ j = omega arith in
    let P : ℕ → Type 0 = λ k. get_or xs i 0 < get_or xs k 0 in
    subst P e (rising-by xs h i (j - i - 1) (omega arith))

-- a bound of all elements is one of what stands at any place, 0 after the last
pub get_or-le : (m : ℕ) (xs : List ℕ) → All (λ x. x ≤ m) xs → (k : ℕ) → get_or xs k 0 ≤ m
get_or-le m xs h k = elim (cases_lt k (length xs)) [
  | inl below ↦ All-get_or (λ x. x ≤ m) xs k 0 below h
  | inr past ↦ let e : get_or xs k 0 ≡ 0 = get_or_past xs k 0 past in omega (arith, e)
]

-- nothing is found where no element passes
pub find-none : {X : Type 0} (p : X → Bool) (xs : List X) → All (λ x. p x ≡ false) xs → find p xs ≡ None
find-none p [] h = refl
find-none p (x ∷ xs) h = let e : p x ≡ false = All-head (λ y. p y ≡ false) x xs h in rw e (find-none p xs (All-tail (λ y. p y ≡ false) x xs h))

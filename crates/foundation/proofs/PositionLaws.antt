-- The first place of a list that passes a test.
use Rattle.std.proofs.Common.{◌≡◌, ℕ, zero, suc, ◌+◌, ◌<◌, Bool, true, false, cond, not, ◌||◌, ltb, List, [], ◌∷◌, length, get_or, map, position, Some, None, is_some, refl, ap, ◌∙◌, arith}
use Rattle.std.proofs.lemmas.Bool.Decides.{nat_tests}
use Rattle.std.proofs.lemmas.List.{length-map}
use Rattle.std.proofs.lemmas.List.Sums.{position_or_len_is}
use Rattle.std.specs.List.{prefix_len, position_or_len, list_any}

prefix_len-map : {X Y : Type 0} (p : Y → Bool) (f : X → Y) (xs : List X) → prefix_len p (map f xs) ≡ prefix_len (λ x. p (f x)) xs
prefix_len-map p f [] = refl
prefix_len-map p f (x ∷ xs) = ap (λ n. cond (p (f x)) (1 + n) 0) (prefix_len-map p f xs)

-- a test of what is seen of each element
pub position-map : {X Y : Type 0} (p : Y → Bool) (f : X → Y) (xs : List X) → position p (map f xs) ≡ position (λ x. p (f x)) xs
position-map p f xs = rw (prefix_len-map (λ y. not (p y)) f xs, length-map)

chosen : (i n : ℕ) → i < n → cond (ltb i n) (Some i) None ≡ Some i
chosen i n h = grind (arith, nat_tests)

left : (n : ℕ) → cond (ltb n n) (Some n) None ≡ None
left n = grind (arith, nat_tests)

module _ {X : Type 0} (p : X → Bool) (xs : List X) (d : X) where
  pub position-first : (i : ℕ) → i < length xs → ((k : ℕ) → k < i → p (get_or xs k d) ≡ false) → p (get_or xs i d) ≡ true → position p xs ≡ Some i
  position-first i h before here = rw (position_or_len_is p xs i d (omega arith) before (λ _. here)) (chosen i (length xs) h)

  pub position-none : ((k : ℕ) → k < length xs → p (get_or xs k d) ≡ false) → position p xs ≡ None
  position-none none = rw (position_or_len_is p xs (length xs) d (omega arith) none (λ h. absurd (omega arith))) (left (length xs))

any_step : (b : Bool) (any : Bool) (n m : ℕ) → any ≡ ltb n m → (b || any) ≡ ltb (cond (not b) (1 + n) 0) (suc m)
any_step true any n m h = grind (arith, nat_tests)
any_step false any n m h = h ∙ grind (arith, nat_tests)

any-before : {X : Type 0} (p : X → Bool) (xs : List X) → list_any p xs ≡ ltb (position_or_len p xs) (length xs)
any-before p [] = refl
any-before p (x ∷ xs) = any_step (p x) (list_any p xs) (position_or_len p xs) (length xs) (any-before p xs)

some_from : (b : Bool) (i : ℕ) → b ≡ is_some (cond b (Some i) None)
some_from true i = refl
some_from false i = refl

-- whether any element passes is whether there is a first one
pub list_any-position : {X : Type 0} (p : X → Bool) (xs : List X) → list_any p xs ≡ is_some (position p xs)
list_any-position p xs = any-before p xs ∙ some_from (ltb (position_or_len p xs) (length xs)) (position_or_len p xs)

or_true : (b : Bool) → (b || true) ≡ true
or_true true = refl
or_true false = refl

-- an element that passes is among those that any passes
pub list_any-at : {X : Type 0} (p : X → Bool) (xs : List X) (k : ℕ) (d : X) → k < length xs → p (get_or xs k d) ≡ true → list_any p xs ≡ true
list_any-at p [] k d h here = absurd (omega arith)
list_any-at p (x ∷ xs) zero d h here = rw here
list_any-at p (x ∷ xs) (suc k) d h here = rw (list_any-at p xs k d (omega arith) here) (or_true (p x))

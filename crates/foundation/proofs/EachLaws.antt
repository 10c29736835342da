-- A reading of each element of a list, one element after another.
use Rattle.std.proofs.Common.{◌≡◌, ℕ, zero, suc, ◌+◌, ◌<◌, ◌≤◌, List, [], ◌∷◌, ◌++◌, length, get_or, take, map, Option, Some, None, refl, ap, ◌∙◌, sym, arith, All, option_map}
use Rattle.std.proofs.lemmas.List.{take_more, take_all}
use Rattle.std.proofs.lemmas.List.Elements.{All-nil, All-cons, All-head, All-tail}
use Rattle.std.proofs.lemmas.Option.{same_Some}
use Rattle.foundation.specs.Options.{◌>>=◌, each}
use Rattle.foundation.proofs.OptionLaws.{bind-some, bind-none}

module _ {X Y : Type 0} (f : X → Option Y) where
  -- the first that is read, and the others
  pub each-cons : (x : X) (xs : List X) (ys : List Y) → each f (x ∷ xs) ≡ Some ys → (y : Y) × (zs : List Y) × (f x ≡ Some y) × (each f xs ≡ Some zs) × (ys ≡ y ∷ zs)
  each-cons x xs ys all =
      let (y, here, rest) = bind-some (f x) (λ v. each f xs >>= λ vs. Some (v ∷ vs)) ys all in
      let (zs, more, last) = bind-some (each f xs) (λ vs. Some (y ∷ vs)) ys rest in
      (y, zs, here, more, sym (same_Some _ _ last))

  -- one more element at the end
  pub each-push : (xs : List X) (x : X) (ys : List Y) (y : Y) → each f xs ≡ Some ys → f x ≡ Some y → each f (xs ++ x ∷ []) ≡ Some (ys ++ y ∷ [])
  each-push [] x ys y all here = rw here (ap (option_map (λ l. l ++ y ∷ [])) all)
  each-push (z ∷ xs) x ys y all here =
      let (w, ws, first, more, last) = each-cons z xs ys all in
      rw (first, each-push xs x ws y more here) (ap (λ l. Some (l ++ y ∷ [])) (sym last))

  -- an element that gives nothing
  pub each-none : (xs : List X) (i : ℕ) (d : X) → i < length xs → f (get_or xs i d) ≡ None → each f xs ≡ None
  each-none [] i d h none = absurd (omega arith)
  each-none (x ∷ xs) zero d h none = rw none
  each-none (x ∷ xs) (suc i) d h none = bind-none (f x) (λ y. each f xs >>= λ ys. Some (y ∷ ys)) (λ y. rw (each-none xs i d (omega arith) none) refl)

  -- a loop's step: the element at i
  pub each-more : (xs : List X) (i : ℕ) (x : X) (ys : List Y) (y : Y) → i < length xs → x ≡ get_or xs i x → each f (take i xs) ≡ Some ys → f x ≡ Some y → each f (take (i + 1) xs) ≡ Some (ys ++ y ∷ [])
  each-more xs i x ys y h at all here = rw (take_more xs i x h) (each-push (take i xs) (get_or xs i x) ys y all (rw (← at) here))

  -- the end of a loop
  pub each-end : (xs : List X) (i : ℕ) (ys : List Y) → length xs ≤ i → each f (take i xs) ≡ Some ys → each f xs ≡ Some ys
  each-end xs i ys h all = rw (take_all i xs h) at all

  -- as many are given as were read
  pub each-length : (xs : List X) (ys : List Y) → each f xs ≡ Some ys → length ys ≡ length xs
  each-length [] ys all = rw (← same_Some _ _ all)
  each-length (x ∷ xs) ys all =
      let (y, zs, here, more, last) = each-cons x xs ys all in
      rw last (ap suc (each-length xs zs more))

  -- what is given at a place
  pub each-at : (xs : List X) (ys : List Y) (i : ℕ) (d : X) (e : Y) → each f xs ≡ Some ys → i < length xs → f (get_or xs i d) ≡ Some (get_or ys i e)
  each-at [] ys i d e all h = absurd (omega arith)
  each-at (x ∷ xs) ys zero d e all h =
      let (y, zs, here, more, last) = each-cons x xs ys all in
      rw last here
  each-at (x ∷ xs) ys (suc i) d e all h =
      let (y, zs, here, more, last) = each-cons x xs ys all in
      rw last (each-at xs zs i d e more (omega arith))

  -- what holds of all that is read gives what holds of all that is given
  pub each-All : (P : X → Type 0) (Q : Y → Type 0) → ((x : X) (y : Y) → P x → f x ≡ Some y → Q y) → (xs : List X) (ys : List Y) → All P xs → each f xs ≡ Some ys → All Q ys
  each-All P Q step [] ys holds all = rw (← same_Some _ _ all) (All-nil Q)
  each-All P Q step (x ∷ xs) ys holds all =
      let (y, zs, here, more, last) = each-cons x xs ys all in
      rw last (All-cons Q y zs (step x y (All-head P x xs holds) here) (each-All P Q step xs zs (All-tail P x xs holds) more))

  -- what gives something is good, so all are good where all give something
  pub each-good : (good : X → Type 0) → ((x : X) (y : Y) → f x ≡ Some y → good x) → (xs : List X) (ys : List Y) → each f xs ≡ Some ys → All good xs
  each-good good step [] ys all = All-nil good
  each-good good step (x ∷ xs) ys all =
      let (y, zs, here, more, last) = each-cons x xs ys all in
      All-cons good x xs (step x y here) (each-good good step xs zs more)

  -- a reading of two lists one after another goes through both
  pub each-append : (xs xs' : List X) (ys : List Y) → each f (xs ++ xs') ≡ Some ys → (front : List Y) × (back : List Y) × (each f xs ≡ Some front) × (each f xs' ≡ Some back) × (ys ≡ front ++ back)
  each-append [] xs' ys all = ([], ys, refl, all, refl)
  each-append (x ∷ xs) xs' ys all =
      let (y, zs, here, more, last) = each-cons x (xs ++ xs') ys all in
      let (front, back, first, second, whole) = each-append xs xs' zs more in
      (y ∷ front, back, rw (here, first) refl, second, last ∙ ap (λ l. y ∷ l) whole)

-- the same, where each element is seen by g
pub each-map : {W X Y : Type 0} (f : X → Option Y) (g : W → X) (ws : List W) → each f (map g ws) ≡ each (λ w. f (g w)) ws
each-map f g [] = refl
each-map f g (w ∷ ws) = rw (each-map f g ws)

-- elements that are read as themselves
pub each-self : {X : Type 0} (xs : List X) → each Some xs ≡ Some xs
each-self [] = refl
each-self (x ∷ xs) = rw (each-self xs) refl

-- A test of each element of a list, one element after another.
use Rattle.std.proofs.Common.{◌≡◌, ℕ, ◌+◌, ◌<◌, ◌≤◌, List, [], ◌∷◌, ◌++◌, length, get_or, take, drop, All, add-one, ap, ◌∙◌, sym, subst}
use Rattle.std.proofs.Math.Seq.{drop-cons}
use Rattle.std.proofs.lemmas.List.{take_all, take-append-drop, get_or_default}
use Rattle.std.proofs.lemmas.List.Elements.{All-more, All-head, All-tail}

module _ {X : Type 0} (P : X → Type 0) (xs : List X) (i : ℕ) where
  -- one more element
  pub All-step : (x : X) → i < length xs → x ≡ get_or xs i x → All P (take i xs) → P x → All P (take (i + 1) xs)
  All-step x h at before here = All-more P xs i x h before (subst P at here)

  -- the end of the list
  pub All-end : length xs ≤ i → All P (take i xs) → All P xs
  All-end h all = rw (take_all i xs h) at all

  -- what holds of all elements holds of one
  pub All-at : (x : X) → i < length xs → x ≡ get_or xs i x → All P xs → P x
  All-at x h at all = subst P (sym at) (all i x h)

  -- an element that fails the test
  pub All-not : (x : X) → i < length xs → x ≡ get_or xs i x → (P x → ⊥) → All P xs → ⊥
  All-not x h at fails all = fails (All-at x h at all)

-- what holds of the element at each index holds of all
pub All-each : {X : Type 0} (P : X → Type 0) (xs : List X) (d : X) → ((k : ℕ) → k < length xs → P (get_or xs k d)) → All P xs
All-each P xs d each k e h = rw (get_or_default xs k e d h) (each k h)

-- what holds of all holds of the one in the middle
pub All-middle : {X : Type 0} (P : X → Type 0) (xs ys : List X) (y : X) → All P (xs ++ y ∷ ys) → P y
All-middle P [] ys y all = All-head P y ys all
All-middle P (x ∷ xs) ys y all = All-middle P xs ys y (All-tail P x (xs ++ y ∷ ys) all)

-- a list is what comes before an element, the element, and what comes after it
pub split-at : {X : Type 0} (xs : List X) (i : ℕ) (d : X) → i < length xs → xs ≡ take i xs ++ get_or xs i d ∷ drop (i + 1) xs
split-at xs i d h = sym (take-append-drop i xs) ∙ ap (λ l. take i xs ++ l) (rw add-one (drop-cons xs i d h))

-- The elements of a list that pass a test, one after another.
use Rattle.std.proofs.Common.{◌≡◌, ℕ, ◌+◌, ◌<◌, ◌≤◌, Bool, true, false, List, [], ◌∷◌, ◌++◌, filter, get_or, length, take, append-nil, refl, sym, ap, ◌∙◌}
use Rattle.std.proofs.lemmas.List.{take_all, take_more}
use Rattle.std.proofs.lemmas.List.Elements.{filter-append}

-- The elements so far that pass a test: one more element that does not, one that does, and all of them.
pub filter-less : (p : ℕ → Bool) (xs : List ℕ) (k : ℕ) → k < length xs → p (get_or xs k 0) ≡ false → (ys : List ℕ) → ys ≡ filter p (take k xs) → ys ≡ filter p (take (k + 1) xs)
filter-less p xs k inside fails ys was =
    let none : filter p (get_or xs k 0 ∷ []) ≡ [] = rw fails refl in
    was ∙ sym (ap (filter p) (take_more xs k 0 inside) ∙ filter-append p (take k xs) (get_or xs k 0 ∷ []) ∙ ap (λ l. filter p (take k xs) ++ l) none ∙ append-nil (filter p (take k xs)))

pub filter-more : (p : ℕ → Bool) (xs : List ℕ) (k : ℕ) → k < length xs → p (get_or xs k 0) ≡ true → (ys zs : List ℕ) → ys ≡ filter p (take k xs) → zs ≡ ys ++ get_or xs k 0 ∷ [] → zs ≡ filter p (take (k + 1) xs)
filter-more p xs k inside passes ys zs was grown =
    let one : filter p (get_or xs k 0 ∷ []) ≡ get_or xs k 0 ∷ [] = rw passes refl in
    grown ∙ ap (λ l. l ++ get_or xs k 0 ∷ []) was ∙ sym (ap (filter p) (take_more xs k 0 inside) ∙ filter-append p (take k xs) (get_or xs k 0 ∷ []) ∙ ap (λ l. filter p (take k xs) ++ l) one)

pub filter-whole : (p : ℕ → Bool) (xs ls : List ℕ) (k : ℕ) → length xs ≤ k → xs ≡ ls → (ys : List ℕ) → ys ≡ filter p (take k xs) → ys ≡ filter p ls
filter-whole p xs ls k end same ys was = was ∙ ap (filter p) (take_all k xs end ∙ same)

-- Lists made of equal parts, and lists told by their places.
use Rattle.std.proofs.Common.{◌≡◌, ℕ, zero, suc, ◌+◌, ◌<◌, ◌≤◌, List, [], ◌∷◌, ◌++◌, length, map, get_or, refl, ap, ◌∙◌, arith, length-append}
use Rattle.std.specs.List.{flat_map, range_with_len}
use Rattle.std.proofs.lemmas.List.{length-map}

pub map-range-same : {X : Type 0} (f g : ℕ → X) (s n : ℕ) → ((k : ℕ) → s ≤ k → k < s + n → f k ≡ g k) → map f (range_with_len s n) ≡ map g (range_with_len s n)
map-range-same f g s zero same = refl
map-range-same f g s (suc n) same = ap (λ x. x ∷ map f (range_with_len (s + 1) n)) (same s (omega arith) (omega arith)) ∙ ap (λ l. g s ∷ l) (map-range-same f g (s + 1) n (λ k least most. same k (omega arith) (omega arith)))

pub flat-range-same : {X : Type 0} (f g : ℕ → List X) (s n : ℕ) → ((k : ℕ) → s ≤ k → k < s + n → f k ≡ g k) → flat_map f (range_with_len s n) ≡ flat_map g (range_with_len s n)
flat-range-same f g s zero same = refl
flat-range-same f g s (suc n) same = ap (λ x. x ++ flat_map f (range_with_len (s + 1) n)) (same s (omega arith) (omega arith)) ∙ ap (λ l. g s ++ l) (flat-range-same f g (s + 1) n (λ k least most. same k (omega arith) (omega arith)))

-- a list whose elements are told by their places
pub map-by : {A B : Type 0} (f : A → B) (g : ℕ → B) (xs : List A) (s : ℕ) → ((k : ℕ) (d : A) → k < length xs → f (get_or xs k d) ≡ g (s + k)) → map f xs ≡ map g (range_with_len s (length xs))
map-by f g [] s same = refl
map-by f g (x ∷ xs) s same =
    ap (λ y. y ∷ map f xs) (same 0 x (omega arith) ∙ ap g (let e : s + 0 ≡ s = omega arith in e))
    ∙ ap (λ l. g s ∷ l) (map-by f g xs (s + 1) (λ k d less. same (suc k) d (omega arith) ∙ ap g (let e : s + suc k ≡ s + 1 + k = omega arith in e)))

-- lists of one element each, one after another
pub flat-ones : {A B : Type 0} (f : A → List B) (g : ℕ → B) (xs : List A) (s : ℕ) → ((k : ℕ) (d : A) → k < length xs → f (get_or xs k d) ≡ g (s + k) ∷ []) → flat_map f xs ≡ map g (range_with_len s (length xs))
flat-ones f g [] s one = refl
flat-ones f g (x ∷ xs) s one =
    ap (λ l. l ++ flat_map f xs) (one 0 x (omega arith) ∙ ap (λ k. g k ∷ []) (let e : s + 0 ≡ s = omega arith in e))
    ∙ ap (λ l. g s ∷ l) (flat-ones f g xs (s + 1) (λ k d less. one (suc k) d (omega arith) ∙ ap (λ j. g j ∷ []) (let e : s + suc k ≡ s + 1 + k = omega arith in e)))

-- the length of a list to which others are mapped and appended
pub length-mapped : {B C : Type 0} (g : C → B) (all start : List B) (more : List C) → all ≡ start ++ map g more → length all ≡ length start + length more
length-mapped g all start more is =
    let e : length all ≡ length start + length (map g more) = ap length is ∙ length-append start (map g more) in
    omega (arith, e, length-map more g)

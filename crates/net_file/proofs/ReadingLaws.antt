-- Lists that are made number by number, and read again.
use Rattle.std.proofs.Common.{◌≡◌, ℕ, zero, suc, ◌+◌, ◌<◌, List, [], ◌∷◌, length, get_or, map, sum, count_by, cond, Bool, All, Option, Some, refl, sym, ap, ◌∙◌, arith}
use Rattle.std.specs.List.{range_with_len}
use Rattle.std.proofs.lemmas.List.FromFn.{fill_by_all, get_or-map-range_with_len, length-map-range_with_len}
use Rattle.std.proofs.lemmas.List.Elements.{All-head, All-tail}
use Rattle.std.proofs.lemmas.List.Sums.{sum-map}
use Rattle.std.proofs.lemmas.Simd.{map-map}
use Rattle.foundation.specs.Options.{each}

-- each element is read as its number said
pub each-range : {X Y : Type 0} (f : X → Option Y) (g : ℕ → X) (low n : ℕ) (ys : List Y) (e : Y) → length ys ≡ n → ((k : ℕ) → k < n → f (g (low + k)) ≡ Some (get_or ys k e)) → each f (map g (range_with_len low n)) ≡ Some ys
each-range f g low zero [] e long at = refl
each-range f g low zero (y ∷ ys) e long at = absurd (omega arith)
each-range f g low (suc n) [] e long at = absurd (omega arith)
each-range f g low (suc n) (y ∷ ys) e long at =
    let here : f (g low) ≡ Some y = let same : low ≡ low + 0 = omega arith in ap (λ (k : ℕ). f (g k)) same ∙ at 0 (omega arith) in
    let more : each f (map g (range_with_len (low + 1) n)) ≡ Some ys =
    each-range f g (low + 1) n ys e (omega arith) (λ k h. let same : low + 1 + k ≡ low + suc k = omega arith in ap (λ (j : ℕ). f (g j)) same ∙ at (suc k) (omega arith)) in
    rw (here, more) refl

-- each element of which something holds is read as itself
pub each-own : {X Y : Type 0} (P : Y → Type 0) (f : X → Option Y) (g : Y → X) → ((y : Y) → P y → f (g y) ≡ Some y) → (ys : List Y) → All P ys → each f (map g ys) ≡ Some ys
each-own P f g own [] holds = refl
each-own P f g own (y ∷ ys) holds = rw (own y (All-head P y ys holds), each-own P f g own ys (All-tail P y ys holds)) refl

-- what is made of each number is this list
pub map-range : {X Y : Type 0} (f : X → Y) (g : ℕ → X) (n : ℕ) (ys : List Y) (d : Y) → length ys ≡ n → ((k : ℕ) → k < n → f (g k) ≡ get_or ys k d) → map f (map g (range_with_len 0 n)) ≡ ys
map-range f g n ys d long at = map-map f g (range_with_len 0 n) ∙ sym (fill_by_all (λ k. f (g k)) ys n d long (λ k h. sym (at k h)))

-- what holds of what is made of each number
pub All-range : {X : Type 0} (P : X → Type 0) (g : ℕ → X) (n : ℕ) → ((k : ℕ) → k < n → P (g k)) → All P (map g (range_with_len 0 n))
All-range P g n holds k d inside =
    let h : k < n = omega (arith, length-map-range_with_len g 0 n) in
    let same : 0 + k ≡ k = omega arith in
    rw (get_or-map-range_with_len g 0 n k k d h same) (holds k h)

-- a count of what f makes of the elements
pub count_by-map : {X Y : Type 0} (p : Y → Bool) (f : X → Y) (xs : List X) → count_by p (map f xs) ≡ count_by (λ x. p (f x)) xs
count_by-map p f xs = sym (sum-map (λ y. cond (p y) 1 0) (map f xs)) ∙ ap sum (map-map (λ y. cond (p y) 1 0) f xs) ∙ sum-map (λ x. cond (p (f x)) 1 0) xs

-- Two lists of which one takes the place of the other, element by element.
use Rattle.std.proofs.Common.{◌≡◌, ℕ, zero, suc, ◌+◌, ◌<◌, ◌≤◌, List, [], ◌∷◌, ◌++◌, length, take, drop, get_or, set, refl, ap, ◌∙◌, arith, append-nil}
use Rattle.std.proofs.lemmas.List.{drop_all, take_all}

-- the first elements of one list, and the others of another
abbrev pub mixed : {X : Type 0} → List X → List X → ℕ → List X
mixed xs ys k = take k xs ++ drop k ys

-- the next element is that of the other list
pub mixed-get : {X : Type 0} (xs ys : List X) (k : ℕ) (d : X) → length xs ≡ length ys → get_or (mixed xs ys k) k d ≡ get_or ys k d
mixed-get xs [] zero d same = refl
mixed-get xs (y ∷ ys) zero d same = refl
mixed-get [] [] (suc k) d same = refl
mixed-get [] (y ∷ ys) (suc k) d same = absurd (omega (arith, same))
mixed-get (x ∷ xs) [] (suc k) d same = absurd (omega (arith, same))
mixed-get (x ∷ xs) (y ∷ ys) (suc k) d same = mixed-get xs ys k d (omega (arith, same))

mixed-suc : {X : Type 0} (xs ys : List X) (k : ℕ) (x d : X) → length xs ≡ length ys → k < length xs → x ≡ get_or xs k d → set (mixed xs ys k) k x ≡ mixed xs ys (suc k)
mixed-suc [] ys k z d same inside is = absurd (omega arith)
mixed-suc (x ∷ xs) [] k z d same inside is = absurd (omega (arith, same))
mixed-suc (x ∷ xs) (y ∷ ys) zero z d same inside is = ap (λ q. q ∷ ys) is
mixed-suc (x ∷ xs) (y ∷ ys) (suc k) z d same inside is = ap (λ l. x ∷ l) (mixed-suc xs ys k z d (omega (arith, same)) (omega (arith, inside)) is)

pub mixed-step : {X : Type 0} (xs ys : List X) (k : ℕ) (x d : X) → length xs ≡ length ys → k < length xs → x ≡ get_or xs k d → set (mixed xs ys k) k x ≡ mixed xs ys (k + 1)
mixed-step xs ys k x d same inside is = let next : suc k ≡ k + 1 = omega arith in mixed-suc xs ys k x d same inside is ∙ ap (mixed xs ys) next

-- all have taken their places
pub mixed-all : {X : Type 0} (xs ys : List X) (k : ℕ) → length xs ≡ length ys → length xs ≤ k → mixed xs ys k ≡ xs
mixed-all xs ys k same past = (λ i. take_all k xs past i ++ drop_all k ys (omega (arith, same, past)) i) ∙ append-nil xs

-- Versions that a plan used, one after another.
use Rattle.std.proofs.Common.{◌≡◌, ℕ, ◌+◌, ◌<◌, Bool, List, [], ◌∷◌, ◌++◌, length, get_or, take, map, if◌then◌else◌, ◌==◌, ne_eqb, ap, sym, ◌∙◌, arith, append_assoc, refl}
use Rattle.std.proofs.lemmas.List.{length-map, length-take, map_more}
use Rattle.std.specs.List.{join_with_byte}

-- texts with a byte between each two: one more at the end
join-push : (c : ℕ) (x : List ℕ) (xs : List (List ℕ)) (y : List ℕ) → join_with_byte c (x ∷ (xs ++ y ∷ [])) ≡ join_with_byte c (x ∷ xs) ++ c ∷ y
join-push c x [] y = refl
join-push c x (z ∷ zs) y = ap (λ l. x ++ c ∷ l) (join-push c z zs y) ∙ sym (append_assoc x (c ∷ join_with_byte c (z ∷ zs)) (c ∷ y))

joined : (c : ℕ) (xs : List (List ℕ)) (y old new : List ℕ) (i : ℕ) → i ≡ length xs → old ≡ join_with_byte c xs → new ≡ (old ++ (if i == 0 then [] else c ∷ [])) ++ y → new ≡ join_with_byte c (xs ++ y ∷ [])
joined c [] y old new i none was is = is ∙ ap (λ l. (l ++ (if i == 0 then [] else c ∷ [])) ++ y) was ∙ ap (λ k. (if k == 0 then [] else c ∷ []) ++ y) none
joined c (x ∷ xs) y old new i some was is =
    is ∙ ap (λ l. (l ++ (if i == 0 then [] else c ∷ [])) ++ y) was ∙ ap (λ (b : Bool). (join_with_byte c (x ∷ xs) ++ (if b then [] else c ∷ [])) ++ y) (ne_eqb i 0 (λ e. absurd (omega (arith, e, some))))
    ∙ append_assoc (join_with_byte c (x ∷ xs)) (c ∷ []) y ∙ sym (join-push c x xs y)

pub joined-more : {X : Type 0} (c : ℕ) (f : X → List ℕ) (xs : List X) (i : ℕ) (d : X) (old new : List ℕ) → i < length xs → old ≡ join_with_byte c (map f (take i xs)) → new ≡ (old ++ (if i == 0 then [] else c ∷ [])) ++ f (get_or xs i d)
    → new ≡ join_with_byte c (map f (take (i + 1) xs))
joined-more c f xs i d old new inside was is =
    joined c (map f (take i xs)) (f (get_or xs i d)) old new i (omega (arith, length-map (take i xs) f, length-take i xs)) was is ∙ ap (join_with_byte c) (sym (map_more f xs i d inside))

-- Lists of views, functions changed at one number, and flights.
use Rattle.std.proofs.Common.{◌≡◌, ◌≢◌, ℕ, zero, suc, ◌+◌, ◌<◌, eqb, cond, List, [], ◌∷◌, ◌++◌, length, set, sym, ap, ◌∙◌, subst, ⊎_elim, arith, eq-eqb, ne_eqb}
use Rattle.std.specs.Prelude.{Some, unwrap_or}
use mathlib.Core.Option.{some, some-injective, some-ne-none}
use lib.ListN.{get_elem?}
use Rattle.atomic_table.proofs.Lists.{at_set}
use Rattle.link_boards.specs.declared.views.Flight.{Flight}
use Rattle.link_boards.specs.declared.views.View.{View}
use Rattle.link_boards.specs.Rule.{total}

-- one view changed: what holds of it and of all others holds of all
pub seats_set : (K : ℕ → View → Type 0) (views : List View) (me : ℕ) (w : View) → K me w → ((j : ℕ) (v : View) → j ≢ me → get_elem? views j ≡ some v → K j v)
    → (j : ℕ) (v : View) → get_elem? (set views me w) j ≡ some v → K j v
seats_set K views me w mine others j v e = ⊎_elim (λ (t : (j ≡ me) × (w ≡ v)). subst (λ (x : ℕ × View). K x.0 x.1) (λ i. (sym t.0 i, t.1 i)) mine)
    (λ (t : (j ≢ me) × (get_elem? views j ≡ some v)). others j v t.0 t.1) (at_set views me j w v e)

-- a view at a place stands inside the list
pub inside : (views : List View) (id : ℕ) (v : View) → get_elem? views id ≡ some v → id < length views
inside [] id v e = absurd (some-ne-none v (sym e))
inside (x ∷ xs) zero v e = omega arith
inside (x ∷ xs) (suc id) v e = let i : id < length xs = inside xs id v e in omega arith

-- one place has one view
pub same-view : (views : List View) (j k : ℕ) (u v : View) → j ≡ k → get_elem? views j ≡ some u → get_elem? views k ≡ some v → u ≡ v
same-view views j k u v same there here = some-injective u v (sym there ∙ ap (get_elem? views) same ∙ here)

-- the total after a change of one view
pub total_set : (f : View → ℕ) (views : List View) (me : ℕ) (v w : View) → get_elem? views me ≡ some v → total f (set views me w) + f v ≡ total f views + f w
total_set f [] me v w e = absurd (some-ne-none v (sym e))
total_set f (x ∷ xs) zero v w e = let same : f x ≡ f v = ap f (some-injective x v e) in omega arith
total_set f (x ∷ xs) (suc me) v w e = let s : total f (set xs me w) + f v ≡ total f xs + f w = total_set f xs me v w e in omega arith

pub total_push : (f : View → ℕ) (views : List View) (w : View) → total f (views ++ w ∷ []) ≡ total f views + f w
total_push f [] w = omega arith
total_push f (x ∷ xs) w = let s : total f (xs ++ w ∷ []) ≡ total f xs + f w = total_push f xs w in omega arith

-- a view's share is at most the total
pub total_one : (f : View → ℕ) (views : List View) (me : ℕ) (v : View) → get_elem? views me ≡ some v → f v < total f views + 1
total_one f [] me v e = absurd (some-ne-none v (sym e))
total_one f (x ∷ xs) zero v e = let same : f x ≡ f v = ap f (some-injective x v e) in omega arith
total_one f (x ∷ xs) (suc me) v e = let s : f v < total f xs + 1 = total_one f xs me v e in omega arith

-- f, with another value at one number
abbrev pub changed : {A : Type 0} → (ℕ → A) → ℕ → A → ℕ → A
changed f i a j = cond (eqb j i) a (f j)

module _ {A : Type 0} (f : ℕ → A) (i : ℕ) (a : A) where
  pub changed-here : (j : ℕ) → j ≡ i → changed f i a j ≡ a
  changed-here j e = ap (λ b. cond b a (f j)) (eq-eqb j i e)

  pub changed-else : (j : ℕ) → j ≢ i → changed f i a j ≡ f j
  changed-else j ne = ap (λ b. cond b a (f j)) (ne_eqb j i ne)

-- one flight in two options, and one number
pub flight-one : (f g : Flight) → Some f ≡ Some g → f ≡ g
flight-one f g e = ap (λ o. unwrap_or o f) e

pub some-one : (a b : ℕ) → Some a ≡ Some b → a ≡ b
some-one a b e = ap (λ o. unwrap_or o 0) e

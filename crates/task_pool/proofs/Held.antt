-- What an end has laid, or taken.
use Rattle.std.proofs.Common.{◌≡◌, ◌≢◌, true, ◌∷◌, refl, sym, ap, ◌∙◌}
use Rattle.std.specs.Prelude.{Option, Some, None}
use Rattle.atomic_table.specs.Table.{rest}
use Rattle.task_pool.specs.declared.views.View.{View}
use Rattle.task_pool.specs.Places.{IsBack}
use Rattle.task_pool.specs.Plays.{Holding, TakesTask, TakesBack}

-- it is something
pub some-laid : {T : Type 0} (o : Option T) → o ≢ None → (x : T) × (o ≡ Some x)
some-laid None not = absurd (not refl)
some-laid (Some x) not = (x, refl)

-- this is what became of something
pub given : {T : Type 0} (done : T → T → Type 0) (o : Option T) (y : T) → IsBack done o y → (x : T) × (o ≡ Some x) × done x y
given {T = T} done None y is = elim is [ ]
given done (Some x) y is = (x, refl, is)

-- the place that an end holds
module _ {T : Type 0} (m n : Holding T) where
  held : (v : View T) (x : Option T) → n ≡ (v, (0, x) ∷ m.1) → (y : Option T) × (n.1 ≡ (0, y) ∷ rest n.1)
  held v x is = (x, ap (λ z. z.1) is ∙ ap (λ z. (0, x) ∷ rest z.1) (sym is))

  pub held-back : (done : T → T → Type 0) → TakesBack done m n true → (y : Option T) × (n.1 ≡ (0, y) ∷ rest n.1)
  held-back done is = held _ _ is.4

  pub held-taken : (ready : T → Type 0) → TakesTask ready m n true → (y : Option T) × (n.1 ≡ (0, y) ∷ rest n.1)
  held-taken ready is = held _ _ is.2

-- The ends of a slot, and what comes back to its owner. No public clause cites these.
use Rattle.std.specs.Prelude.{◌≡◌, ℕ, true, false, Option, Some, None, List, [], ◌∷◌}
use Rattle.task_pool.specs.Plays.{Holding}

module _ {T : Type 0} where
  -- the table's place, empty: with the owner, where nothing is laid
  abbrev pub place_beside : Option T → List (ℕ × Option T)
  place_beside None = (0, None) ∷ []
  place_beside (Some x) = []

  -- with a worker, where it has a task
  abbrev pub place_for : Option T → List (ℕ × Option T)
  place_for None = []
  place_for (Some x) = (0, None) ∷ []

  -- the owner's end: the empty place is with it, where nothing is laid
  abbrev pub IsOwner : ℕ → Holding T → Type 0
  IsOwner id me = (id ≡ 0) × (me.0.fresh ≡ false) × (me.1 ≡ place_beside me.0.laid)

  -- a worker's end: the empty place is with it, where it has a task
  abbrev pub IsWorker : Holding T → Type 0
  IsWorker me = (me.0.works ≡ true) × (me.1 ≡ place_for me.0.taken)

  -- this is what became of the task that was laid
  abbrev pub IsBack : (T → T → Type 0) → Option T → T → Type 0
  IsBack done None y = ⊥
  IsBack done (Some x) y = done x y

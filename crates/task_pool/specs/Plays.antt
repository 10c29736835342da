-- What each step on the word tells its caller. No public clause cites these.
use Rattle.std.specs.Prelude.{◌≡◌, ℕ, ◌==◌, Bool, true, false, Option, Some, None, List, [], ◌∷◌}
use Rattle.atomic_table.specs.Table.{Me, Step, rest}
use Rattle.task_pool.specs.declared.views.View.{View}
use Rattle.task_pool.specs.Views.{knowing, laying, taking}

-- an end's view, and the places of the table that it holds
abbrev pub Holding : Type 0 → Type 0
Holding T = Me (Option T) (View T)

module _ {T : Type 0} where
  -- what lies in the place that was taken last
  abbrev pub in_front : List (ℕ × Option T) → Option T
  in_front [] = None
  in_front (place ∷ more) = place.1

  -- the empty place was taken
  abbrev pub begins : Step (Option T) → Holding T → ℕ → Holding T → Type 0
  begins s m found n = n ≡ (laying m.0 None, (0, None) ∷ m.1)

  -- what lay in the place is laid in the slot
  abbrev pub lays : Step (Option T) → Holding T → ℕ → Holding T → Type 0
  lays s m found n = n ≡ (laying m.0 (in_front m.1), rest m.1)

  -- what became of the task that was taken lies in the slot
  abbrev pub puts_back : Step (Option T) → Holding T → ℕ → Holding T → Type 0
  puts_back s m found n = n ≡ (taking m.0 None, rest m.1)

  -- the slot was closed
  abbrev pub closes : Step (Option T) → Holding T → ℕ → Holding T → Type 0
  closes s m found n = n ≡ (knowing m.0 true, m.1)

  -- the slot was looked at: it is closed where the word is 4
  abbrev pub looks : Step (Option T) → Holding T → ℕ → Holding T → Type 0
  looks s m found n = n ≡ (knowing m.0 (found == 4), m.1)

  module _ (done : T → T → Type 0) where
    -- where the task was done, what became of it came back; else nothing changed
    abbrev pub TakesBack : Holding T → Holding T → Bool → Type 0
    TakesBack m n true = (x y : T) × (m.0.laid ≡ Some x) × done x y × (n ≡ (laying m.0 None, (0, Some y) ∷ m.1))
    TakesBack m n false = n ≡ m

    abbrev pub takes_back : Step (Option T) → Holding T → ℕ → Holding T → Type 0
    takes_back s m found n = TakesBack m n (found == 3)

  module _ (ready : T → Type 0) where
    -- where a task lay there, the worker has it; else nothing changed
    abbrev pub TakesTask : Holding T → Holding T → Bool → Type 0
    TakesTask m n true = (x : T) × ready x × (n ≡ (taking m.0 (Some x), (0, Some x) ∷ m.1))
    TakesTask m n false = n ≡ m

    abbrev pub takes_task : Step (Option T) → Holding T → ℕ → Holding T → Type 0
    takes_task s m found n = TakesTask m n (found == 1)

-- The rule of a slot, which holds of its table at every moment. Its word is 0 where the slot is empty, 1 where a task lies there, 2
-- where a worker has it, 3 where what became of it lies there, and 4 where the slot is closed. The table has one place. No public
-- clause cites these.
use Rattle.std.specs.Prelude.{◌≡◌, ℕ, ◌⊎◌, true, false, Option, Some, None, List, length, slice_index}
use mathlib.Core.Option.{some}
use lib.ListN.{get_elem?}
use Rattle.atomic_table.specs.Table.{State}
use Rattle.task_pool.specs.declared.views.View.{View}

module _ {T : Type 0} (ready : T → Type 0) (done : T → T → Type 0) where
  -- where a task that was laid is: it lies there, a worker has it, or what became of it lies there
  abbrev pub IsSomewhere : ℕ → List (mathlib.Core.Option.Option (Option T)) → T → Type 0
  IsSomewhere word homes x = ((word ≡ 1) × ready x × (get_elem? homes 0 ≡ some (some (Some x))))
      ⊎ (word ≡ 2)
      ⊎ ((word ≡ 3) × (y : T) × done x y × (get_elem? homes 0 ≡ some (some (Some y))))

  -- the first seat is the owner's, which knows whether the slot is closed; of the others at most one has taken a task, and that is the
  -- one that was laid
  pub record Holds (s : State (Option T) (View T)) : Type 0 where
    pub wide : length s.words ≡ 1
    pub deep : length s.homes ≡ 1
    pub owner : View T
    pub first : get_elem? s.views 0 ≡ some owner
    pub apart : owner.works ≡ false
    pub idle : owner.laid ≡ None → owner.closed ≡ false → slice_index s.words 0 ≡ 0
    pub shut : owner.closed ≡ true → (owner.laid ≡ None) × (slice_index s.words 0 ≡ 4)
    pub fresh : owner.fresh ≡ true → (owner.laid ≡ None) × (get_elem? s.homes 0 ≡ some (some None))
    pub laid : (x : T) → owner.laid ≡ Some x → IsSomewhere (slice_index s.words 0) s.homes x
    pub taken : (seat : ℕ) (v : View T) (x : T) → get_elem? s.views seat ≡ some v → v.taken ≡ Some x
        → (slice_index s.words 0 ≡ 2) × (owner.laid ≡ Some x)
    pub known : (seat : ℕ) (v : View T) → get_elem? s.views seat ≡ some v → v.closed ≡ true → owner.closed ≡ true
    pub one : (seat other : ℕ) (v w : View T) (x y : T) → get_elem? s.views seat ≡ some v
        → get_elem? s.views other ≡ some w → v.taken ≡ Some x → w.taken ≡ Some y → seat ≡ other

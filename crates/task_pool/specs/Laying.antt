-- The state of the loops over all slots. No public clause cites these.
use Rattle.std.specs.Prelude.{◌≡◌, ◌<◌, ◌≤◌, ℕ, true, Some, List, length, slice_index_or}
use Rattle.task_pool.specs.declared.slot.SlotOwner.{SlotOwner}
use Rattle.task_pool.specs.Known.{IsOpen, has_closed, laid_of}
use Rattle.task_pool.specs.Places.{IsBack}

module _ {T : Type 0} where
  -- the tasks from the number of those that are left on are laid, each in the slot at its place
  pub record IsLaying (tasks left : List T) (owners : List (SlotOwner T)) : Type 0 where
    pub count : length tasks ≡ length owners
    pub fewer : length left ≤ length tasks
    pub same : (k : ℕ) (task : T) → k < length left → slice_index_or left k task ≡ slice_index_or tasks k task
    pub empty : (k : ℕ) (owner : SlotOwner T) → k < length left → IsOpen (slice_index_or owners k owner)
    pub laid : (k : ℕ) (task : T) (owner : SlotOwner T) → length left ≤ k → k < length owners
        → laid_of (slice_index_or owners k owner) ≡ Some (slice_index_or tasks k task)

  -- the tasks of the slots before this place came back, each done
  pub record IsTakingBack (done : T → T → Type 0) (place : ℕ) (before after : List (SlotOwner T))
      (tasks : List T) : Type 0 where
    pub long : length after ≡ length before
    pub count : length tasks ≡ place
    pub each : (k : ℕ) (task : T) (owner : SlotOwner T) → k < place
        → IsBack done (laid_of (slice_index_or before k owner)) (slice_index_or tasks k task)
    pub empty : (k : ℕ) (owner : SlotOwner T) → k < place → IsOpen (slice_index_or after k owner)
    pub same : (k : ℕ) (owner : SlotOwner T) → place ≤ k → slice_index_or after k owner ≡ slice_index_or before k owner

  -- the slots before this place are closed, and the others are open
  pub record AreClosing (place : ℕ) (owners : List (SlotOwner T)) : Type 0 where
    pub closed : (k : ℕ) (owner : SlotOwner T) → k < place → has_closed (slice_index_or owners k owner) ≡ true
    pub others : (k : ℕ) (owner : SlotOwner T) → place ≤ k → k < length owners → IsOpen (slice_index_or owners k owner)

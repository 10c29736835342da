-- What is known of slots and of their ends. No public clause cites these.
use Rattle.std.specs.Prelude.{◌≡◌, ◌≢◌, ◌<◌, ℕ, Bool, true, false, Option, None, Some, List, [], ◌∷◌, length, slice_index_or}
use Rattle.task_pool.specs.declared.slot.Slot.{Slot}
use Rattle.task_pool.specs.declared.slot.SlotOwner.{SlotOwner}
use Rattle.task_pool.specs.declared.slot.SlotWorker.{SlotWorker}
use Rattle.task_pool.specs.Places.{IsBack}

module _ {T : Type 0} where
  -- it is the owner's end of this slot
  abbrev pub IsOwnerOf : Slot T → SlotOwner T → Type 0
  IsOwnerOf slot owner = owner.seat.table_id ≡ slot.table.shared.table_id

  -- it is a worker's end of this slot
  abbrev pub IsWorkerOf : Slot T → SlotWorker T → Type 0
  IsWorkerOf slot worker = worker.seat.table_id ≡ slot.table.shared.table_id

  -- the task that it has laid, and not got back
  abbrev pub laid_of : SlotOwner T → Option T
  laid_of owner = owner.seat.me.0.laid

  -- the task that it has taken, and not put back
  abbrev pub taken_of : SlotWorker T → Option T
  taken_of worker = worker.seat.me.0.taken

  -- it has closed the slot
  abbrev pub has_closed : SlotOwner T → Bool
  has_closed owner = owner.seat.me.0.closed

  -- it has found the slot closed
  abbrev pub found_closed : SlotWorker T → Bool
  found_closed worker = worker.seat.me.0.closed

  -- the slot is open, and nothing is laid in it
  abbrev pub IsOpen : SlotOwner T → Type 0
  IsOpen owner = (laid_of owner ≡ None) × (has_closed owner ≡ false)

  -- it is a worker's end of this slot, and has no task
  abbrev pub IsFreeWorkerOf : Slot T → SlotWorker T → Type 0
  IsFreeWorkerOf slot worker = IsWorkerOf slot worker × (taken_of worker ≡ None)

  -- each of these fits the slot at its place
  pub record FitSlots {A : Type 0} (Fits : Slot T → A → Type 0) (slots : List (Slot T)) (ends : List A) : Type 0 where
    pub count : length ends ≡ length slots
    pub each : (k : ℕ) (slot : Slot T) (end' : A) → k < length slots
        → Fits (slice_index_or slots k slot) (slice_index_or ends k end')

  -- these are the owner's ends of the slots
  abbrev pub AreOwnersOf : List (Slot T) → List (SlotOwner T) → Type 0
  AreOwnersOf = FitSlots IsOwnerOf

  -- these are one thread's ends of the slots, and have no task
  abbrev pub AreWorkersOf : List (Slot T) → List (SlotWorker T) → Type 0
  AreWorkersOf = FitSlots IsFreeWorkerOf

  -- there is no slot, or the first one was found closed
  abbrev pub finds_closed : List (SlotWorker T) → Bool
  finds_closed [] = true
  finds_closed (worker ∷ more) = found_closed worker

  -- the slots before a place have an end each of one thread, with no task
  pub record AreFreeTo (place : ℕ) (slots : List (Slot T)) (workers : List (SlotWorker T)) : Type 0 where
    pub count : length workers ≡ place
    pub each : (k : ℕ) (slot : Slot T) (worker : SlotWorker T) → k < place
        → IsFreeWorkerOf (slice_index_or slots k slot) (slice_index_or workers k worker)

  -- all slots are open, and nothing is laid in any
  abbrev pub AreEmpty : List (SlotOwner T) → Type 0
  AreEmpty owners = (k : ℕ) (owner : SlotOwner T) → k < length owners → IsOpen (slice_index_or owners k owner)

  -- all slots are closed
  abbrev pub AreClosed : List (SlotOwner T) → Type 0
  AreClosed owners = (k : ℕ) (owner : SlotOwner T) → k < length owners
      → has_closed (slice_index_or owners k owner) ≡ true

  -- the calling thread's ends of the slots: the owner's, open with nothing laid, and a worker's, with no task
  pub record AreCallerEnds (slots : List (Slot T)) (owners : List (SlotOwner T))
      (workers : List (SlotWorker T)) : Type 0 where
    pub owned : AreOwnersOf slots owners
    pub empty : AreEmpty owners
    pub served : AreWorkersOf slots workers

  -- in each slot the task at its place is laid
  pub record AreLaid (tasks : List T) (owners : List (SlotOwner T)) : Type 0 where
    pub count : length owners ≡ length tasks
    pub each : (k : ℕ) (task : T) (owner : SlotOwner T) → k < length owners
        → laid_of (slice_index_or owners k owner) ≡ Some (slice_index_or tasks k task)

  -- these are what became of the tasks that were laid
  pub record AreTakenBack (done : T → T → Type 0) (owners : List (SlotOwner T)) (tasks : List T) : Type 0 where
    pub count : length tasks ≡ length owners
    pub each : (k : ℕ) (task : T) (owner : SlotOwner T) → k < length owners
        → IsBack done (laid_of (slice_index_or owners k owner)) (slice_index_or tasks k task)

  -- a task is laid in each slot
  abbrev pub AreAllLaid : List (SlotOwner T) → Type 0
  AreAllLaid owners = (k : ℕ) (owner : SlotOwner T) → k < length owners → laid_of (slice_index_or owners k owner) ≢ None

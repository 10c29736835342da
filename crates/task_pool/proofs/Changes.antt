-- One end of a list changed, or one more.
use Rattle.std.proofs.Common.{◌≡◌, ◌≢◌, ℕ, zero, suc, ◌+◌, ◌<◌, List, [], ◌∷◌, ◌++◌, length, get_or, set, take, drop, inl, inr, refl, sym, ap, subst, ◌∙◌, arith, length-append, length-set}
use Rattle.std.proofs.lemmas.Bool.{cases_lt}
use Rattle.std.proofs.lemmas.Grind.{get_or-set_at}
use Rattle.std.proofs.lemmas.List.{get_or_append_left, get_or_default, get_or-set_other}
use Rattle.std.proofs.Math.Seq.{get_or-append_seam, take-append_seam}
use Rattle.std.specs.Prelude.{true}
use Rattle.std.proofs.lemmas.List.Elements.{All-append}
use Rattle.std.proofs.lemmas.Option.{none-some}
use mathlib.Core.Logic.{dite}
use native.Mathlib.Decide.{ℕ_discrete}
use Rattle.task_pool.specs.declared.pool.PoolThread.{PoolThread}
use Rattle.task_pool.specs.declared.slot.Slot.{Slot}
use Rattle.task_pool.specs.declared.slot.SlotOwner.{SlotOwner}
use Rattle.task_pool.specs.declared.slot.SlotWorker.{SlotWorker}
use Rattle.task_pool.specs.Batch.{AreDone}
use Rattle.task_pool.specs.Known.{AreAllLaid, AreClosed, AreEmpty, AreFreeTo, AreLaid, AreTakenBack, AreWorkersOf, FitSlots, IsFreeWorkerOf, IsOpen, finds_closed, found_closed, has_closed}
use Rattle.task_pool.specs.Laying.{AreClosing}
use Rattle.task_pool.specs.Places.{IsBack}
use Rattle.task_pool.specs.Threads.{AreThreadsOf}

-- what a slice of a whole list is written back as
pub written : {A : Type 0} (xs ys : List A) (n : ℕ) → length ys ≡ n → take n (ys ++ drop (length ys) xs) ≡ ys
written xs ys n is = subst (λ k. take k (ys ++ drop (length ys) xs) ≡ ys) is (take-append_seam ys (drop (length ys) xs))

-- what holds at each place, after one element changed
at-set : {A : Type 0} (P : ℕ → A → Type 0) (xs : List A) (k : ℕ) (x d : A) → k < length xs → P k x → ((j : ℕ) → j < length xs → j ≢ k → P j (get_or xs j d)) → (j : ℕ) → j < length xs → P j (get_or (set xs k x) j d)
at-set {A = A} P xs k x d in' new old j below = dite (ℕ_discrete j k)
    (λ same. subst (λ (z : ℕ × A). P z.0 z.1) (λ i. (sym same i, sym (get_or-set_at xs k j x d same in') i)) new)
    (λ apart. subst (P j) (sym (get_or-set_other xs k j x d apart)) (old j below apart))

-- and after one more
at-more : {A : Type 0} (P : ℕ → A → Type 0) (xs : List A) (x d : A) → P (length xs) x → ((j : ℕ) → j < length xs → P j (get_or xs j d)) → (j : ℕ) → j < length xs + 1 → P j (get_or (xs ++ x ∷ []) j d)
at-more {A = A} P xs x d new old j below = elim (cases_lt j (length xs)) [
  | inl inside ↦ subst (P j) (sym (get_or_append_left xs (x ∷ []) d j inside)) (old j inside)
  | inr past ↦
      let at : j ≡ length xs = omega arith in
      subst (λ (z : ℕ × A). P z.0 z.1) (λ i. (sym at i, sym (ap (λ n. get_or (xs ++ x ∷ []) n d) at ∙ get_or-append_seam xs x [] d) i)) new
]

module _ {T : Type 0} where
  -- one end changed, and fits still
  pub set-fits : {A : Type 0} (Fits : Slot T → A → Type 0) (slots : List (Slot T)) (ends : List A) (k : ℕ) (slot : Slot T) (x : A) → k < length slots → slot ≡ get_or slots k slot → Fits slot x → FitSlots Fits slots ends → FitSlots Fits slots (set ends k x)
  set-fits Fits slots ends k slot x below is fits old = record {
    count = length-set ends k x ∙ old.count;
    each = λ j s e inside.
        let count = old.count in
        at-set (λ n a. Fits (get_or slots n s) a) ends k x e (omega arith) (subst (λ z. Fits z x) (is ∙ get_or_default slots k slot s below) fits) (λ n less _. old.each n s e (omega arith)) j (omega arith);
  }

  -- a task is laid in each slot
  pub all-laid : (tasks : List T) (owners : List (SlotOwner T)) → AreLaid tasks owners → AreAllLaid owners
  all-laid [] owners is k owner below none = let count = is.count in absurd (omega arith)
  all-laid (t ∷ ts) owners is k owner below none = none-some _ (sym none ∙ is.each k t owner below)

  -- what came back is what became of the tasks
  pub all-done : (done : T → T → Type 0) (tasks : List T) (owners : List (SlotOwner T)) (after : List T) → AreLaid tasks owners → AreTakenBack done owners after → AreDone done tasks after
  all-done done tasks [] after is back = record {
    count = back.count ∙ is.count;
    each = λ k x y below. let count = is.count in absurd (omega arith);
  }
  all-done done tasks (o ∷ os) after is back = record {
    count = back.count ∙ is.count;
    each = λ k x y below.
        let count = is.count in
        let inside : k < length (o ∷ os) = omega arith in
        subst (λ l. IsBack done l (get_or after k y)) (is.each k x o inside) (back.each k y o inside);
  }

  -- one more slot, with its end
  pub more-fits : {A : Type 0} (Fits : Slot T → A → Type 0) (slots : List (Slot T)) (ends : List A) (slot : Slot T) (x : A) → Fits slot x → FitSlots Fits slots ends → FitSlots Fits (slots ++ slot ∷ []) (ends ++ x ∷ [])
  more-fits {A = A} Fits slots ends slot x fits old = record {
    count = length-append ends (x ∷ []) ∙ ap (λ n. n + 1) old.count ∙ sym (length-append slots (slot ∷ []));
    each = λ j s e inside.
        let count = old.count in
        let long : length (slots ++ slot ∷ []) ≡ length slots + 1 = length-append slots (slot ∷ []) in
        at-more (λ n a. Fits (get_or (slots ++ slot ∷ []) n s) a) ends x e
        (subst (λ z. Fits z x) (sym (ap (λ n. get_or (slots ++ slot ∷ []) n s) old.count ∙ get_or-append_seam slots slot [] s)) fits)
        (λ n less. subst (λ z. Fits z (get_or ends n e)) (sym (get_or_append_left slots (slot ∷ []) s n (omega arith))) (old.each n s e (omega arith)))
        j (omega arith);
  }

  -- a slot stays open and empty
  pub set-empty : (owners : List (SlotOwner T)) (k : ℕ) (x : SlotOwner T) → IsOpen x → AreEmpty owners → AreEmpty (set owners k x)
  set-empty owners k x free old j e inside = let long : length (set owners k x) ≡ length owners = length-set owners k x in elim (cases_lt k (length owners)) [
    | inl below ↦ at-set (λ _ a. IsOpen a) owners k x e below free (λ n less _. old n e less) j (omega arith)
    | inr past ↦
        let less : j < length owners = omega arith in
        let apart : j ≢ k = λ same. omega arith in
        subst IsOpen (sym (get_or-set_other owners k j x e apart)) (old j e less)
  ]

  -- one more is empty
  pub more-empty : (owners : List (SlotOwner T)) (x : SlotOwner T) → IsOpen x → AreEmpty owners → AreEmpty (owners ++ x ∷ [])
  more-empty owners x free old j e inside = let long : length (owners ++ x ∷ []) ≡ length owners + 1 = length-append owners (x ∷ []) in
      at-more (λ _ a. IsOpen a) owners x e free (λ n less. old n e less) j (omega arith)

  -- one more slot is closed
  pub set-closed : (place : ℕ) (owners : List (SlotOwner T)) (x : SlotOwner T) → place < length owners → has_closed x ≡ true → AreClosing place owners → AreClosing (place + 1) (set owners place x)
  set-closed place owners x below shut old = record {
    closed = λ k e before. dite (ℕ_discrete k place)
        (λ same. subst (λ n. has_closed (get_or (set owners place x) n e) ≡ true) (sym same) (ap has_closed (get_or-set_at owners place place x e refl below) ∙ shut))
        (λ apart. ap has_closed (get_or-set_other owners place k x e apart) ∙ old.closed k e (omega arith));
    others = λ k e past inside.
        let long : length (set owners place x) ≡ length owners = length-set owners place x in
        subst IsOpen (sym (get_or-set_other owners place k x e (λ same. omega arith))) (old.others k e (omega arith) (omega arith));
  }

  -- all are
  pub all-closed : (place : ℕ) (owners : List (SlotOwner T)) → place ≡ length owners → AreClosing place owners → AreClosed owners
  all-closed place owners at old k e inside = old.closed k e (omega arith)

  -- the first end looked
  pub first-found : (workers : List (SlotWorker T)) (x : SlotWorker T) → 0 < length workers → finds_closed (set workers 0 x) ≡ found_closed x
  first-found [] x below = absurd (omega arith)
  first-found (w ∷ ws) x below = refl

  -- one more worker's end
  pub more-free : (place : ℕ) (slots : List (Slot T)) (workers : List (SlotWorker T)) (slot : Slot T) (x : SlotWorker T) → place < length slots → slot ≡ get_or slots place slot → IsFreeWorkerOf slot x → AreFreeTo place slots workers → AreFreeTo (place + 1) slots (workers ++ x ∷ [])
  more-free place slots workers slot x below is free old = record {
    count = length-append workers (x ∷ []) ∙ ap (λ n. n + 1) old.count;
    each = λ j s e inside.
        let count = old.count in
        at-more (λ n a. IsFreeWorkerOf (get_or slots n s) a) workers x e
        (subst (λ z. IsFreeWorkerOf z x) (is ∙ get_or_default slots place slot s below ∙ ap (λ n. get_or slots n s) (sym old.count)) free)
        (λ n less. old.each n s e (omega arith))
        j (omega arith);
  }

  -- all have one
  pub all-free : (place : ℕ) (slots : List (Slot T)) (workers : List (SlotWorker T)) → place ≡ length slots → AreFreeTo place slots workers → AreWorkersOf slots workers
  all-free place slots workers at old = record {
    count = old.count ∙ at;
    each = λ j s e inside. old.each j s e (omega arith);
  }

  -- one more thread
  pub more-threads : (slots : List (Slot T)) (others : List (PoolThread T)) (thread : PoolThread T) → AreThreadsOf slots others → AreWorkersOf slots thread.workers.items → AreThreadsOf slots (others ++ thread ∷ [])
  more-threads slots others thread old new = All-append (λ (t : PoolThread T). AreWorkersOf slots t.workers.items) others (thread ∷ []) old alone
    where
      alone : AreThreadsOf slots (thread ∷ [])
      alone zero d below = new
      alone (suc k) d below = absurd (omega arith)

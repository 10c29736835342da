-- The walk over the records of a text.
use Rattle.std.specs.Prelude.{◌≡◌, ◌≢◌, ℕ, ◌+◌, ◌<◌, ◌^◌, ◌⊎◌, Bool, List, ◌++◌, ◌∷◌, length}
use Rattle.std.specs.Bool.{MatchBool}
use Rattle.std.specs.declared.alloc.AllocError.{AllocError}
use Rattle.record_text.specs.Faults.{HasAfterHeader, IsFirstFault}

-- where some records after the first are taken, and one is left, they are fewer than 2^32 with that one
abbrev pub AreCounted : {X S : Type 0} → (List X → S → Type 0) → List X → Type 0
AreCounted {X} {S} has_taken all =
    (header : X) (front : List X) (here : X) (rest : List X) (taker : S) → all ≡ header ∷ (front ++ here ∷ rest)
    → has_taken front taker → length front + 1 < 2 ^ 32

-- this is the fault of the first of these records that is not taken
abbrev pub IsFaultAmong : {X S F : Type 0} → (List X → S → Type 0) → (S → X → ℕ → F → Type 0) → F → List X → Type 0
IsFaultAmong has_taken at_fault fault all =
    (number : ℕ) × IsFirstFault has_taken all number (λ taker here. at_fault taker here number fault)

-- the fault is out of memory, or else this holds
abbrev pub OrMemory : {F : Type 0} → (AllocError → F → Type 0) → F → Type 0 → Type 0
OrMemory memory fault fact = ((e : AllocError) × memory e fault) ⊎ fact

-- all records after the header were taken, or the first is no header
abbrev pub AreTakenIf : {X S : Type 0} → X → (List X → S → Type 0) → List X → S → Bool → Type 0
AreTakenIf {X} header has_taken all taker found =
    MatchBool found (HasAfterHeader header all (λ records. has_taken records taker))
    ((records : List X) → all ≢ header ∷ records)

-- The walk over the records of a text.
use Rattle.std.proofs.Common.{◌≡◌, ℕ, ◌+◌, ◌<◌, ◌≤◌, ◌^◌, Bool, true, List, [], ◌∷◌, ◌++◌, length, refl, sym, ap, ◌∙◌, inr, arith, append_assoc, append-nil, length-append}
use Rattle.std.specs.declared.alloc.AllocError.{AllocError}
use Rattle.record_text.specs.Faults.{HasAfterHeader}
use Rattle.record_text.specs.Walks.{AreCounted, AreTakenIf, IsFaultAmong, OrMemory}

-- the records after the header that were taken, with their number, and those that are left
pub record HasWalked {X S : Type 0} (header : X) (has_taken : List X → S → Type 0) (all : List X) (number : ℕ) (left : List X) (taker : S) : Type 0 where
  pub records : List X
  pub are : all ≡ header ∷ (records ++ left)
  pub counted : number ≡ length records
  pub taken : has_taken records taker

module _ {X S : Type 0} (header : X) (has_taken : List X → S → Type 0) (all : List X) where
  -- the header alone was read
  pub walked-none : (first : X) (left : List X) (taker : S) → all ≡ first ∷ left → first ≡ header → has_taken [] taker → HasWalked header has_taken all 0 left taker
  walked-none first left taker are is none = record { records = []; are = are ∙ ap (λ x. x ∷ left) is; counted = refl; taken = none }

  -- what is left begins with a record
  pub walked-at : (number : ℕ) (left : List X) (here : X) (rest : List X) (taker : S) → left ≡ here ∷ rest → HasWalked header has_taken all number left taker → HasWalked header has_taken all number (here ∷ rest) taker
  walked-at number left here rest taker same walked = rw same at walked

  -- nothing is left
  pub walked-all : (number : ℕ) (left : List X) (taker : S) → left ≡ [] → HasWalked header has_taken all number left taker → HasAfterHeader header all (λ records. has_taken records taker)
  walked-all number left taker none walked =
      record { records = walked.records; are = walked.are ∙ ap (λ l. header ∷ (walked.records ++ l)) none ∙ ap (λ l. header ∷ l) (append-nil walked.records); after = walked.taken }

  module _ (number : ℕ) (here : X) (rest : List X) (taker : S) (walked : HasWalked header has_taken all number (here ∷ rest) taker) where
    -- one record more can be counted
    pub walked-few : AreCounted has_taken all → number + 1 < 2 ^ 32
    walked-few few = omega (arith, few header walked.records here rest taker walked.are walked.taken, walked.counted)

    -- one record more
    pub walked-more : (new : S) → ((records : List X) → has_taken records taker → has_taken (records ++ here ∷ []) new) → HasWalked header has_taken all (number + 1) rest new
    walked-more new more = record {
      records = walked.records ++ here ∷ [];
      are = walked.are ∙ ap (λ l. header ∷ l) (sym (append_assoc walked.records (here ∷ []) rest));
      counted = omega (arith, walked.counted, length-append walked.records (here ∷ []));
      taken = more walked.records walked.taken;
    }

    -- the record is at fault
    pub walked-stop : {F : Type 0} (memory : AllocError → F → Type 0) (at_fault : S → X → ℕ → F → Type 0) (fault : F) → at_fault taker here (number + 1) fault → OrMemory memory fault (HasAfterHeader header all (IsFaultAmong has_taken at_fault fault))
    walked-stop memory at_fault fault is = inr (record {
      records = walked.records ++ here ∷ rest;
      are = walked.are;
      after = (number + 1, record { before = walked.records; here = here; after = rest; are = refl; counted = omega (arith, walked.counted); so_far = taker; reads = walked.taken; faulty = is });
    })

-- all records after the header were taken
pub taken-after : {X S : Type 0} (header : X) (has_taken : List X → S → Type 0) (all : List X) (taker : S) (found : Bool) → found ≡ true → AreTakenIf header has_taken all taker found → HasAfterHeader header all (λ records. has_taken records taker)
taken-after header has_taken all taker found yes_is taken = rw yes_is at taken

-- records that are few are counted
pub counted-few : {X S : Type 0} (has_taken : List X → S → Type 0) (all : List X) → length all ≤ 2 ^ 32 → AreCounted has_taken all
counted-few has_taken all few = λ header front here rest taker are taken. let count = ap length are in omega (arith, few, count, length-append front (here ∷ rest))

-- Reading one after another, as the loops do: what was read before, and what is still read; what they take, and that
-- what was written is read.
use Rattle.std.proofs.Common.{◌≡◌, ℕ, zero, suc, ◌+◌, ◌-◌, ◌<◌, ◌≤◌, List, [], ◌∷◌, ◌++◌, length, Option, Some, None, refl, sym, ap, ◌∙◌, append_assoc, length-append, arith}
use Rattle.std.specs.List.{flat_map, AllByRecursion}
use Rattle.std.specs.Option.{option_map_or}
use Rattle.std.proofs.lemmas.List.{append-nil}
use Rattle.text_lines.specs.Many.{many_at}

-- what was read before, in front of what is still read
abbrev pub after : {A : Type 0} → List A → List A × List ℕ → List A × List ℕ
after front read = (front ++ read.0, read.1)

-- one more of it was read
pub regroup : {A : Type 0} (front : List A) (x : A) (read : List A × List ℕ) → after front (x ∷ read.0, read.1) ≡ after (front ++ x ∷ []) read
regroup {A} front x read = ap (λ (xs : List A). (xs, read.1)) (sym (append_assoc front (x ∷ []) read.0))

-- the loop reads one more
pub many_go_on : {A : Type 0} (read : List ℕ → Option (A × List ℕ)) (front : List A) (most : ℕ) (bytes : List ℕ) (x : A) (rest : List ℕ) (total : List A × List ℕ) → length front < most → read bytes ≡ Some (x, rest)
    → after front (many_at read (most - length front) bytes) ≡ total → after (front ++ x ∷ []) (many_at read (most - (length front + 1)) rest) ≡ total
unfolding many_at
many_go_on read front most bytes x rest total lt h so_far =
    let k : most - length front ≡ suc (most - (length front + 1)) = omega arith in
    let one : after front (many_at read (most - length front) bytes) ≡ after (front ++ x ∷ []) (many_at read (most - (length front + 1)) rest) =
    rw (k, h) (regroup front x (many_at read (most - (length front + 1)) rest)) in
    sym one ∙ so_far

-- where no further one follows
pub many_stop : {A : Type 0} (read : List ℕ → Option (A × List ℕ)) (most : ℕ) (bytes : List ℕ) → read bytes ≡ None → many_at read most bytes ≡ ([], bytes)
unfolding many_at
many_stop read zero bytes h = refl
many_stop read (suc most) bytes h = rw h refl

-- and ends
pub many_end : {A : Type 0} (read : List ℕ → Option (A × List ℕ)) (front : List A) (most : ℕ) (bytes : List ℕ) (total : List A × List ℕ) → read bytes ≡ None → after front (many_at read most bytes) ≡ total → total ≡ (front, bytes)
many_end {A} read front most bytes total h so_far =
    sym so_far ∙ ap (after front) (many_stop read most bytes h) ∙ ap (λ (xs : List A). (xs, bytes)) (append-nil front)

-- what is read, each with its text
pub record TakesMany {A : Type 0} (text : A → List ℕ) (fits : A → Type 0) (bytes : List ℕ) (x : List A × List ℕ) : Type 0 where
  pub spelled : bytes ≡ flat_map text x.0 ++ x.1
  pub small : AllByRecursion fits x.0

module _ {A : Type 0} (read : List ℕ → Option (A × List ℕ)) (text : A → List ℕ) (fits : A → Type 0) where
  -- what is read is the texts at the front
  pub many_take : ((bytes : List ℕ) (x : A × List ℕ) → read bytes ≡ Some x → (bytes ≡ text x.0 ++ x.1) × fits x.0) → (most : ℕ) (bytes : List ℕ) → TakesMany text fits bytes (many_at read most bytes)
  unfolding many_at
  many_take takes zero bytes = record { spelled = refl; small = tt }
  many_take takes (suc most) bytes = by_first (read bytes) refl (many_take takes most)
    where
      by_first : (o : Option (A × List ℕ)) → read bytes ≡ o → ((rest : List ℕ) → TakesMany text fits rest (many_at read most rest))
          → TakesMany text fits bytes (option_map_or (λ first. let others = many_at read most first.1 in (first.0 ∷ others.0, others.1)) o ([], bytes))
      by_first None h more = record { spelled = refl; small = tt }
      by_first (Some first) h more =
          let one = takes bytes first h in
          let others = more first.1 in
          let tail = many_at read most first.1 in
          record {
            spelled = one.0 ∙ ap (λ (y : List ℕ). text first.0 ++ y) others.spelled ∙ sym (append_assoc (text first.0) (flat_map text tail.0) tail.1);
            small = (one.1, others.small);
          }

  -- what was written is read again
  pub many_again : ((x : A) (rest : List ℕ) → fits x → read (text x ++ rest) ≡ Some (x, rest)) → (xs : List A) (most : ℕ) (rest : List ℕ) → length xs ≤ most → AllByRecursion fits xs → read rest ≡ None
      → many_at read most (flat_map text xs ++ rest) ≡ (xs, rest)
  unfolding many_at
  many_again again [] most rest few all none = many_stop read most rest none
  many_again again (x ∷ xs) zero rest few all none = absurd (omega arith)
  many_again again (x ∷ xs) (suc most) rest few all none =
      let regrouped : flat_map text (x ∷ xs) ++ rest ≡ text x ++ (flat_map text xs ++ rest) = append_assoc (text x) (flat_map text xs) rest in
      ap (many_at read (suc most)) regrouped ∙ rw (again x (flat_map text xs ++ rest) all.0, many_again again xs most rest (omega arith) all.1 none) refl

-- each has a byte at least
pub few_texts : {A : Type 0} (text : A → List ℕ) → ((x : A) → 1 ≤ length (text x)) → (xs : List A) (rest : List ℕ) → length xs ≤ length (flat_map text xs ++ rest)
few_texts text some [] rest = omega arith
few_texts text some (x ∷ xs) rest =
    let more = few_texts text some xs rest in
    let regrouped = ap length (append_assoc (text x) (flat_map text xs) rest) in
    let sum = length-append (text x) (flat_map text xs ++ rest) in
    omega (arith, more, regrouped, sum, some x)

-- nothing further follows where as many were read as there can be
pub many_rest : {A : Type 0} (read : List ℕ → Option (A × List ℕ)) → ((bytes : List ℕ) (x : A × List ℕ) → read bytes ≡ Some x → length x.1 < length bytes) → (most : ℕ) (bytes : List ℕ) → length bytes ≤ most
    → read (many_at read most bytes).1 ≡ None
unfolding many_at
many_rest {A} read shorter zero bytes few = by_first (read bytes) refl
  where
    by_first : (o : Option (A × List ℕ)) → read bytes ≡ o → read bytes ≡ None
    by_first None h = h
    by_first (Some x) h = absurd (omega (arith, shorter bytes x h))
many_rest {A} read shorter (suc most) bytes few = by_first (read bytes) refl (many_rest read shorter most)
  where
    by_first : (o : Option (A × List ℕ)) → read bytes ≡ o → ((rest : List ℕ) → length rest ≤ most → read (many_at read most rest).1 ≡ None)
        → read (option_map_or {U = List A × List ℕ} (λ (first : A × List ℕ). let others = many_at read most first.1 in (first.0 ∷ others.0, others.1)) o ([], bytes)).1 ≡ None
    by_first None h more = h
    by_first (Some x) h more = more x.1 (omega (arith, shorter bytes x h))

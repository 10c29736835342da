-- The history of stamps with nodes in order.
use Rattle.std.proofs.Common.{◌≡◌, ℕ, zero, suc, ◌+◌, ◌<◌, ◌≤◌, false, ◌-◌, List, [], ◌∷◌, ◌++◌, map, length, take, get_or, set, refl, sym, ap, ◌∙◌, subst, inl, inr, arith, is_lt, nat_cmp, swap}
use Rattle.std.specs.Prelude.{Result, Ok, Err, IfOk, ◌⊎◌, AllPairs, IsPermutation}
use Rattle.std.specs.Cmp.{nat_cmp_is}
use Rattle.std.specs.List.Sorted.{apply_swaps, SwapsInRange}
use Rattle.std.specs.Ordering.{ordering_then}
use Rattle.std.specs.declared.cmp.Ordering.TheVariants.{Less, Equal}
use Rattle.std.proofs.Math.ListN.{get_or-map}
use Rattle.std.proofs.lemmas.Bool.{cases_lt, false≢true}
use Rattle.std.proofs.lemmas.List.{length-map, map-set, map-append, take_more, flat_map_more}
use Rattle.board_model.specs.declared.boards.BoardEvent.{BoardEvent}
use Rattle.board_model.specs.Boards.{Log}
use Rattle.histories.specs.Merges.{IsMerge, all_events, stamp_and_node}

-- the order of stamps with nodes
abbrev pub IsKeyBefore : ℕ × ℕ → ℕ × ℕ → Type 0
IsKeyBefore a b = (a.0 < b.0) ⊎ ((a.0 ≡ b.0) × (a.1 ≤ b.1))

pub trans : (a b c : ℕ × ℕ) → IsKeyBefore a b → IsKeyBefore b c → IsKeyBefore a c
trans a b c (inl p) (inl q) = inl (omega arith)
trans a b c (inl p) (inr q) = inl (omega arith)
trans a b c (inr p) (inl q) = inl (omega arith)
trans a b c (inr p) (inr q) = inr (p.0 ∙ q.0, omega arith)

no-less : (a b c d : ℕ) → is_lt (ordering_then (nat_cmp b a) (nat_cmp d c)) ≡ false → (a < b) ⊎ ((a ≡ b) × (c ≤ d))
no-less a b c d none = elim (cases_lt b a) [
  | inl less ↦ absurd (false≢true (sym none ∙ ap (λ o. is_lt (ordering_then o (nat_cmp d c))) (sym (nat_cmp_is b a Less less))))
  | inr more ↦ elim (cases_lt a b) [
    | inl less ↦ inl less
    | inr least ↦
        let same : b ≡ a = omega arith in
        inr (
          sym same,
          elim (cases_lt d c) [
            | inl less ↦ absurd (false≢true (sym none ∙ ap (λ o. is_lt (ordering_then o (nat_cmp d c))) (sym (nat_cmp_is b a Equal same)) ∙ ap is_lt (sym (nat_cmp_is d c Less less))))
            | inr fine ↦ fine
          ],
        )
  ]
]

module _ (keys : List (ℕ × ℕ)) (sorted : (k : ℕ) (d : ℕ × ℕ) → 0 ≤ k → k + 1 < length keys → is_lt (ordering_then (nat_cmp (get_or keys (k + 1) d).0 (get_or keys k d).0) (nat_cmp (get_or keys (k + 1) d).1 (get_or keys k d).1)) ≡ false) where
  step : (k : ℕ) (d : ℕ × ℕ) → k + 1 < length keys → IsKeyBefore (get_or keys k d) (get_or keys (k + 1) d)
  step k d inside = no-less (get_or keys k d).0 (get_or keys (k + 1) d).0 (get_or keys k d).1 (get_or keys (k + 1) d).1 (sorted k d (omega arith) inside)

  apart : (i more : ℕ) (d : ℕ × ℕ) → i + suc more < length keys → IsKeyBefore (get_or keys i d) (get_or keys (i + suc more) d)
  apart i zero d inside = subst (λ j. IsKeyBefore (get_or keys i d) (get_or keys j d)) (let e : i + 1 ≡ i + suc zero = omega arith in e) (step i d (omega arith))
  apart i (suc more) d inside =
      let next : i + suc more + 1 ≡ i + suc (suc more) = omega arith in
      trans (get_or keys i d) (get_or keys (i + suc more) d) (get_or keys (i + suc (suc more)) d) (apart i more d (omega arith))
      (subst (λ j. IsKeyBefore (get_or keys (i + suc more) d) (get_or keys j d)) next (step (i + suc more) d (omega arith)))

  pub in-order : AllPairs IsKeyBefore keys
  in-order i j d less inside =
      let e : i + suc (j - suc i) ≡ j = omega arith in
      subst (λ k. IsKeyBefore (get_or keys i d) (get_or keys k d)) e (apart i (j - suc i) d (omega arith))

-- what moves the images of a list moves the list
module _ {X Y : Type 0} (f : X → Y) where
  map-swap : (xs : List X) (i j : ℕ) → swap (map f xs) i j ≡ map f (swap xs i j)
  map-swap [] i j = refl
  map-swap (x ∷ xs) i j =
      ap (λ y. set (set (map f (x ∷ xs)) i y) j (get_or (map f (x ∷ xs)) i (f x))) (get_or-map f (x ∷ xs) j x)
      ∙ ap (λ y. set (set (map f (x ∷ xs)) i (f (get_or (x ∷ xs) j x))) j y) (get_or-map f (x ∷ xs) i x)
      ∙ ap (λ l. set l j (f (get_or (x ∷ xs) i x))) (sym (map-set f (x ∷ xs) i (get_or (x ∷ xs) j x)))
      ∙ sym (map-set f (set (x ∷ xs) i (get_or (x ∷ xs) j x)) j (get_or (x ∷ xs) i x))

  pub map-swaps : (xs : List X) (moves : List (ℕ × ℕ)) → apply_swaps (map f xs) moves ≡ map f (apply_swaps xs moves)
  map-swaps xs [] = refl
  map-swaps xs (m ∷ ms) = ap (λ l. swap l m.0 m.1) (map-swaps xs ms) ∙ map-swap (apply_swaps xs ms) m.0 m.1

-- the images of a list are in an order, so the list is
pub pairs-back : {X Y : Type 0} (f : X → Y) (R : Y → Y → Type 0) (xs : List X) → AllPairs R (map f xs) → AllPairs (λ a b. R (f a) (f b)) xs
pairs-back f R xs all i j d less inside =
    let long = length-map xs f in
    subst (R (f (get_or xs i d))) (get_or-map f xs j d) (subst (λ y. R y (get_or (map f xs) j (f d))) (get_or-map f xs i d) (all i j (f d) less (omega arith)))

-- the history of events, where their stamps with nodes were put in order
pub merged : (logs : List Log) (keys : List (ℕ × ℕ)) (h : List ℕ) → IsPermutation (map stamp_and_node (all_events logs)) keys → AllPairs IsKeyBefore keys → h ≡ map (λ pair. pair.1) keys → IsMerge logs h
merged logs keys h perm ordered nodes =
    let order : List BoardEvent = apply_swaps (all_events logs) perm.moves in
    let are : keys ≡ map stamp_and_node order = perm.is ∙ map-swaps stamp_and_node (all_events logs) perm.moves in
    record {
      order = order;
      all = record { moves = perm.moves; below = subst (λ n. SwapsInRange n perm.moves) (length-map (all_events logs) stamp_and_node) perm.below; is = refl };
      ordered = pairs-back stamp_and_node IsKeyBefore order (subst (AllPairs IsKeyBefore) are ordered);
      nodes = nodes ∙ ap (map (λ pair. pair.1)) are ∙ map-map order;
    }
  where
    map-map : (es : List BoardEvent) → map (λ pair. pair.1) (map stamp_and_node es) ≡ map (λ event. event.node) es
    map-map [] = refl
    map-map (e ∷ es) = ap (λ l. e.node ∷ l) (map-map es)

-- a log more
pub drawn-more : (logs : List Log) (i : ℕ) (d : Log) (old new : List (ℕ × ℕ)) → i < length logs → old ≡ map stamp_and_node (all_events (take i logs)) → new ≡ old ++ map stamp_and_node (get_or logs i d).events → new ≡ map stamp_and_node (all_events (take (i + 1) logs))
drawn-more logs i d old new inside was more =
    let e : all_events (take (i + 1) logs) ≡ all_events (take i logs) ++ (get_or logs i d).events = ap all_events (take_more logs i d inside) ∙ sym (flat_map_more (λ (log : Log). log.events) [] (take i logs) (get_or logs i d)) in
    more ∙ ap (λ l. l ++ map stamp_and_node (get_or logs i d).events) was ∙ sym (map-append stamp_and_node (all_events (take i logs)) (get_or logs i d).events) ∙ ap (map stamp_and_node) (sym e)

-- what holds of a value holds of the result
pub if-ok : {T E : Type 0} (P Q : T → Type 0) → ((x : T) → P x → Q x) → (r : Result T E) → IfOk r P → IfOk r Q
if-ok P Q more (Ok x) p = more x p
if-ok P Q more (Err e) p = p

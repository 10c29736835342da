-- The merge of logs, with the link of each event.
use Rattle.std.proofs.Common.{◌≡◌, ℕ, zero, suc, ◌+◌, ◌<◌, ◌≤◌, eqb, cond, Bool, true, false, List, [], ◌∷◌, ◌++◌, map, length, refl, sym, ap, ◌∙◌, subst, inl, inr, arith, eq-eqb, ne_eqb}
use Rattle.std.specs.Prelude.{All, AllPairs, IsPermutation, filter, slice_index_or, ◌&&◌}
use Rattle.std.specs.List.Sorted.{apply_swaps, SwapsInRange}
use Rattle.std.proofs.lemmas.Bool.{cases_eq, cases_Bool, false≢true}
use Rattle.std.proofs.lemmas.List.{append-nil, length-map, map-append}
use Rattle.std.proofs.lemmas.List.Concat.{flat_map-cons}
use Rattle.std.proofs.lemmas.List.Elements.{All-cons, All-nil, All-head, All-filter, All-weaker, filter-append, filter_passes}
use Rattle.std.proofs.lemmas.List.Kept.{AllPairs-filter}
use Rattle.std.proofs.lemmas.List.Sorted.{All-permutation, sum_by-IsPermutation}
use Rattle.std.proofs.lemmas.List.Sums.{length-filter}
use Rattle.board_model.specs.declared.boards.BoardEvent.{BoardEvent}
use Rattle.board_model.specs.declared.calls.Call.{Call}
use Rattle.board_model.specs.Boards.{Log}
use Rattle.board_model.specs.Calls.{calls_at, event_of, log_at, IsBefore, AreLogsOf}
use Rattle.histories.specs.Merges.{IsMerge, all_events}
use Rattle.histories.proofs.Lists.{filter-yes, filter-no, filter-none, filter-map, pairs-head, pairs-tail, pairs-map, same}
use Rattle.histories.proofs.Ordered.{map-swaps, pairs-back}
use Rattle.histories.specs.Calls.{IsRising}
use Rattle.histories.proofs.Marks.{Marked, AreMarked, IsMarkedMerge, apart, at_link, of_node}
use Rattle.histories.proofs.Nodes.{tag}

module _ {X : Type 0} (p : X → Bool) where
  -- where one passes a test, or none, what passes is it
  none-pass : (xs : List X) → filter p xs ≡ [] → All (λ x. p x ≡ true → ⊥) xs
  none-pass [] e = All-nil (λ x. p x ≡ true → ⊥)
  none-pass (x ∷ xs) e = elim (cases_Bool (p x)) [
    | inl yes' ↦ absurd (let f : x ∷ filter p xs ≡ [] = sym (filter-yes p x xs yes') ∙ e in cc)
    | inr no' ↦ All-cons (λ x. p x ≡ true → ⊥) x xs (λ t. false≢true (sym no' ∙ t)) (none-pass xs (sym (filter-no p x xs no') ∙ e))
  ]

  only-one : (one : X) (xs : List X) → filter p xs ≡ one ∷ [] → All (λ x. p x ≡ true → x ≡ one) xs
  only-one one [] e = absurd (let f : [] ≡ one ∷ [] = e in cc)
  only-one one (x ∷ xs) e = elim (cases_Bool (p x)) [
    | inl yes' ↦
        let f : x ∷ filter p xs ≡ one ∷ [] = sym (filter-yes p x xs yes') ∙ e in
        let here : x ≡ one = cc in
        let rest : filter p xs ≡ [] = cc in
        All-cons (λ x. p x ≡ true → x ≡ one) x xs (λ t. here) (All-weaker (λ x. p x ≡ true → ⊥) (λ x. p x ≡ true → x ≡ one) (λ y none t. absurd (none t)) xs (none-pass xs rest))
    | inr no' ↦ All-cons (λ x. p x ≡ true → x ≡ one) x xs (λ t. absurd (false≢true (sym no' ∙ t))) (only-one one xs (sym (filter-no p x xs no') ∙ e))
  ]

  -- where one at most passes a test, an order does not change what passes
  pub one-passes : (xs ys : List X) → IsPermutation xs ys → length (filter p xs) ≤ 1 → filter p ys ≡ filter p xs
  one-passes xs ys perm few = by (filter p xs) (filter p ys) refl refl
    where
      counted : length (filter p ys) ≡ length (filter p xs)
      counted = length-filter p ys ∙ sum_by-IsPermutation (λ x. cond (p x) 1 0) xs ys perm ∙ sym (length-filter p xs)

      by : (a b : List X) → filter p xs ≡ a → filter p ys ≡ b → filter p ys ≡ filter p xs
      by [] [] e f = f ∙ sym e
      by [] (b ∷ bs) e f = absurd (omega (arith, counted, ap length e, ap length f))
      by (a ∷ more) [] e f = absurd (omega (arith, counted, ap length e, ap length f))
      by (a ∷ []) (b ∷ []) e f =
          let all : All (λ y. p y ≡ true → y ≡ a) ys = All-permutation (λ y. p y ≡ true → y ≡ a) xs ys perm (only-one a xs e) in
          let mine : All (λ y. p y ≡ true → y ≡ a) (b ∷ []) = subst (All (λ y. p y ≡ true → y ≡ a)) f (All-filter p (λ y. p y ≡ true → y ≡ a) ys all) in
          let passes : All (λ y. p y ≡ true) (b ∷ []) = subst (All (λ y. p y ≡ true)) f (filter_passes p ys) in
          f ∙ ap (λ y. y ∷ []) (All-head (λ y. p y ≡ true → y ≡ a) b [] mine (All-head (λ y. p y ≡ true) b [] passes)) ∙ sym e
      by (a ∷ c ∷ more) (b ∷ bs) e f = absurd (omega (arith, few, ap length e))
      by (a ∷ []) (b ∷ c ∷ bs) e f = absurd (omega (arith, counted, ap length e, ap length f))

-- a test after a test
pub filter-both : {X : Type 0} (p q : X → Bool) (xs : List X) → filter p (filter q xs) ≡ filter (λ x. q x && p x) xs
filter-both p q [] = refl
filter-both p q (x ∷ xs) = case (filter-both p q xs) (q x) (p x) refl refl
  where
    case : filter p (filter q xs) ≡ filter (λ x. q x && p x) xs → (a b : Bool) → q x ≡ a → p x ≡ b → filter p (filter q (x ∷ xs)) ≡ filter (λ x. q x && p x) (x ∷ xs)
    case r true true a b = ap (filter p) (filter-yes q x xs a) ∙ filter-yes p x (filter q xs) b ∙ ap (λ l. x ∷ l) r ∙ sym (filter-yes (λ x. q x && p x) x xs (ap (λ c. c && p x) a ∙ b))
    case r true false a b = ap (filter p) (filter-yes q x xs a) ∙ filter-no p x (filter q xs) b ∙ r ∙ sym (filter-no (λ x. q x && p x) x xs (ap (λ c. c && p x) a ∙ b))
    case r false c a b = ap (filter p) (filter-no q x xs a) ∙ r ∙ sym (filter-no (λ x. q x && p x) x xs (ap (λ d. d && p x) a))

-- of rising calls one at most has a stamp
rising-one : (k : ℕ) (cs : List Call) → IsRising cs → length (filter (λ (c : Call). eqb c.stamp k) cs) ≤ 1
rising-one k [] rising = omega arith
rising-one k (c ∷ cs) rising = elim (cases_eq c.stamp k) [
  | inl here ↦
      let rest : filter (λ (d : Call). eqb d.stamp k) cs ≡ [] = filter-none (λ (d : Call). eqb d.stamp k) cs (All-weaker (λ (d : Call). c.stamp < d.stamp) (λ d. eqb d.stamp k ≡ false) (λ d less. ne_eqb d.stamp k (λ e. omega arith)) cs (pairs-head (λ (a b : Call). a.stamp < b.stamp) c cs rising)) in
      omega (arith, ap length (filter-yes (λ (d : Call). eqb d.stamp k) c cs (eq-eqb c.stamp k here)), ap length rest)
  | inr there ↦ omega (arith, ap length (filter-no (λ (d : Call). eqb d.stamp k) c cs (ne_eqb c.stamp k there)), rising-one k cs (pairs-tail (λ (a b : Call). a.stamp < b.stamp) c cs rising))
]

-- all events of all logs with their links; the first log is that of a link
abbrev pub mark_all : ℕ → List Log → List Marked
mark_all first [] = []
mark_all first (log ∷ logs) = map (tag first) log.events ++ mark_all (suc first) logs

all-tagged : (link : ℕ) (es : List BoardEvent) → map (λ (m : Marked). m.event) (map (tag link) es) ≡ es
all-tagged link [] = refl
all-tagged link (e ∷ es) = ap (λ l. e ∷ l) (all-tagged link es)

events-are : (first : ℕ) (logs : List Log) → map (λ (m : Marked). m.event) (mark_all first logs) ≡ all_events logs
events-are first [] = refl
events-are first (log ∷ logs) = map-append (λ (m : Marked). m.event) (map (tag first) log.events) (mark_all (suc first) logs) ∙ ap (λ l. l ++ map (λ (m : Marked). m.event) (mark_all (suc first) logs)) (all-tagged first log.events) ∙ ap (λ l. log.events ++ l) (events-are (suc first) logs) ∙ sym (flat_map-cons (λ (log : Log). log.events) log logs)

tagged-here : (link : ℕ) (es : List BoardEvent) → at_link link (map (tag link) es) ≡ map (tag link) es
tagged-here link [] = refl
tagged-here link (e ∷ es) = filter-yes (λ (m : Marked). eqb m.link link) (tag link e) (map (tag link) es) (eq-eqb link link refl) ∙ ap (λ l. tag link e ∷ l) (tagged-here link es)

tagged-else : (link own : ℕ) (es : List BoardEvent) → (own ≡ link → ⊥) → at_link link (map (tag own) es) ≡ []
tagged-else link own [] other = refl
tagged-else link own (e ∷ es) other = filter-no (λ (m : Marked). eqb m.link link) (tag own e) (map (tag own) es) (ne_eqb own link other) ∙ tagged-else link own es other

none-before : (link first : ℕ) (logs : List Log) → link < first → at_link link (mark_all first logs) ≡ []
none-before link first [] less = refl
none-before link first (log ∷ logs) less = filter-append (λ (m : Marked). eqb m.link link) (map (tag first) log.events) (mark_all (suc first) logs) ∙ ap (λ l. l ++ at_link link (mark_all (suc first) logs)) (tagged-else link first log.events (λ e. omega arith)) ∙ none-before link (suc first) logs (omega arith)

at-marked : (link first k : ℕ) (logs : List Log) → first + k ≡ link → at_link link (mark_all first logs) ≡ map (tag link) (log_at logs k)
at-marked link first k [] e = refl
at-marked link first zero (log ∷ logs) e =
    filter-append (λ (m : Marked). eqb m.link link) (map (tag first) log.events) (mark_all (suc first) logs)
    ∙ ap (λ l. at_link link (map (tag first) log.events) ++ l) (none-before link (suc first) logs (omega arith))
    ∙ append-nil (at_link link (map (tag first) log.events))
    ∙ ap (λ k. at_link link (map (tag k) log.events)) (let f : first ≡ link = omega arith in f)
    ∙ tagged-here link log.events
at-marked link first (suc k) (log ∷ logs) e =
    filter-append (λ (m : Marked). eqb m.link link) (map (tag first) log.events) (mark_all (suc first) logs)
    ∙ ap (λ l. l ++ at_link link (mark_all (suc first) logs)) (tagged-else link first log.events (λ f. omega arith))
    ∙ at-marked link (suc first) k logs (omega arith)

module _ (calls : ℕ → List Call) (logs : List Log) (tied : AreLogsOf calls (log_at logs)) (rising : (n : ℕ) → IsRising (calls n)) where
  abbrev base : List Marked
  base = mark_all 0 logs

  base-at : (l : ℕ) → at_link l base ≡ map (tag l) (log_at logs l)
  base-at l = at-marked l 0 l logs (omega arith)

  base-ordered : (l : ℕ) → AllPairs (λ a b. IsBefore a.event b.event) (at_link l base)
  base-ordered l = subst (AllPairs (λ (a b : Marked). IsBefore a.event b.event)) (sym (base-at l)) (pairs-map (tag l) (λ (a b : Marked). IsBefore a.event b.event) (log_at logs l) (tied l).ordered)

  -- at a link and of a node one at most has a stamp
  few-shape : (l n k : ℕ) → filter (λ (m : Marked). eqb m.event.stamp k) (of_node n (at_link l base)) ≡ map (tag l) (map (event_of n) (filter (λ (c : Call). eqb c.stamp k) (calls_at l (calls n))))
  few-shape l n k =
      ap (λ ms. filter (λ (m : Marked). eqb m.event.stamp k) (of_node n ms)) (base-at l)
      ∙ ap (filter (λ (m : Marked). eqb m.event.stamp k)) (filter-map (tag l) (λ (m : Marked). eqb m.event.node n) (log_at logs l) ∙ ap (map (tag l)) ((tied l).tied n))
      ∙ filter-map (tag l) (λ (m : Marked). eqb m.event.stamp k) (map (event_of n) (calls_at l (calls n)))
      ∙ ap (map (tag l)) (filter-map (event_of n) (λ (e : BoardEvent). eqb e.stamp k) (calls_at l (calls n)))

  base-one : (l n k : ℕ) → length (filter (λ (m : Marked). eqb m.event.stamp k) (of_node n (at_link l base))) ≤ 1
  base-one l n k =
      let few : List Call = filter (λ (c : Call). eqb c.stamp k) (calls_at l (calls n)) in
      subst (λ len. len ≤ 1) (sym (ap length (few-shape l n k) ∙ length-map (map (event_of n) few) (tag l) ∙ length-map few (event_of n))) (rising-one k (calls_at l (calls n)) (AllPairs-filter (λ (a b : Call). a.stamp < b.stamp) (λ (c : Call). eqb c.link l) (calls n) (rising n)))

  module _ (marks : List Marked) (perm : IsPermutation base marks) (ordered : AllPairs (λ a b. IsBefore a.event b.event) marks) where
    three-tests : (l n k : ℕ) (ms : List Marked) → filter (λ (m : Marked). eqb m.event.stamp k) (of_node n (at_link l ms)) ≡ filter (λ (m : Marked). (eqb m.link l && eqb m.event.node n) && eqb m.event.stamp k) ms
    three-tests l n k ms = ap (filter (λ (m : Marked). eqb m.event.stamp k)) (filter-both (λ (m : Marked). eqb m.event.node n) (λ (m : Marked). eqb m.link l) ms) ∙ filter-both (λ (m : Marked). eqb m.event.stamp k) (λ (m : Marked). eqb m.link l && eqb m.event.node n) ms

    stamp-part : (l n k : ℕ) → filter (λ (m : Marked). eqb m.event.stamp k) (of_node n (at_link l marks)) ≡ filter (λ (m : Marked). eqb m.event.stamp k) (of_node n (at_link l base))
    stamp-part l n k = three-tests l n k marks ∙ one-passes (λ (m : Marked). (eqb m.link l && eqb m.event.node n) && eqb m.event.stamp k) base marks perm (subst (λ len. len ≤ 1) (ap length (three-tests l n k base)) (base-one l n k)) ∙ sym (three-tests l n k base)

    stamps-rise : (n : ℕ) (ms : List Marked) → AllPairs (λ (a b : Marked). IsBefore a.event b.event) ms → AllPairs (λ (a b : Marked). a.event.stamp ≤ b.event.stamp) (of_node n ms)
    stamps-rise n ms all i j d less inside = weaker (slice_index_or (of_node n ms) i d) (slice_index_or (of_node n ms) j d) (AllPairs-filter (λ (a b : Marked). IsBefore a.event b.event) (λ (m : Marked). eqb m.event.node n) ms all i j d less inside)
      where
        weaker : (a b : Marked) → IsBefore a.event b.event → a.event.stamp ≤ b.event.stamp
        weaker a b (inl p) = omega arith
        weaker a b (inr p) = omega arith

    node-part : (l n : ℕ) → of_node n (at_link l marks) ≡ of_node n (at_link l base)
    node-part l n = same (λ (m : Marked). m.event.stamp) (λ (a b : Marked). a.event.stamp ≤ b.event.stamp) (λ (a b : Marked). a.event.stamp ≤ b.event.stamp) (λ a b other p q. other (omega arith))
        (of_node n (at_link l marks)) (of_node n (at_link l base))
        (stamps-rise n (at_link l marks) (AllPairs-filter (λ (a b : Marked). IsBefore a.event b.event) (λ (m : Marked). eqb m.link l) marks ordered))
        (stamps-rise n (at_link l base) (base-ordered l))
        (stamp-part l n)

    link-part : (l : ℕ) → at_link l marks ≡ at_link l base
    link-part l = same (λ (m : Marked). m.event.node) (λ (a b : Marked). IsBefore a.event b.event) (λ (a b : Marked). IsBefore a.event b.event) apart
        (at_link l marks) (at_link l base) (AllPairs-filter (λ (a b : Marked). IsBefore a.event b.event) (λ (m : Marked). eqb m.link l) marks ordered) (base-ordered l) (node-part l)

    are-marked : AreMarked (log_at logs) marks
    are-marked = record { ordered = ordered; each = λ l. ap (map (λ (m : Marked). m.event)) (link-part l ∙ base-at l) ∙ all-tagged l (log_at logs l) }

  -- the merge of the logs of calls has its events marked
  pub marked : (h : List ℕ) → IsMerge logs h → IsMarkedMerge (log_at logs) h
  marked h merge =
      let moves : List (ℕ × ℕ) = merge.all.moves in
      let marks : List Marked = apply_swaps base moves in
      let are : map (λ (m : Marked). m.event) marks ≡ merge.order = sym (map-swaps (λ (m : Marked). m.event) base moves) ∙ ap (λ es. apply_swaps es moves) (events-are 0 logs) ∙ sym merge.all.is in
      let long : length (all_events logs) ≡ length base = ap length (sym (events-are 0 logs)) ∙ length-map base (λ (m : Marked). m.event) in
      let perm : IsPermutation base marks = record { moves = moves; below = subst (λ n. SwapsInRange n moves) long merge.all.below; is = refl } in
      let ordered : AllPairs (λ (a b : Marked). IsBefore a.event b.event) marks = pairs-back (λ (m : Marked). m.event) IsBefore marks (subst (AllPairs IsBefore) (sym are) merge.ordered) in
      (marks, are-marked marks perm ordered, merge.nodes ∙ ap (map (λ (e : BoardEvent). e.node)) (sym are) ∙ node-nodes marks)
    where
      node-nodes : (ms : List Marked) → map (λ (e : BoardEvent). e.node) (map (λ (m : Marked). m.event) ms) ≡ map (λ (m : Marked). m.event.node) ms
      node-nodes [] = refl
      node-nodes (m ∷ ms) = ap (λ l. m.event.node ∷ l) (node-nodes ms)

-- The merge is lawful.
use Rattle.std.proofs.Common.{◌≡◌, ℕ, zero, suc, ◌<◌, ◌≤◌, eqb, ltb, not, Bool, true, false, List, [], ◌∷◌, ◌++◌, map, length, refl, sym, ap, ◌∙◌, ⊎_elim, arith, eq-eqb, append-nil}
use Rattle.std.specs.Prelude.{All, AllPairs, filter}
use Rattle.std.proofs.lemmas.Bool.{ltb-true, lt-ltb, le-ltb, not_from_false, not_from_true}
use Rattle.std.proofs.lemmas.List.{map-append, length-map}
use Rattle.std.proofs.lemmas.List.Elements.{All-map, All-weaker, filter-append}
use Rattle.std.proofs.lemmas.List.Kept.{AllPairs-filter}
use Rattle.board_model.specs.declared.calls.Call.{Call}
use Rattle.histories.specs.declared.steps.BoardStep.{BoardStep}
use Rattle.histories.specs.Calls.{step_of, AreStepRounds, IsLastRound}
use Rattle.histories.specs.Histories.{count, IsRound, HasRounds}
use Rattle.board_model.specs.Calls.{IsBefore}
use Rattle.std.proofs.lemmas.List.Sums.{length-filter}
use Rattle.histories.proofs.Marks.{Marked, of_node}
use Rattle.histories.proofs.Lists.{filter-yes, filter-all, filter-none, filter-comm, filter-map, cut}
use Rattle.histories.proofs.Nodes.{mark}

abbrev pub nodes : List Marked → List ℕ
nodes all = map (λ m. m.event.node) all

-- how often a node is in the history: once for each of its events
pub count-is : (n : ℕ) (all : List Marked) → count n (nodes all) ≡ length (of_node n all)
count-is n all = sym (length-filter (λ k. eqb k n) (nodes all)) ∙ ap length (filter-map (λ (m : Marked). m.event.node) (λ k. eqb k n) all) ∙ length-map (of_node n all) (λ (m : Marked). m.event.node)

-- where no node has an event there is none
no-event : (all : List Marked) → ((n : ℕ) → of_node n all ≡ []) → all ≡ []
no-event [] none = refl
no-event (m ∷ ms) none = absurd (let a : m ∷ of_node m.event.node ms ≡ [] = sym (filter-yes (λ (x : Marked). eqb x.event.node m.event.node) m ms (eq-eqb m.event.node m.event.node refl)) ∙ none m.event.node in cc)

abbrev pub ordered : List Marked → Type 0
ordered all = AllPairs (λ a b. IsBefore a.event b.event) all

-- the marked calls of a node, where the lists of calls are these
abbrev pub has : (ℕ → List Call) → List Marked → Type 0
has calls all = (n : ℕ) → of_node n all ≡ map (mark n) (calls n)

module _ (mark' : ℕ) where
  abbrev pub low : Marked → Bool
  low m = ltb m.event.stamp mark'

  low-down : (a b : Marked) → IsBefore a.event b.event → low b ≡ true → low a ≡ true
  low-down a b before l = let less = ltb-true b.event.stamp mark' l in lt-ltb a.event.stamp mark' (⊎_elim (λ s. omega arith) (λ (s : (a.event.stamp ≡ b.event.stamp) × (a.event.node ≤ b.event.node)). omega arith) before)

  module _ (n : ℕ) (early last : List Call) (below : All (λ c. c.stamp < mark') early) (above : All (λ c. mark' ≤ c.stamp) last) where
    low-calls : filter low (map (mark n) (early ++ last)) ≡ map (mark n) early
    low-calls = ap (filter low) (map-append (mark n) early last) ∙ filter-append low (map (mark n) early) (map (mark n) last)
        ∙ ap (λ l. l ++ filter low (map (mark n) last)) (filter-all low (map (mark n) early) (All-map (λ m. low m ≡ true) (mark n) early (All-weaker (λ (c : Call). c.stamp < mark') (λ c. ltb c.stamp mark' ≡ true) (λ c less. lt-ltb c.stamp mark' less) early below)))
        ∙ ap (λ l. map (mark n) early ++ l) (filter-none low (map (mark n) last) (All-map (λ m. low m ≡ false) (mark n) last (All-weaker (λ (c : Call). mark' ≤ c.stamp) (λ c. ltb c.stamp mark' ≡ false) (λ c less. le-ltb c.stamp mark' less) last above)))
        ∙ append-nil (map (mark n) early)

    high-calls : filter (λ m. not (low m)) (map (mark n) (early ++ last)) ≡ map (mark n) last
    high-calls = ap (filter (λ m. not (low m))) (map-append (mark n) early last) ∙ filter-append (λ m. not (low m)) (map (mark n) early) (map (mark n) last)
        ∙ ap (λ l. l ++ filter (λ m. not (low m)) (map (mark n) last)) (filter-none (λ m. not (low m)) (map (mark n) early) (All-map (λ m. not (low m) ≡ false) (mark n) early (All-weaker (λ (c : Call). c.stamp < mark') (λ c. not (ltb c.stamp mark') ≡ false) (λ c less. not_from_true (ltb c.stamp mark') (lt-ltb c.stamp mark' less)) early below)))
        ∙ filter-all (λ m. not (low m)) (map (mark n) last) (All-map (λ m. not (low m) ≡ true) (mark n) last (All-weaker (λ (c : Call). mark' ≤ c.stamp) (λ c. not (ltb c.stamp mark') ≡ true) (λ c less. not_from_false (ltb c.stamp mark') (le-ltb c.stamp mark' less)) last above))

module _ (steps : ℕ → List BoardStep) where
  -- the last round, cut off
  module _ (calls early last : ℕ → List Call) (at : ℕ) (round : IsLastRound steps at calls early last) (all : List Marked) (up : ordered all) (own : has calls all) where
    abbrev front : List Marked
    front = filter (low at) all

    abbrev back : List Marked
    back = filter (λ m. not (low at m)) all

    pub front-has : has early front
    front-has n = filter-comm (λ (m : Marked). eqb m.event.node n) (low at) all ∙ ap (filter (low at)) (own n ∙ ap (map (mark n)) (round.split n)) ∙ low-calls at n (early n) (last n) (round.below n) (round.above n)

    back-has : has last back
    back-has n = filter-comm (λ (m : Marked). eqb m.event.node n) (λ m. not (low at m)) all ∙ ap (filter (λ m. not (low at m))) (own n ∙ ap (map (mark n)) (round.split n)) ∙ high-calls at n (early n) (last n) (round.below n) (round.above n)

    pub is-round : IsRound steps (nodes back)
    is-round n = count-is n back ∙ ap length (back-has n) ∙ length-map (last n) (mark n) ∙ sym (length-map (last n) step_of) ∙ ap length (round.all n)

    pub in-two : nodes all ≡ nodes front ++ nodes back
    in-two = ap nodes (cut (λ (a b : Marked). IsBefore a.event b.event) (low at) (low-down at) all up) ∙ map-append (λ (m : Marked). m.event.node) front back

  pub lawful : (rounds : ℕ) (calls : ℕ → List Call) (all : List Marked) → AreStepRounds steps rounds calls → ordered all → has calls all → HasRounds steps rounds (nodes all)
  lawful zero calls all none up own = ap nodes (no-event all (λ n. own n ∙ ap (map (mark n)) (none n)))
  lawful (suc rounds) calls all (early, last, at, round, before) up own = (
    nodes (filter (low at) all),
    nodes (filter (λ m. not (low at m)) all),
    in-two calls early last at round all up own,
    is-round calls early last at round all up own,
    lawful rounds early (filter (low at) all) before (AllPairs-filter (λ (a b : Marked). IsBefore a.event b.event) (low at) all up) (front-has calls early last at round all up own),
  )

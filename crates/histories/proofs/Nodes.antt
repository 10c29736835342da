-- In the merge of their logs stand each node's own calls, in their order.
use Rattle.std.proofs.Common.{◌≡◌, ℕ, ◌<◌, ◌≤◌, eqb, true, List, [], ◌∷◌, map, refl, sym, ap, ◌∙◌, ⊎_elim, arith}
use Rattle.std.specs.Prelude.{All}
use Rattle.std.proofs.lemmas.Bool.{eqb-true}
use Rattle.std.proofs.lemmas.List.Elements.{All-head, All-tail, filter_passes, All-weaker}
use Rattle.std.proofs.lemmas.List.Kept.{AllPairs-filter}
use Rattle.board_model.specs.declared.boards.BoardEvent.{BoardEvent}
use Rattle.board_model.specs.Calls.{calls_at, event_of, IsBefore, AreLogsOf}
use Rattle.board_model.specs.declared.calls.Call.{Call}
use Rattle.histories.specs.Calls.{IsRising}
use Rattle.histories.proofs.Marks.{Marked, AreMarked, apart, at_link, of_node}
use Rattle.histories.proofs.Lists.{filter-comm, filter-map, pairs-map, same}

-- a call of a node, and an event of a link, with their marks
abbrev pub mark : ℕ → Call → Marked
mark node call = record { link = call.link; event = event_of node call }

abbrev pub tag : ℕ → BoardEvent → Marked
tag link event = record { link = link; event = event }

-- what is at one link is its events, tagged
retag : (l : ℕ) (ms : List Marked) → All (λ m. m.link ≡ l) ms → ms ≡ map (tag l) (map (λ m. m.event) ms)
retag l [] all = refl
retag l (m ∷ ms) all = ap (λ (k : ℕ). tag k m.event ∷ ms) (All-head (λ (m : Marked). m.link ≡ l) m ms all) ∙ ap (λ r. tag l m.event ∷ r) (retag l ms (All-tail (λ (m : Marked). m.link ≡ l) m ms all))

pub at-link-is : (l : ℕ) (ms : List Marked) (log : List BoardEvent) → map (λ m. m.event) (at_link l ms) ≡ log → at_link l ms ≡ map (tag l) log
at-link-is l ms log e = retag l (at_link l ms) (All-weaker (λ (m : Marked). eqb m.link l ≡ true) (λ m. m.link ≡ l) (λ m p. eqb-true m.link l p) (at_link l ms) (filter_passes (λ (m : Marked). eqb m.link l) ms)) ∙ ap (map (tag l)) e

-- the calls at one link
mark-is : (n l : ℕ) (cs : List Call) → All (λ c. c.link ≡ l) cs → map (mark n) cs ≡ map (tag l) (map (event_of n) cs)
mark-is n l [] all = refl
mark-is n l (c ∷ cs) all = ap (λ (k : ℕ). tag k (event_of n c) ∷ map (mark n) cs) (All-head (λ (c : Call). c.link ≡ l) c cs all) ∙ ap (λ r. tag l (event_of n c) ∷ r) (mark-is n l cs (All-tail (λ (c : Call). c.link ≡ l) c cs all))

pub at-mark : (n l : ℕ) (cs : List Call) → at_link l (map (mark n) cs) ≡ map (tag l) (map (event_of n) (calls_at l cs))
at-mark n l cs = filter-map (mark n) (λ (m : Marked). eqb m.link l) cs ∙ mark-is n l (calls_at l cs) (All-weaker (λ (c : Call). eqb c.link l ≡ true) (λ c. c.link ≡ l) (λ c p. eqb-true c.link l p) (calls_at l cs) (filter_passes (λ (c : Call). eqb c.link l) cs))

module _ (calls : ℕ → List Call) (logs : ℕ → List BoardEvent) (all : List Marked) (tied : AreLogsOf calls logs) (merged : AreMarked logs all) where
  -- at a link the merge has its log
  pub at-log : (l : ℕ) → at_link l all ≡ map (tag l) (logs l)
  at-log l = at-link-is l all (logs l) (merged.each l)

  one-link : (n l : ℕ) → at_link l (of_node n all) ≡ at_link l (map (mark n) (calls n))
  one-link n l =
      filter-comm (λ (m : Marked). eqb m.link l) (λ (m : Marked). eqb m.event.node n) all
      ∙ ap (of_node n) (at-log l)
      ∙ filter-map (tag l) (λ (m : Marked). eqb m.event.node n) (logs l)
      ∙ ap (map (tag l)) ((tied l).tied n)
      ∙ sym (at-mark n l (calls n))

  -- and of a node its calls
  pub of-node : (n : ℕ) → IsRising (calls n) → of_node n all ≡ map (mark n) (calls n)
  of-node n rising = same (λ (m : Marked). m.link) (λ (a b : Marked). IsBefore a.event b.event) (λ (a b : Marked). a.event.stamp < b.event.stamp)
      (λ a b other before after. ⊎_elim (λ less. omega arith) (λ (alike : (a.event.stamp ≡ b.event.stamp) × (a.event.node ≤ b.event.node)). omega arith) before)
      (of_node n all) (map (mark n) (calls n))
      (AllPairs-filter (λ (a b : Marked). IsBefore a.event b.event) (λ (m : Marked). eqb m.event.node n) all merged.ordered)
      (pairs-map (mark n) (λ (a b : Marked). a.event.stamp < b.event.stamp) (calls n) rising)
      (one-link n)

  -- so there is one merge of the logs
  pub one-merge : ((n : ℕ) → IsRising (calls n)) → (more : List Marked) → AreMarked logs more → ((n : ℕ) → of_node n all ≡ of_node n more) → all ≡ more
  one-merge rising more again parts = same (λ (m : Marked). m.event.node) (λ (a b : Marked). IsBefore a.event b.event) (λ (a b : Marked). IsBefore a.event b.event) apart all more merged.ordered again.ordered parts

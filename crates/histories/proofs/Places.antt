-- The step at a place of the history is that of its event.
use Rattle.std.proofs.Common.{◌≡◌, ℕ, zero, suc, ◌+◌, ◌*◌, ◌-◌, ◌<◌, ◌%◌, eqb, cond, Bool, List, [], ◌∷◌, ◌++◌, map, length, take, get_or, refl, sym, ap, ◌∙◌, inl, inr, arith, eq-eqb, length-append}
use Rattle.std.proofs.lemmas.Bool.{cases_lt}
use Rattle.std.proofs.lemmas.Nat.{mod-mul-add}
use Rattle.std.proofs.lemmas.List.{map-append, length-map, get_or_append_left, get_or-append-add, get_or_at, take_at}
use Rattle.std.proofs.lemmas.List.Elements.{filter-append}
use Rattle.histories.specs.declared.steps.BoardStep.TheVariants.{Read, Publish}
use Rattle.board_model.specs.declared.calls.Call.{Call}
use Rattle.histories.specs.declared.steps.BoardStep.{BoardStep}
use Rattle.histories.specs.Calls.{step_of, steps_of_rounds, AreStepRounds}
use Rattle.histories.specs.Histories.{count, step_at}
use Rattle.histories.proofs.EventKinds.{is-publish}
use Rattle.histories.proofs.Marks.{Marked, of_node, step_in}
use Rattle.histories.proofs.Lists.{filter-yes}
use Rattle.histories.proofs.Nodes.{mark}
use Rattle.histories.proofs.CallRounds.{nodes, count-is, has}

length-steps_of_rounds : (r : ℕ) (s : List BoardStep) → length (steps_of_rounds r s) ≡ r * length s
length-steps_of_rounds zero s = omega arith
length-steps_of_rounds (suc r) s = length-append (steps_of_rounds r s) s ∙ ap (λ n. n + length s) (length-steps_of_rounds r s) ∙ more r (length s)
  where
    more : (r n : ℕ) → r * n + n ≡ suc r * n
    more r n = omega arith

pub get-steps_of_rounds : (r : ℕ) (s : List BoardStep) (c : ℕ) (d : BoardStep) → c < length (steps_of_rounds r s) → get_or (steps_of_rounds r s) c d ≡ get_or s (c % length s) d
get-steps_of_rounds zero s c d inside = absurd (omega arith)
get-steps_of_rounds (suc r) s c d inside = elim (cases_lt c (length (steps_of_rounds r s))) [
  | inl old ↦ get_or_append_left (steps_of_rounds r s) s d c old ∙ get-steps_of_rounds r s c d old
  | inr new ↦
      let j : ℕ = c - length (steps_of_rounds r s) in
      let place : c ≡ length (steps_of_rounds r s) + j = omega arith in
      let long = length-append (steps_of_rounds r s) s in
      let small : j < length s = omega arith in
      let wrapped : c % length s ≡ j = ap (λ k. k % length s) (place ∙ ap (λ k. k + j) (length-steps_of_rounds r s)) ∙ mod-mul-add r (length s) j small in
      ap (λ k. get_or (steps_of_rounds r s ++ s) k d) place ∙ get_or-append-add (steps_of_rounds r s) s j d ∙ sym (ap (λ k. get_or s k d) wrapped)
]

-- the calls of a node are its steps again and again
pub steps-are : (steps : ℕ → List BoardStep) (rounds : ℕ) (calls : ℕ → List Call) → AreStepRounds steps rounds calls → (n : ℕ) → map step_of (calls n) ≡ steps_of_rounds rounds (steps n)
steps-are steps zero calls none n = ap (map step_of) (none n)
steps-are steps (suc rounds) calls (early, last, at, round, before) n = ap (map step_of) (round.split n) ∙ map-append step_of (early n) (last n) ∙ ap (λ l. l ++ map step_of (last n)) (steps-are steps rounds early before n) ∙ ap (λ l. steps_of_rounds rounds (steps n) ++ l) (round.all n)

pub step-in-mark : (n : ℕ) (c : Call) → step_in (mark n c) ≡ step_of c
step-in-mark n c = ap (λ (b : Bool). cond b (Publish c.link) (Read c.link)) (is-publish c.publishes c.version c.forecast)

pub steps-in-marks : (n : ℕ) (cs : List Call) → map step_in (map (mark n) cs) ≡ map step_of cs
steps-in-marks n [] = refl
steps-in-marks n (c ∷ cs) = ap (λ s. s ∷ map step_in (map (mark n) cs)) (step-in-mark n c) ∙ ap (λ l. step_of c ∷ l) (steps-in-marks n cs)

-- a place of a list, as a cut
pub own-cut : (before : List Marked) (m : Marked) (after : List Marked) → of_node m.event.node (before ++ m ∷ after) ≡ of_node m.event.node before ++ m ∷ of_node m.event.node after
own-cut before m after = filter-append (λ (x : Marked). eqb x.event.node m.event.node) before (m ∷ after) ∙ ap (λ l. of_node m.event.node before ++ l) (filter-yes (λ (x : Marked). eqb x.event.node m.event.node) m after (eq-eqb m.event.node m.event.node refl))

pub node-at : (before : List Marked) (m : Marked) (after : List Marked) → get_or (nodes (before ++ m ∷ after)) (length before) 0 ≡ m.event.node
node-at before m after = ap (λ l. get_or l (length before) 0) (map-append (λ (m : Marked). m.event.node) before (m ∷ after)) ∙ get_or_at (nodes before) m.event.node (nodes after) 0 (length before) (length-map before (λ (m : Marked). m.event.node))

pub count-at : (before : List Marked) (m : Marked) (after : List Marked) (n : ℕ) → count n (take (length before) (nodes (before ++ m ∷ after))) ≡ length (of_node n before)
count-at before m after n = ap (λ l. count n (take (length before) l)) (map-append (λ (m : Marked). m.event.node) before (m ∷ after)) ∙ ap (count n) (take_at (nodes before) (nodes (m ∷ after)) (length before) (length-map before (λ (m : Marked). m.event.node))) ∙ count-is n before

module _ (steps : ℕ → List BoardStep) (rounds : ℕ) (calls : ℕ → List Call) (turns : AreStepRounds steps rounds calls) where
  pub step-is : (before : List Marked) (m : Marked) (after : List Marked) → has calls (before ++ m ∷ after) → step_at steps (nodes (before ++ m ∷ after)) (length before) ≡ step_in m
  step-is before m after own =
      let all : List Marked = before ++ m ∷ after in
      let n : ℕ = m.event.node in
      let d : BoardStep = Read 0 in
      let c : ℕ = length (of_node n before) in
      let course : map step_in (of_node n all) ≡ steps_of_rounds rounds (steps n) = ap (map step_in) (own n) ∙ steps-in-marks n (calls n) ∙ steps-are steps rounds calls turns n in
      let parts : steps_of_rounds rounds (steps n) ≡ map step_in (of_node n before) ++ step_in m ∷ map step_in (of_node n after) = sym course ∙ ap (map step_in) (own-cut before m after) ∙ map-append step_in (of_node n before) (m ∷ of_node n after) in
      let there : length (map step_in (of_node n before)) ≡ c = length-map (of_node n before) step_in in
      let long : length (steps_of_rounds rounds (steps n)) ≡ length (map step_in (of_node n before)) + suc (length (map step_in (of_node n after))) = ap length parts ∙ length-append (map step_in (of_node n before)) _ in
      let inside : c < length (steps_of_rounds rounds (steps n)) = omega arith in
      ap (λ k. get_or (steps k) (count k (take (length before) (nodes all)) % length (steps k)) d) (node-at before m after)
      ∙ ap (λ k. get_or (steps n) (k % length (steps n)) d) (count-at before m after n)
      ∙ sym (get-steps_of_rounds rounds (steps n) c d inside)
      ∙ ap (λ l. get_or l c d) parts
      ∙ get_or_at (map step_in (of_node n before)) (step_in m) (map step_in (of_node n after)) d c there

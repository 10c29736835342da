-- The version that a Read has in the calls is that of its place in the history.
use Rattle.std.proofs.Common.{◌≡◌, ℕ, suc, ◌+◌, eqb, Bool, true, false, List, [], ◌∷◌, ◌++◌, map, length, take, refl, sym, ap, ◌∙◌, subst, arith, eq-eqb, append_assoc}
use Rattle.std.specs.Prelude.{filter, Some, IfSome, slice_get, ◌&&◌}
use Rattle.std.specs.List.{range_with_len}
use Rattle.std.proofs.lemmas.Bool.{and_right}
use Rattle.std.proofs.lemmas.List.{map-append, take_at}
use Rattle.std.proofs.lemmas.List.Elements.{filter-append}
use Rattle.board_model.specs.declared.boards.BoardEvent.{BoardEvent}
use Rattle.board_model.specs.declared.boards.BoardKind.{BoardKind}
use Rattle.board_model.specs.declared.boards.BoardKind.TheVariants.{Read, Publish}
use Rattle.board_model.specs.Boards.{IsLegal, IsReadOf, published, published_by, version_of}
use Rattle.board_model.specs.declared.calls.Call.{Call}
use Rattle.histories.specs.declared.steps.BoardStep.{BoardStep}
use Rattle.histories.specs.Steps.{is_publish_of}
use Rattle.histories.specs.Calls.{AreStepRounds}
use Rattle.histories.specs.Histories.{step_at, version_at}
use Rattle.std.proofs.lemmas.List.Sums.{length-filter}
use Rattle.histories.proofs.EventKinds.{is_publish}
use Rattle.histories.proofs.Marks.{Marked, AreMarked, at_link, publish-of, step_in}
use Rattle.histories.proofs.Lists.{filter-yes, filter-no}
use Rattle.histories.proofs.CallRounds.{nodes, has}
use Rattle.histories.proofs.Places.{step-is}

-- how many of a list pass a test, and how many of its places do
count-places : {X : Type 0} (p : X → Bool) (f : ℕ → Bool) (xs : List X) (a : ℕ) → ((before : List X) (x : X) (after : List X) → xs ≡ before ++ x ∷ after → f (a + length before) ≡ p x) → length (filter f (range_with_len a (length xs))) ≡ length (filter p xs)
count-places p f [] a agree = refl
count-places p f (x ∷ xs) a agree = case (count-places p f xs (a + 1) (λ before y after e. ap f (shift a (length before)) ∙ agree (x ∷ before) y after (ap (λ l. x ∷ l) e))) (p x) refl
  where
    shift : (a n : ℕ) → (a + 1) + n ≡ a + suc n
    shift a n = omega arith

    here : f a ≡ p x
    here = ap f (let z : a ≡ a + 0 = omega arith in z) ∙ agree [] x xs refl

    case : length (filter f (range_with_len (a + 1) (length xs))) ≡ length (filter p xs) → (b : Bool) → p x ≡ b → length (filter f (a ∷ range_with_len (a + 1) (length xs))) ≡ length (filter p (x ∷ xs))
    case r true b = ap length (filter-yes f a (range_with_len (a + 1) (length xs)) (here ∙ b)) ∙ ap suc r ∙ sym (ap length (filter-yes p x xs b))
    case r false b = ap length (filter-no f a (range_with_len (a + 1) (length xs)) (here ∙ b)) ∙ r ∙ sym (ap length (filter-no p x xs b))

-- the events of a list of marked ones
abbrev pub events : List Marked → List BoardEvent
events ms = map (λ m. m.event) ms

-- how many versions the events at a link publish
pub versions : (l : ℕ) (ms : List Marked) → version_of (events (at_link l ms)) ≡ length (filter (λ m. is_publish_of l (step_in m)) ms)
versions l [] = refl
versions l (m ∷ ms) = case (versions l ms) (eqb m.link l) refl
  where
    p : Marked → Bool
    p m = is_publish_of l (step_in m)

    kinds : (k : BoardKind) → m.event.kind ≡ k → eqb m.link l ≡ true → version_of (events (at_link l ms)) ≡ length (filter (λ m. is_publish_of l (step_in m)) ms) → length (published_by m.event.kind ++ published (events (at_link l ms))) ≡ length (filter (λ m. is_publish_of l (step_in m)) (m ∷ ms))
    kinds (Read v) e at r = ap (λ k. length (published_by k ++ published (events (at_link l ms)))) e ∙ r ∙ sym (ap length (filter-no (λ m. is_publish_of l (step_in m)) m ms (publish-of l m.link (is_publish m.event.kind) ∙ ap (λ k. is_publish k && eqb m.link l) e)))
    kinds (Publish f) e at r = ap (λ k. length (published_by k ++ published (events (at_link l ms)))) e ∙ ap suc r ∙ sym (ap length (filter-yes (λ m. is_publish_of l (step_in m)) m ms (publish-of l m.link (is_publish m.event.kind) ∙ ap (λ k. is_publish k && eqb m.link l) e ∙ at)))

    case : version_of (events (at_link l ms)) ≡ length (filter (λ m. is_publish_of l (step_in m)) ms) → (b : Bool) → eqb m.link l ≡ b → version_of (events (at_link l (m ∷ ms))) ≡ length (filter (λ m. is_publish_of l (step_in m)) (m ∷ ms))
    case r true b = ap (λ x. version_of (events x)) (filter-yes (λ (m : Marked). eqb m.link l) m ms b) ∙ kinds m.event.kind refl b r
    case r false b = ap (λ x. version_of (events x)) (filter-no (λ (m : Marked). eqb m.link l) m ms b) ∙ r ∙ sym (ap length (filter-no (λ m. is_publish_of l (step_in m)) m ms (publish-of l m.link (is_publish m.event.kind) ∙ and_right (is_publish m.event.kind) (eqb m.link l) b)))

-- what a log has at a place
pub get-at : {X : Type 0} (before : List X) (x : X) (after : List X) → slice_get (before ++ x ∷ after) (length before) ≡ Some x
get-at [] x after = refl
get-at (y ∷ ys) x after = get-at ys x after

pub read-at : (before : List BoardEvent) (event : BoardEvent) (after : List BoardEvent) → IsLegal (before ++ event ∷ after) → IsReadOf (version_of before) event.kind
read-at before event after legal =
    let r = legal.reads (length before) in
    subst (λ (b : List BoardEvent). IsReadOf (version_of b) event.kind) (take_at before (event ∷ after) (length before) refl)
    (subst (λ o. IfSome o (λ e. IsReadOf (version_of (take (length before) (before ++ event ∷ after))) e.kind)) (get-at before event after) r)

module _ (steps : ℕ → List BoardStep) (rounds : ℕ) (calls : ℕ → List Call) (turns : AreStepRounds steps rounds calls) (logs : ℕ → List BoardEvent) where
  -- the version at a place is how many versions the events before it publish
  version-at : (all before : List Marked) (m : Marked) (after : List Marked) → all ≡ before ++ m ∷ after → has calls all → (l : ℕ) → version_at steps (nodes all) l (length before) ≡ version_of (events (at_link l before))
  version-at all before m after e own l =
      sym (length-filter (λ k. is_publish_of l (step_at steps (nodes all) k)) (range_with_len 0 (length before)))
      ∙ count-places (λ m. is_publish_of l (step_in m)) (λ k. is_publish_of l (step_at steps (nodes all) k)) before 0
      (λ front x rest e'.
      let whole : all ≡ front ++ x ∷ (rest ++ m ∷ after) = e ∙ ap (λ (b : List Marked). b ++ m ∷ after) e' ∙ simp (append_assoc) in
      ap (λ k. is_publish_of l (step_at steps (nodes all) k)) (let z : 0 + length front ≡ length front = omega arith in z) ∙ ap (is_publish_of l) (ap (λ (a : List Marked). step_at steps (nodes a) (length front)) whole ∙ step-is steps rounds calls turns front x (rest ++ m ∷ after) (subst (has calls) whole own)))
      ∙ sym (versions l before)

  pub version-is : (all before : List Marked) (m : Marked) (after : List Marked) → AreMarked logs all → has calls all → IsLegal (logs m.link) → all ≡ before ++ m ∷ after → IsReadOf (version_at steps (nodes all) m.link (length before)) m.event.kind
  version-is all before m after merged own legal e =
      let l : ℕ = m.link in
      let at : at_link l all ≡ at_link l before ++ m ∷ at_link l after = ap (at_link l) e ∙ filter-append (λ (x : Marked). eqb x.link l) before (m ∷ after) ∙ ap (λ x. at_link l before ++ x) (filter-yes (λ (x : Marked). eqb x.link l) m after (eq-eqb l l refl)) in
      let log : logs l ≡ events (at_link l before) ++ m.event ∷ events (at_link l after) = sym (merged.each l) ∙ ap events at ∙ map-append (λ (x : Marked). x.event) (at_link l before) (m ∷ at_link l after) in
      subst (λ (v : ℕ). IsReadOf v m.event.kind) (sym (version-at all before m after e own l)) (read-at (events (at_link l before)) m.event (events (at_link l after)) (subst IsLegal log legal))

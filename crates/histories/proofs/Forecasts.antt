-- What a link's log publishes is what the link's node sent.
use Rattle.std.proofs.Common.{◌≡◌, ℕ, zero, suc, eqb, cond, Bool, true, false, List, [], ◌∷◌, ◌++◌, map, refl, sym, ap, ◌∙◌, inl, inr, eq-eqb, ne_eqb}
use Rattle.std.specs.Prelude.{filter, ◌&&◌, ◌≢◌}
use Rattle.std.proofs.lemmas.Bool.{cases_eq, and_right, and_left}
use Rattle.board_model.specs.declared.boards.BoardEvent.{BoardEvent}
use Rattle.board_model.specs.declared.boards.BoardKind.{BoardKind}
use Rattle.board_model.specs.declared.boards.BoardKind.TheVariants.{Read, Publish}
use Rattle.board_model.specs.Boards.{published, published_by}
use Rattle.board_model.specs.Calls.{calls_at, event_of, events_by, AreLogsOf}
use Rattle.board_model.specs.declared.calls.Call.{Call}
use Rattle.histories.specs.declared.steps.BoardStep.{BoardStep}
use Rattle.histories.specs.Steps.{is_publish_of}
use Rattle.histories.specs.Calls.{step_of, steps_of_rounds, AreStepRounds}
use Rattle.histories.specs.Places.{sent}
use Rattle.histories.proofs.EventKinds.{is_publish, is-publish}
use Rattle.histories.proofs.Marks.{publish-of}
use Rattle.histories.proofs.Lists.{filter-yes, filter-no, filter-comm, filter-map}
use Rattle.histories.proofs.Places.{steps-are}
use Rattle.std.proofs.lemmas.List.Elements.{filter-append}

-- the events that publish
abbrev pub publishing : List BoardEvent → List BoardEvent
publishing events = filter (λ e. is_publish e.kind) events

pub published-publishing : (es : List BoardEvent) → published es ≡ published (publishing es)
published-publishing [] = refl
published-publishing (e ∷ es) = case (published-publishing es) e.kind refl
  where
    case : published es ≡ published (publishing es) → (k : BoardKind) → e.kind ≡ k → published (e ∷ es) ≡ published (publishing (e ∷ es))
    case r (Read v) k = ap (λ x. published_by x ++ published es) k ∙ r ∙ sym (ap published (filter-no (λ (x : BoardEvent). is_publish x.kind) e es (ap is_publish k)))
    case r (Publish f) k = ap (λ x. published_by e.kind ++ x) r ∙ sym (ap published (filter-yes (λ (x : BoardEvent). is_publish x.kind) e es (ap is_publish k)))

-- where no other node has an event, all are of one
pub only : (f : ℕ) (es : List BoardEvent) → ((n : ℕ) → n ≢ f → events_by n es ≡ []) → events_by f es ≡ es
only f [] none = refl
only f (e ∷ es) none = elim (cases_eq e.node f) [
  | inl here ↦ filter-yes (λ (x : BoardEvent). eqb x.node f) e es (eq-eqb e.node f here) ∙ ap (λ l. e ∷ l) (only f es (λ n other. sym (filter-no (λ (x : BoardEvent). eqb x.node n) e es (ne_eqb e.node n (λ i. other (sym i ∙ here)))) ∙ none n other))
  | inr there ↦ absurd (let a : e ∷ events_by e.node es ≡ [] = sym (filter-yes (λ (x : BoardEvent). eqb x.node e.node) e es (eq-eqb e.node e.node refl)) ∙ none e.node there in cc)
]

-- the events of calls that publish
pub publishing-calls : (n l : ℕ) (cs : List Call) → publishing (map (event_of n) (calls_at l cs)) ≡ map (event_of n) (filter (λ c. is_publish_of l (step_of c)) cs)
publishing-calls n l [] = refl
publishing-calls n l (c ∷ cs) = case (publishing-calls n l cs) (eqb c.link l) c.publishes refl refl
  where
    p : Call → Bool
    p c = is_publish_of l (step_of c)

    case : publishing (map (event_of n) (calls_at l cs)) ≡ map (event_of n) (filter (λ c. is_publish_of l (step_of c)) cs) → (a b : Bool) → eqb c.link l ≡ a → c.publishes ≡ b → publishing (map (event_of n) (calls_at l (c ∷ cs))) ≡ map (event_of n) (filter (λ c. is_publish_of l (step_of c)) (c ∷ cs))
    case r true true a b = ap (λ x. publishing (map (event_of n) x)) (filter-yes (λ (x : Call). eqb x.link l) c cs a) ∙ filter-yes (λ (e : BoardEvent). is_publish e.kind) (event_of n c) (map (event_of n) (calls_at l cs)) (is-publish c.publishes c.version c.forecast ∙ b) ∙ ap (λ x. event_of n c ∷ x) r ∙ sym (ap (map (event_of n)) (filter-yes (λ x. is_publish_of l (step_of x)) c cs (publish-of l c.link c.publishes ∙ ap (λ x. x && eqb c.link l) b ∙ a)))
    case r true false a b = ap (λ x. publishing (map (event_of n) x)) (filter-yes (λ (x : Call). eqb x.link l) c cs a) ∙ filter-no (λ (e : BoardEvent). is_publish e.kind) (event_of n c) (map (event_of n) (calls_at l cs)) (is-publish c.publishes c.version c.forecast ∙ b) ∙ r ∙ sym (ap (map (event_of n)) (filter-no (λ x. is_publish_of l (step_of x)) c cs (publish-of l c.link c.publishes ∙ and_left c.publishes (eqb c.link l) b)))
    case r false b' a b = ap (λ x. publishing (map (event_of n) x)) (filter-no (λ (x : Call). eqb x.link l) c cs a) ∙ r ∙ sym (ap (map (event_of n)) (filter-no (λ x. is_publish_of l (step_of x)) c cs (publish-of l c.link c.publishes ∙ and_right c.publishes (eqb c.link l) a)))

-- what calls that publish have published
published-calls : (n l : ℕ) (cs : List Call) → published (map (event_of n) (filter (λ c. is_publish_of l (step_of c)) cs)) ≡ sent l cs
published-calls n l [] = refl
published-calls n l (c ∷ cs) = case (published-calls n l cs) c.publishes (is_publish_of l (step_of c)) refl refl
  where
    rest : List Call
    rest = filter (λ c. is_publish_of l (step_of c)) cs

    case : published (map (event_of n) rest) ≡ sent l cs → (b a : Bool) → c.publishes ≡ b → is_publish_of l (step_of c) ≡ a → published (map (event_of n) (filter (λ c. is_publish_of l (step_of c)) (c ∷ cs))) ≡ sent l (c ∷ cs)
    case r true true b a =
        ap (λ x. published (map (event_of n) x)) (filter-yes (λ x. is_publish_of l (step_of x)) c cs a)
        ∙ ap (λ (x : Bool). published_by (cond x (Publish c.forecast) (Read c.version)) ++ published (map (event_of n) rest)) b
        ∙ ap (λ x. c.forecast ∷ x) r
        ∙ sym (ap (map (λ (x : Call). x.forecast)) (filter-yes (λ x. is_publish_of l (step_of x)) c cs a))
    case r b' false b a = ap (λ x. published (map (event_of n) x)) (filter-no (λ x. is_publish_of l (step_of x)) c cs a) ∙ r ∙ sym (ap (map (λ (x : Call). x.forecast)) (filter-no (λ x. is_publish_of l (step_of x)) c cs a))
    case r false true b a = absurd (let f : is_publish_of l (step_of c) ≡ false = publish-of l c.link c.publishes ∙ and_left c.publishes (eqb c.link l) b in let g : true ≡ false = sym a ∙ f in cc)

-- each link is published by its own node alone
abbrev pub IsFrom : (ℕ → ℕ) → (ℕ → List BoardStep) → Type 0
IsFrom from steps = (link n : ℕ) → n ≢ from link → filter (is_publish_of link) (steps n) ≡ []

-- calls by steps
none-by-steps : (l : ℕ) (cs : List Call) → filter (is_publish_of l) (map step_of cs) ≡ [] → filter (λ c. is_publish_of l (step_of c)) cs ≡ []
none-by-steps l cs e = empty (filter (λ c. is_publish_of l (step_of c)) cs) (sym (filter-map step_of (is_publish_of l) cs) ∙ e)
  where
    empty : (xs : List Call) → map step_of xs ≡ [] → xs ≡ []
    empty [] e = refl
    empty (x ∷ xs) e = absurd (let f : step_of x ∷ map step_of xs ≡ [] = e in cc)

none-steps_of_rounds : (l r : ℕ) (s : List BoardStep) → filter (is_publish_of l) s ≡ [] → filter (is_publish_of l) (steps_of_rounds r s) ≡ []
none-steps_of_rounds l zero s none = refl
none-steps_of_rounds l (suc r) s none = filter-append (is_publish_of l) (steps_of_rounds r s) s ∙ ap (λ x. x ++ filter (is_publish_of l) s) (none-steps_of_rounds l r s none) ∙ none

module _ (steps : ℕ → List BoardStep) (rounds : ℕ) (calls : ℕ → List Call) (turns : AreStepRounds steps rounds calls) (from : ℕ → ℕ) (is-from : IsFrom from steps) (logs : ℕ → List BoardEvent) (tied : AreLogsOf calls logs) where
  by-node : (l n : ℕ) → events_by n (publishing (logs l)) ≡ map (event_of n) (filter (λ c. is_publish_of l (step_of c)) (calls n))
  by-node l n = filter-comm (λ (e : BoardEvent). eqb e.node n) (λ (e : BoardEvent). is_publish e.kind) (logs l) ∙ ap publishing ((tied l).tied n) ∙ publishing-calls n l (calls n)

  others : (l n : ℕ) → n ≢ from l → events_by n (publishing (logs l)) ≡ []
  others l n other = by-node l n ∙ ap (map (event_of n)) (none-by-steps l (calls n) (ap (filter (is_publish_of l)) (steps-are steps rounds calls turns n) ∙ none-steps_of_rounds l rounds (steps n) (is-from l n other)))

  pub published-is : (l : ℕ) → published (logs l) ≡ sent l (calls (from l))
  published-is l = published-publishing (logs l) ∙ ap published (sym (only (from l) (publishing (logs l)) (others l)) ∙ by-node l (from l)) ∙ published-calls (from l) l (calls (from l))

-- What the calls of the nodes tell, round by round.
use Rattle.std.proofs.Common.{◌≡◌, ℕ, zero, suc, ◌+◌, ◌-◌, ◌*◌, ◌/◌, ◌<◌, ◌≤◌, cond, Bool, true, false, List, [], ◌∷◌, ◌++◌, Some, All, length, map, filter, refl, sym, ap, subst, ◌∙◌, inl, inr, arith, length-append}
use Rattle.std.specs.Prelude.{◌⊎◌, Contains, slice_get}
use Rattle.std.specs.List.{range_with_len}
use Rattle.std.proofs.lemmas.List.{length-map, map-append}
use Rattle.std.proofs.lemmas.List.Elements.{All-filter, All-head, filter-append}
use Rattle.std.proofs.lemmas.List.FromFn.{map-range_with_len_more}
use Rattle.std.proofs.lemmas.Nat.{div-mul-add}
use Rattle.std.proofs.lemmas.Option.{get_or_from_slice_get, slice_get_within}
use Rattle.board_model.specs.declared.boards.Heard.{Heard}
use Rattle.board_model.specs.declared.calls.Call.{Call}
use Rattle.board_model.specs.declared.forecasts.Row.{Row}
use Rattle.histories.specs.Steps.{board_steps, is_publish_of}
use Rattle.histories.specs.declared.steps.BoardStep.{BoardStep}
use Rattle.histories.specs.declared.steps.BoardStep.TheVariants.{Read, Publish}
use Rattle.histories.proofs.Lists.{filter-map}
use Rattle.intersection_actor.specs.Commits.{Commitment}
use Rattle.histories.specs.Calls.{AreStepRounds, step_of, steps_of_rounds}
use Rattle.histories.specs.Places.{sent}
use Rattle.net_parts.specs.Numbers.{Net}
use Rattle.node_rounds.specs.Told.{AreCallsOf, heard_of}
use Rattle.runs.specs.Runs.{told_in}
use Rattle.node_rounds.specs.Rounds.{AreCallsIn}

-- a place of a list in two parts
pub in-parts : {X : Type 0} (xs ys : List X) (k : ℕ) (x : X) → slice_get (xs ++ ys) k ≡ Some x → ((k < length xs) × (slice_get xs k ≡ Some x)) ⊎ ((length xs ≤ k) × (slice_get ys (k - length xs) ≡ Some x))
in-parts [] ys k x e = inr ((omega arith), ap (slice_get ys) (let z : k - 0 ≡ k = omega arith in z) ∙ e)
in-parts (y ∷ xs) ys zero x e = inl ((omega arith), e)
in-parts (y ∷ xs) ys (suc k) x e = elim (in-parts xs ys k x e) [
  | inl first ↦ inl ((let z = first.0 in omega arith), first.1)
  | inr last ↦ inr ((let z = last.0 in omega arith), ap (slice_get ys) (let z : suc k - length (y ∷ xs) ≡ k - length xs = omega arith in z) ∙ last.1)
]

-- what holds of all holds of one
pub at-get : {X : Type 0} (P : X → Type 0) (xs : List X) (k : ℕ) (x : X) → All P xs → slice_get xs k ≡ Some x → P x
at-get P xs k x all e = subst P (get_or_from_slice_get xs k x x e) (all k x (slice_get_within xs k x e))

-- which step a call is
publish-link : (l link : ℕ) → Publish l ≡ Publish link → l ≡ link
publish-link l link e = cc

read-link : (l link : ℕ) → Read l ≡ Read link → l ≡ link
read-link l link e = cc

never-both : (l link : ℕ) → Publish l ≡ Read link → ⊥
never-both l link e = cc

step-is : (b c : Bool) (l link : ℕ) → cond b (Publish l) (Read l) ≡ cond c (Publish link) (Read link) → (b ≡ c) × (l ≡ link)
step-is true true l link e = (refl, publish-link l link e)
step-is true false l link e = absurd (never-both l link e)
step-is false true l link e = absurd (never-both link l (sym e))
step-is false false l link e = (refl, read-link l link e)

pub publish-is : (c : Call) (link : ℕ) → step_of c ≡ Publish link → (c.publishes ≡ true) × (c.link ≡ link)
publish-is c link e = step-is c.publishes true c.link link e

pub read-is : (c : Call) (link : ℕ) → step_of c ≡ Read link → (c.publishes ≡ false) × (c.link ≡ link)
read-is c link e = step-is c.publishes false c.link link e

-- a list of one
one-of : (cs : List Call) (s : BoardStep) → map step_of cs ≡ s ∷ [] → (c : Call) × (cs ≡ c ∷ []) × (step_of c ≡ s)
one-of [] s e = absurd (never e)
  where
    never : [] ≡ s ∷ [] → ⊥
    never e = cc
one-of (c ∷ []) s e = (c, refl, head e)
  where
    head : step_of c ∷ [] ≡ s ∷ [] → step_of c ≡ s
    head e = cc
one-of (c ∷ d ∷ cs) s e = absurd (never (ap length e))
  where
    never : suc (suc (length (map step_of cs))) ≡ suc 0 → ⊥
    never e = omega arith

module _ (net : Net) where
  -- the calls of a round, where what is heard and committed is the same
  pub calls-moved : (round node : ℕ) (heard seen : List Heard) (made other : Commitment) (calls : List Call) → heard ≡ seen → made ≡ other → AreCallsOf net round node heard made calls → AreCallsOf net round node seen other calls
  calls-moved round node heard seen made other calls h m are =
      subst (λ (c : Commitment). AreCallsOf net round node seen c calls) m (subst (λ (l : List Heard). AreCallsOf net round node l made calls) h are)

  -- of one round: what is sent on a link on which the node publishes once
  sent-once : (round node : ℕ) (heard : List Heard) (made : Commitment) (calls : List Call) (link : ℕ) → AreCallsOf net round node heard made calls
      → filter (is_publish_of link) (board_steps net node) ≡ Publish link ∷ [] → sent link calls ≡ told_in net round link made ∷ []
  sent-once round node heard made calls link are once =
      let picked : List Call = filter (λ c. is_publish_of link (step_of c)) calls in
      let steps : map step_of picked ≡ Publish link ∷ [] = sym (filter-map step_of (is_publish_of link) calls) ∙ ap (filter (is_publish_of link)) are.steps ∙ once in
      let (c, only, is) = one-of picked (Publish link) steps in
      let what = publish-is c link is in
      let told : All (λ call. call.publishes ≡ true → call.forecast ≡ told_in net round call.link made) picked = All-filter (λ c. is_publish_of link (step_of c)) (λ call. call.publishes ≡ true → call.forecast ≡ told_in net round call.link made) calls are.tells in
      let own : c.forecast ≡ told_in net round c.link made = All-head (λ call. call.publishes ≡ true → call.forecast ≡ told_in net round call.link made) c [] (subst (All (λ call. call.publishes ≡ true → call.forecast ≡ told_in net round call.link made)) only told) what.0 in
      ap (map (λ (c : Call). c.forecast)) only ∙ ap (λ (f : List Row). f ∷ []) (own ∙ ap (λ l. told_in net round l made) what.1)

-- what is heard and made is the same in the first rounds
pub in-moved : (net : Net) (heard seen : ℕ → ℕ → List Heard) (made other : ℕ → ℕ → Commitment) (rounds : ℕ) (calls : ℕ → List Call)
    → ((round node : ℕ) → round < rounds → heard round node ≡ seen round node) → ((round node : ℕ) → round < rounds → made round node ≡ other round node)
    → AreCallsIn net heard made rounds calls → AreCallsIn net seen other rounds calls
in-moved net heard seen made other zero calls h m are = are
in-moved net heard seen made other (suc rounds) calls h m (early, last, mark, is, before) = (
  early,
  last,
  mark,
  record {
    split = is.split;
    own = λ node. calls-moved net rounds node (heard rounds node) (seen rounds node) (made rounds node) (other rounds node) (last node) (h rounds node (omega arith)) (m rounds node (omega arith)) (is.own node);
    below = is.below;
    above = is.above;
  },
  in-moved net heard seen made other rounds early (λ round node less. h round node (omega arith)) (λ round node less. m round node (omega arith)) before,
)

module _ (net : Net) (heard : ℕ → ℕ → List Heard) (made : ℕ → ℕ → Commitment) where
  -- they are the steps, round by round
  pub rounds-made : (rounds : ℕ) (calls : ℕ → List Call) → AreCallsIn net heard made rounds calls → AreStepRounds (board_steps net) rounds calls
  rounds-made zero calls are = are
  rounds-made (suc rounds) calls (early, last, mark, is, before) = (
    early,
    last,
    mark,
    record { split = is.split; all = λ node. (is.own node).steps; below = is.below; above = is.above },
    rounds-made rounds early before,
  )

  pub steps-made : (rounds : ℕ) (calls : ℕ → List Call) → AreCallsIn net heard made rounds calls → (node : ℕ) → map step_of (calls node) ≡ steps_of_rounds rounds (board_steps net node)
  steps-made zero calls are node = ap (map step_of) (are node)
  steps-made (suc rounds) calls (early, last, mark, is, before) node =
      ap (map step_of) (is.split node) ∙ map-append step_of (early node) (last node) ∙ ap (λ s. map step_of (early node) ++ s) (is.own node).steps
      ∙ ap (λ s. s ++ board_steps net node) (steps-made rounds early before node)

  count-made : (rounds : ℕ) (calls : ℕ → List Call) → AreCallsIn net heard made rounds calls → (node : ℕ) → length (calls node) ≡ rounds * length (board_steps net node)
  count-made zero calls are node = ap length (are node) ∙ (let z : 0 ≡ 0 * length (board_steps net node) = omega arith in z)
  count-made (suc rounds) calls (early, last, mark, is, before) node =
      let w : ℕ = length (board_steps net node) in
      let own : length (last node) ≡ w = sym (length-map (last node) step_of) ∙ ap length (is.own node).steps in
      let more : suc rounds * w ≡ rounds * w + w = omega arith in
      ap length (is.split node) ∙ length-append (early node) (last node) ∙ (let z : length (early node) + length (last node) ≡ suc rounds * w = omega (arith, own, more, count-made rounds early before node) in z)

  -- what a reading tells was heard in the call's round
  pub call-heard : (rounds : ℕ) (calls : ℕ → List Call) → AreCallsIn net heard made rounds calls → (node place : ℕ) (call : Call) → slice_get (calls node) place ≡ Some call → call.publishes ≡ false
      → Contains (heard (place / length (board_steps net node)) node) (heard_of call)
  call-heard zero calls are node place call at reads = absurd (let z = slice_get_within [] place call (ap (λ (l : List Call). slice_get l place) (sym (are node)) ∙ at) in omega arith)
  call-heard (suc rounds) calls (early, last, mark, is, before) node place call at reads =
      let w : ℕ = length (board_steps net node) in
      let long : length (early node) ≡ rounds * w = count-made rounds early before node in
      let own : length (last node) ≡ w = sym (length-map (last node) step_of) ∙ ap length (is.own node).steps in
      elim (in-parts (early node) (last node) place call (ap (λ (l : List Call). slice_get l place) (sym (is.split node)) ∙ at)) [
        | inl first ↦ call-heard rounds early before node place call first.1 reads
        | inr now ↦
            let j : ℕ = place - length (early node) in
            let past = now.0 in
            let small : j < w = omega (arith, slice_get_within (last node) j call now.1, own) in
            let e : place ≡ rounds * w + j = omega (arith, long) in
            let round : place / w ≡ rounds = ap (λ p. p / w) e ∙ div-mul-add rounds w j small in
            subst (λ r. Contains (heard r node) (heard_of call)) (sym round) (at-get (λ c. c.publishes ≡ false → Contains (heard rounds node) (heard_of c)) (last node) j call (is.own node).hears now.1 reads)
      ]

  -- what is sent on a link on which a node publishes once a round: what its commits tell
  pub sent-all : (rounds : ℕ) (calls : ℕ → List Call) → AreCallsIn net heard made rounds calls → (node link : ℕ) → filter (is_publish_of link) (board_steps net node) ≡ Publish link ∷ []
      → sent link (calls node) ≡ map (λ round. told_in net round link (made round node)) (range_with_len 0 rounds)
  sent-all zero calls are node link once = ap (sent link) (are node)
  sent-all (suc rounds) calls (early, last, mark, is, before) node link once =
      let one : rounds + 1 ≡ suc rounds = omega arith in
      ap (sent link) (is.split node)
      ∙ ap (map (λ (c : Call). c.forecast)) (filter-append (λ c. is_publish_of link (step_of c)) (early node) (last node))
      ∙ map-append (λ (c : Call). c.forecast) (filter (λ c. is_publish_of link (step_of c)) (early node)) (filter (λ c. is_publish_of link (step_of c)) (last node))
      ∙ ap (λ l. l ++ sent link (last node)) (sent-all rounds early before node link once)
      ∙ ap (λ l. map (λ round. told_in net round link (made round node)) (range_with_len 0 rounds) ++ l) (sent-once net rounds node (heard rounds node) (made rounds node) (last node) link (is.own node) once)
      ∙ sym (map-range_with_len_more (λ round. told_in net round link (made round node)) 0 rounds rounds (omega arith))
      ∙ ap (λ r. map (λ round. told_in net round link (made round node)) (range_with_len 0 r)) one

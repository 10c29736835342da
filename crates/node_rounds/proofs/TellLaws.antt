-- A node's publishings, one after another.
use Rattle.std.proofs.Common.{◌≡◌, ℕ, zero, suc, ◌+◌, ◌<◌, ◌≤◌, Bool, true, false, List, [], ◌∷◌, ◌++◌, Some, filter, is_some, length, map, take, get_or, refl, sym, ap, ◌∙◌, inl, inr, arith, append-nil, if◌then◌else◌}
use Rattle.std.specs.Prelude.{not, slice_get}
use Rattle.std.proofs.lemmas.Bool.{cases_Bool}
use Rattle.std.proofs.lemmas.List.{length_push, length-map, map-append, take_more}
use Rattle.std.proofs.lemmas.List.Elements.{All-nil, filter-append}
use Rattle.std.proofs.lemmas.Option.{slice_get_within}
use Rattle.board_model.specs.declared.calls.Call.{Call}
use Rattle.board_model.specs.declared.forecasts.Row.{Row}
use Rattle.link_boards.specs.Passes as board
use Rattle.link_boards.specs.Passes.{PassView, call_of_publish}
use Rattle.board_model.specs.declared.boards.Sent.{Sent}
use Rattle.histories.specs.declared.steps.BoardStep.TheVariants as steps
use Rattle.histories.proofs.Lists.{filter-no, filter-yes}
use Rattle.intersection_actor.specs.Acting.{Acting, telling, tells_from, told_at, wanting}
use Rattle.intersection_actor.specs.declared.records.Want.{Want}
use Rattle.intersection_actor.specs.declared.records.Want.TheVariants.{Publish}
use Rattle.histories.specs.Calls.{step_of}
use Rattle.net_parts.specs.Numbers.{Net}
use Rattle.net_parts.specs.Outline.{link_at}
use Rattle.net_parts.specs.declared.roads.Link.{Link}
use Rattle.road_net.specs.Network.{exit_links, told_links}
use Rattle.node_rounds.specs.Nodes.{HasSent, HasTold, outgoing}
use Rattle.node_rounds.proofs.Made.{all-push, made-more, made-none}

-- the step of a publishing
step-of-publish : (b : Bool) (l link : ℕ) → b ≡ true → l ≡ link → (if b then steps.Publish l else steps.Read l) ≡ steps.Publish link
step-of-publish true l link e f = ap steps.Publish f
step-of-publish false l link e f = absurd (let z : false ≡ true = e in cc)

pub told-none : (net : Net) (a : Acting) (p : PassView) → a.want ≡ told_at net a.node 0 → HasTold net a a p p []
told-none net a p want = record { calls = []; made = made-none p; steps = refl; tells = All-nil _; actor = ap (λ (w : Want). wanting w a) want }

pub told-more : (net : Net) (a b c : Acting) (p q r : PassView) (links : List ℕ) (link : ℕ) → HasTold net a b p q links → HasSent net link b c q r → 0 < q.left → HasTold net a c p r (links ++ link ∷ [])
told-more net a b c p q r links link told sent some =
    let call : Call = sent.call in
    let want : b.want ≡ told_at net b.node (length links) = ap (λ (x : Acting). x.want) told.actor ∙ ap (λ n. told_at net n (length links)) (sym (ap (λ (x : Acting). x.node) told.actor)) in
    let next : c.want ≡ told_at net a.node (length (links ++ link ∷ [])) = sent.next (length links) want ∙ ap (λ n. told_at net n (length links + 1)) (ap (λ (x : Acting). x.node) told.actor) ∙ ap (told_at net a.node) (sym (length_push links link)) in
    let forecast : call.forecast ≡ outgoing net call.link a = sent.forecast ∙ ap (outgoing net link) told.actor ∙ ap (λ l. outgoing net l a) (sym sent.at) in
    record {
      calls = told.calls ++ call ∷ [];
      made = made-more p q r told.calls call told.made sent.later sent.pass some;
      steps =
          map-append step_of told.calls (call ∷ []) ∙ ap (λ l. l ++ step_of call ∷ []) told.steps
          ∙ ap (λ s. map steps.Publish links ++ s ∷ []) (step-of-publish call.publishes call.link link sent.publishes sent.at) ∙ sym (map-append steps.Publish links (link ∷ []));
      tells = all-push (λ (x : Call). x.forecast ≡ outgoing net x.link a) told.calls call told.tells forecast;
      actor = sent.actor ∙ ap (λ (x : Acting). wanting c.want x) told.actor ∙ ap (λ (w : Want). wanting w a) next;
    }

-- the next element that passes a test
next-passes : (p : ℕ → Bool) (xs : List ℕ) (i : ℕ) → i < length xs → p (get_or xs i 0) ≡ true → slice_get (filter p xs) (length (filter p (take i xs))) ≡ Some (get_or xs i 0)
next-passes p [] i inside passes = absurd (omega arith)
next-passes p (x ∷ xs) zero inside passes = ap (λ l. slice_get l 0) (filter-yes p x xs passes)
next-passes p (x ∷ xs) (suc i) inside passes = elim (cases_Bool (p x)) [
  | inl here ↦
      ap (λ l. slice_get l (length (filter p (x ∷ take i xs)))) (filter-yes p x xs here) ∙ ap (λ l. slice_get (x ∷ filter p xs) (length l)) (filter-yes p x (take i xs) here)
      ∙ next-passes p xs i (omega arith) passes
  | inr none ↦
      ap (λ l. slice_get l (length (filter p (x ∷ take i xs)))) (filter-no p x xs none) ∙ ap (λ l. slice_get (filter p xs) (length l)) (filter-no p x (take i xs) none)
      ∙ next-passes p xs i (omega arith) passes
]

-- whether a link goes to a node
abbrev pub goes : Net → ℕ → Bool
goes net link = is_some (link_at net link).to

-- the links on which a node tells, among the first of those that come from it
abbrev pub told_among : Net → List ℕ → ℕ → List ℕ
told_among net exits i = filter (goes net) (take i exits)

pub among-none : (net : Net) (exits : List ℕ) → told_among net exits 0 ≡ []
among-none net exits = refl

-- a link that goes to a node, by the test for one that does not
pub goes-by : (net : Net) (link : ℕ) (is : Link) (none : Bool) → is ≡ link_at net link → is_some is.to ≡ not none → none ≡ false → goes net link ≡ true
goes-by net link is none at e f = ap (λ (l : Link). is_some l.to) (sym at) ∙ e ∙ ap not f

module _ (net : Net) (exits : List ℕ) (i d : ℕ) (inside : i < length exits) where
  abbrev link : ℕ
  link = get_or exits i d

  here : get_or exits i 0 ≡ link
  here = get-any exits i 0 d inside
    where
      get-any : (xs : List ℕ) (k d e : ℕ) → k < length xs → get_or xs k d ≡ get_or xs k e
      get-any [] k d e inside = absurd (omega arith)
      get-any (x ∷ xs) zero d e inside = refl
      get-any (x ∷ xs) (suc k) d e inside = get-any xs k d e (omega arith)

  pub among-more : goes net link ≡ true → told_among net exits (i + 1) ≡ told_among net exits i ++ link ∷ []
  among-more passes =
      ap (filter (goes net)) (take_more exits i 0 inside) ∙ ap (λ k. filter (goes net) (take i exits ++ k ∷ [])) here ∙ filter-append (goes net) (take i exits) (link ∷ [])
      ∙ ap (λ l. told_among net exits i ++ l) (filter-yes (goes net) link [] passes)

  pub among-same : goes net link ≡ false → told_among net exits (i + 1) ≡ told_among net exits i
  among-same stays =
      ap (filter (goes net)) (take_more exits i 0 inside) ∙ ap (λ k. filter (goes net) (take i exits ++ k ∷ [])) here ∙ filter-append (goes net) (take i exits) (link ∷ [])
      ∙ ap (λ l. told_among net exits i ++ l) (filter-no (goes net) link [] stays) ∙ append-nil (told_among net exits i)

  -- the actor wants to publish there, and a call is left
  module _ (node : ℕ) (are : exits ≡ exit_links net node) (passes : goes net link ≡ true) (a b : Acting) (p q : PassView) (own : a.node ≡ node) (told : HasTold net a b p q (told_among net exits i)) where
    next : slice_get (told_links net node) (length (told_among net exits i)) ≡ Some link
    next = ap (λ (l : List ℕ). slice_get (filter (goes net) l) (length (told_among net exits i))) (sym are) ∙ next-passes (goes net) exits i inside (ap (goes net) here ∙ passes) ∙ ap Some here

    pub wants-link : b.want ≡ Publish link
    wants-link = ap (λ (x : Acting). x.want) told.actor ∙ ap (λ n. told_at net n (length (told_among net exits i))) own ∙ ap telling next

    pub call-left : length (told_links net a.node) ≤ p.left → 0 < q.left
    call-left enough =
        let had = told.made.left in
        let more = slice_get_within (told_links net node) (length (told_among net exits i)) link next in
        let count : length told.calls ≡ length (told_among net exits i) = sym (length-map told.calls step_of) ∙ ap length told.steps ∙ length-map (told_among net exits i) steps.Publish in
        omega (arith, had, more, count, ap (λ n. length (told_links net n)) own)

-- one publishing
pub sent-as : (net : Net) (link : ℕ) (a b : Acting) (p q : PassView) (f : List Row) (sent : Sent) → board.HasSent p q link f sent → f ≡ outgoing net link a
    → b ≡ wanting (tells_from net a.node (link + 1)) a → ((place : ℕ) → a.want ≡ told_at net a.node place → b.want ≡ told_at net a.node (place + 1)) → HasSent net link a b p q
sent-as net link a b p q f sent is forecast actor next = record {
  call = call_of_publish link sent f;
  publishes = refl;
  at = refl;
  forecast = forecast;
  later = is.stamp;
  pass = is.pass;
  actor = actor ∙ ap (λ (w : Want). wanting w a) (sym (ap (λ (x : Acting). x.want) actor));
  next = next;
}

-- A node's publishings, one after another.
use Rattle.std.proofs.Common.{◌≡◌, ℕ, ◌+◌, ◌-◌, ◌<◌, ◌≤◌, nat_le, Bool, true, false, List, Option, Some, None, find, length, get_or, set, get_or-set_other, get_or-set_same, length-set, refl, sym, ap, subst, ◌∙◌, inl, inr, arith}
use Rattle.std.specs.Prelude.{◌&&◌, if◌then◌else◌, nat_lt}
use Rattle.std.proofs.lemmas.Bool.{and_from, and_right, cases_eq, cases_lt, le-ltb, lt-ltb}
use Rattle.std.proofs.lemmas.List.{get_or_default}
use Rattle.intersection_actor.specs.Acting.{Acting, telling, tells_from, wanting}
use Rattle.intersection_actor.specs.declared.records.Want.{Want}
use Rattle.intersection_actor.specs.declared.records.Want.TheVariants.{Read, Commit, Publish, Done}
use Rattle.net_parts.specs.Limits.{most_seconds}
use Rattle.net_parts.specs.Numbers.{Net}
use Rattle.road_net.specs.Network.{IsNetwork, told_links}
use Rattle.round_states.specs.declared.states.LinkBoard.{LinkBoard}
use Rattle.round_decisions.specs.Steps.{HasTold, MayTell, outgoing}
use Rattle.round_decisions.specs.Turns.{ArePublished, board_of, next_board, no_board, tells}
use Rattle.round_decisions.proofs.Boards.{NextTold, all-told, next-told}

told-some : (o : Option ℕ) (link : ℕ) → telling o ≡ Publish link → o ≡ Some link
told-some None link e = let impossible : None ≡ Some link = cc in impossible
told-some (Some l) link e = let same : l ≡ link = cc in ap Some same

told-all : (o : Option ℕ) → ((link : ℕ) → telling o ≡ Publish link → ⊥) → o ≡ None
told-all None none = refl
told-all (Some l) none = absurd (none l refl)

-- none is below 0
test-none : (t : Bool) (l : ℕ) → (t && nat_lt l 0) ≡ false
test-none true l = le-ltb l 0 (omega arith)
test-none false l = refl

-- the same links, but for one, are told below the next number
test-same : (t : Bool) (l first link : ℕ) → first ≤ link → (l ≡ link → ⊥) → (t ≡ true → first ≤ l → link ≤ l) → (t && nat_lt l first) ≡ (t && nat_lt l (link + 1))
test-same false l first link up other before = refl
test-same true l first link up other before = elim (cases_lt l first) [
  | inl less ↦ lt-ltb l first less ∙ sym (lt-ltb l (link + 1) (omega arith))
  | inr reach ↦
      let far : link ≤ l = before refl reach in
      let past : link < l = elim (cases_lt link l) [ inl less ↦ less | inr back ↦ absurd (other (omega arith)) ] in
      le-ltb l first reach ∙ sym (le-ltb l (link + 1) (omega arith))
]

test-here : (t : Bool) (link : ℕ) → t ≡ true → (t && nat_lt link (link + 1)) ≡ true
test-here t link e = and_from t (nat_lt link (link + 1)) e (lt-ltb link (link + 1) (omega arith))

test-not-yet : (t : Bool) (first link : ℕ) → first ≤ link → (t && nat_lt link first) ≡ false
test-not-yet t first link up = and_right t (nat_lt link first) (le-ltb link first up)

test-all : (t : Bool) (l first : ℕ) → (t ≡ true → l < first) → (t && nat_lt l first) ≡ t
test-all false l first below = refl
test-all true l first below = lt-ltb l first (below refl)

pub told-none : (net : Net) (a : Acting) (boards : List LinkBoard) → a.want ≡ tells_from net a.node 0 → HasTold net a a boards boards
told-none net a boards want = record {
  first = 0;
  actor = ap (λ (w : Want). wanting w a) want;
  count = refl;
  each = λ l inside. ap (λ b. if b then next_board (board_of boards l) (outgoing net a l) else board_of boards l) (sym (test-none (tells net a.node l) l));
}

module _ (net : Net) (network : IsNetwork net) (a b : Acting) (old new : List LinkBoard) (count : length old ≡ length net.link_names) (told : HasTold net a b old new) where
  roads : length net.links ≡ length net.link_names
  roads = network.outline.road_count

  wants-told : b.want ≡ tells_from net a.node told.first
  wants-told = ap (λ (x : Acting). x.want) told.actor

  module _ (link : ℕ) (wants : b.want ≡ Publish link) where
    next : NextTold net a.node told.first link
    next = next-told net a.node told.first link (told-some (find (λ l. nat_le told.first l) (told_links net a.node)) link (sym wants-told ∙ wants))

    pub link-there : link < length new
    link-there = (let there = next.exists in omega (arith, there, roads, count, told.count))

    pub inside : link < length old
    inside = (let there = next.exists in omega (arith, there, roads, count))

    -- nothing is published there yet
    untold : board_of new link ≡ board_of old link
    untold = told.each link inside ∙ ap (λ t. if t then next_board (board_of old link) (outgoing net a link) else board_of old link) (test-not-yet (tells net a.node link) told.first link next.reaches)

    pub is-below : MayTell net a.node old → (board : LinkBoard) → board ≡ get_or new link board → board.version ≤ most_seconds
    is-below may board is =
        let e : board ≡ board_of old link = is ∙ get_or_default new link board no_board link-there ∙ untold in
        let less : (board_of old link).version ≤ most_seconds = may link inside next.is in
        omega (arith, ap (λ (x : LinkBoard). x.version) e, less)

    pub told-more : (c : Acting) (board newer : LinkBoard) → board ≡ get_or new link board → c ≡ wanting (tells_from net b.node (link + 1)) b → newer ≡ next_board board (outgoing net b link) → HasTold net a c old (set new link newer)
    told-more c board newer is goes made = record {
      first = link + 1;
      actor = goes ∙ ap (λ (x : Acting). wanting (tells_from net x.node (link + 1)) x) told.actor;
      count = length-set new link newer ∙ told.count;
      each = λ l within. elim (cases_eq l link) [
        | inl here ↦ subst (λ k. board_of (set new link newer) k ≡ (if tells net a.node k && nat_lt k (link + 1) then next_board (board_of old k) (outgoing net a k) else board_of old k)) (sym here) at-link
        | inr other ↦
            get_or-set_other new link l newer no_board other ∙ told.each l within
            ∙ ap (λ t. if t then next_board (board_of old l) (outgoing net a l) else board_of old l)
            (test-same (tells net a.node l) l told.first link next.reaches other (next.before l (omega (arith, roads, count))))
      ];
    }
      where
        was : board ≡ board_of old link
        was = is ∙ get_or_default new link board no_board link-there ∙ untold

        at-link : board_of (set new link newer) link ≡ (if tells net a.node link && nat_lt link (link + 1) then next_board (board_of old link) (outgoing net a link) else board_of old link)
        at-link =
            get_or-set_same new link newer no_board link-there ∙ made ∙ ap (λ (x : LinkBoard). next_board x (outgoing net b link)) was
            ∙ ap (λ (x : Acting). next_board (board_of old link) (outgoing net x link)) told.actor
            ∙ ap (λ t. if t then next_board (board_of old link) (outgoing net a link) else board_of old link) (sym (test-here (tells net a.node link) link next.is))

    -- what is left to tell: the links from this one on
    pub fewer : (c : Acting) → c ≡ wanting (tells_from net b.node (link + 1)) b → (other : ℕ) → c.want ≡ Publish other → link < other
    fewer c goes other wants_other =
        let node : b.node ≡ a.node = ap (λ (x : Acting). x.node) told.actor in
        let e : tells_from net a.node (link + 1) ≡ Publish other = ap (λ n. tells_from net n (link + 1)) (sym node) ∙ sym (ap (λ (x : Acting). x.want) goes) ∙ wants_other in
        let far = next-told net a.node (link + 1) other (told-some (find (λ l. nat_le (link + 1) l) (told_links net a.node)) other e) in
        let reach = far.reaches in
        omega arith

  module _ (none : (link : ℕ) → b.want ≡ Publish link → ⊥) where
    found : find (λ l. nat_le told.first l) (told_links net a.node) ≡ None
    found = told-all (find (λ l. nat_le told.first l) (told_links net a.node)) (λ link e. none link (wants-told ∙ e))

    pub is-done : b ≡ wanting Done a
    is-done = told.actor ∙ ap (λ (o : Option ℕ). wanting (telling o) a) found

    pub all-published : ArePublished net a.node (outgoing net a) old new
    all-published = record {
      count = told.count;
      each = λ l within. told.each l within
          ∙ ap (λ t. if t then next_board (board_of old l) (outgoing net a l) else board_of old l)
          (test-all (tells net a.node l) l told.first (all-told net a.node told.first found l (omega (arith, roads, count))));
    }

-- how many links there are from the one on which a node wants to publish on
abbrev pub still_left : ℕ → Want → ℕ
still_left links (Publish link) = links - link
still_left links (Read link) = 0
still_left links Commit = 0
still_left links Done = 0

pub less-left : (links link : ℕ) (old new : Want) → old ≡ Publish link → link < links → ((other : ℕ) → new ≡ Publish other → link < other) → still_left links new < still_left links old
less-left links link old new e inside more = subst (λ w. still_left links new < still_left links w) (sym e) (by new more)
  where
    by : (w : Want) → ((other : ℕ) → w ≡ Publish other → link < other) → still_left links w < links - link
    by (Publish other) more = (let less = more other refl in omega arith)
    by (Read other) more = omega arith
    by Commit more = omega arith
    by Done more = omega arith

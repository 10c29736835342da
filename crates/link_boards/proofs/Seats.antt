-- Kinds 4 to 7: passes are made, couriers sent and heard, passes ended. No word changes.
use Rattle.std.proofs.Common.{◌≡◌, ◌≢◌, ◌⊎◌, ℕ, zero, suc, ◌+◌, ◌<◌, ◌≤◌, eqb, cond, true, false, true≢false, List, [], ◌∷◌, ◌++◌, length, get_or, set, sym, refl, ap, ◌∙◌, subst, ⊎_elim, inl, inr, arith, eq-eqb, ne_eqb, le_refl}
use Rattle.std.specs.Prelude.{Option, Some, None}
use Rattle.std.proofs.lemmas.Option.{none-some}
use Rattle.std.proofs.lemmas.List.Elements.{All-cons, All-nil, All-append}
use mathlib.Core.Logic.{dite}
use mathlib.Core.Option.{some, some-injective, some-ne-none}
use native.Mathlib.Decide.{ℕ_discrete}
use lib.ListN.{get_elem?}
use Rattle.atomic_table.specs.Table.{State, Splits, Joins}
use Rattle.atomic_table.proofs.Lists.{set_here, set_else, at_longer, at_set}
use Rattle.board_model.specs.declared.boards.BoardEvent.{BoardEvent}
use Rattle.link_boards.specs.declared.views.Flight.{Flight}
use Rattle.link_boards.specs.declared.views.Terms.{Terms}
use Rattle.link_boards.specs.declared.views.View.{View}
use Rattle.link_boards.specs.Views.{entry, dealt, newcomer, courier, spent, informed, ended}
use Rattle.link_boards.specs.Rule.{total, Owns, IsDealing, IsSeated, Holds}
use Rattle.link_boards.proofs.Lists.{inside, same-view, seats_set, total_set, total_push, changed, changed-here, changed-else}

-- a view at a place of the longer list stood there, or is the one that was added
at_end : (l : List View) (a b : View) (j : ℕ) → get_elem? (l ++ a ∷ []) j ≡ some b → (get_elem? l j ≡ some b) ⊎ ((j ≡ length l) × (a ≡ b))
at_end [] a b zero e = inr (refl, some-injective a b e)
at_end [] a b (suc j) e = absurd (some-ne-none b (sym e))
at_end (x ∷ xs) a b zero e = inl e
at_end (x ∷ xs) a b (suc j) e = ⊎_elim (λ t. inl t) (λ t. inr (ap suc t.0, t.1)) (at_end xs a b j e)

-- what holds of all views, and of one more, holds of all
seats_push : (K : ℕ → View → Type 0) (views : List View) (w : View) → ((j : ℕ) (v : View) → get_elem? views j ≡ some v → K j v) → K (length views) w
    → (j : ℕ) (v : View) → get_elem? (views ++ w ∷ []) j ≡ some v → K j v
seats_push K views w old new j v e = ⊎_elim (old j v) (λ (t : (j ≡ length views) × (w ≡ v)). subst (λ (x : ℕ × View). K x.0 x.1) (λ i. (sym t.0 i, t.1 i)) new) (at_end views w v j e)

-- some seat has this call in flight
abbrev Flies : List View → Option Flight → Type 0
Flies views f = (j : ℕ) × (v : View) × (get_elem? views j ≡ some v) × (v.flight ≡ f)

-- a change that keeps a view's flight, or that of a view with none
flies-set : (views : List View) (id : ℕ) (v w : View) (f : Flight) → get_elem? views id ≡ some v → (w.flight ≡ v.flight) ⊎ (v.flight ≡ None) → Flies views (Some f) → Flies (set views id w) (Some f)
flies-set views id v w f here kept t = dite (ℕ_discrete t.0 id)
    (λ mine. let up : v.flight ≡ Some f = ap (λ (u : View). u.flight) (same-view views id t.0 v t.1 (sym mine) here t.2) ∙ t.3 in
    ⊎_elim (λ k. (id, w, set_here views id w (inside views id v here), k ∙ up)) (λ down. absurd (none-some f (sym down ∙ up))) kept)
    (λ apart. (t.0, t.1, set_else views id t.0 w apart ∙ t.2, t.3))

flies-push : (views : List View) (w : View) (f : Flight) → Flies views (Some f) → Flies (views ++ w ∷ []) (Some f)
flies-push views w f t = (t.0, t.1, at_longer views (w ∷ []) t.0 t.1 t.2, t.3)

-- what stood elsewhere before a change stands there still
stood : (views : List View) (id other : ℕ) (both w : View) → ¬ (other ≡ id) → get_elem? (set views id both) other ≡ some w → get_elem? views other ≡ some w
stood views id other both w apart there = ⊎_elim (λ t. absurd (apart t.0)) (λ t. t.1) (at_set views id other both w there)

-- a number that one seat stood for goes to another
abbrev passed : ℕ → ℕ → Option ℕ → Option ℕ
passed other id None = None
passed other id (Some j) = cond (eqb j other) (Some id) (Some j)

passed-on : (other id : ℕ) (o : Option ℕ) → o ≡ Some other → passed other id o ≡ Some id
passed-on other id o e = ap (passed other id) e ∙ ap (λ b. cond b (Some id) (Some other)) (eq-eqb other other refl)

passed-else : (other id j : ℕ) (o : Option ℕ) → j ≢ other → o ≡ Some j → passed other id o ≡ Some j
passed-else other id j o apart e = ap (passed other id) e ∙ ap (λ b. cond b (Some id) (Some j)) (ne_eqb j other apart)

module _ {S : Type 0} (stands : S → List BoardEvent → Type 0) where
  -- the state with other views, other seats for the numbers, and nothing else
  moved : (terms : Terms) (s : State S View) (h : Holds stands terms s) (views : List View) (owner : ℕ → Option ℕ)
      → total (λ v. v.left) views ≡ total (λ v. v.left) s.views
      → ((j : ℕ) (v : View) → get_elem? views j ≡ some v → IsSeated terms s.words h.logs owner h.history j v)
      → ((f : Flight) → Flies s.views (Some f) → Flies views (Some f))
      → ((n : ℕ) → terms.passes ≤ n → h.owner n ≡ None → owner n ≡ None)
      → Holds stands terms record { words = s.words; homes = s.homes; views = views }
  moved terms s h views owner same seats flies unmade = record {
    logs = h.logs;
    owner = owner;
    history = h.history;
    unmade = λ n past. let free = h.unmade n past in (unmade n past free.0, free.1);
    unlinked = h.unlinked;
    wide = h.wide;
    counted = ap (λ (k : ℕ). get_or s.words 0 0 + k) same ∙ h.counted;
    seats = seats;
    links = λ l within. let old = h.links l within in record {
      free = old.free;
      taken = λ nz. let t = old.taken nz in let u = flies t.2 (t.0, t.1, t.3, t.4) in (u.0, u.1, t.2, u.2, u.3, t.5);
    };
    logged = h.logged;
  }

  -- kind 4
  pub deals-pass : (terms : Terms) (id calls : ℕ) (v : View) → v.deals ≡ true → calls ≤ v.left → v.made < terms.passes → Splits (Holds stands terms) id v (dealt calls v) (newcomer calls v)
  deals-pass terms id calls v does enough more s h here =
      let mine = h.seats id v here in
      let fresh = mine.deals does in
      let none-yet = fresh.unmade v.made (le_refl v.made) in
      let views : List View = set s.views id (dealt calls v) in
      let seat : ℕ = length views in
      let owner' : ℕ → Option ℕ = changed h.owner v.made (Some seat) in
      let else-owner : (n j : ℕ) → h.owner n ≡ Some j → owner' n ≡ Some j = λ n j o. changed-else h.owner v.made (Some seat) n (λ e. none-some j (sym none-yet.0 ∙ (ap h.owner (sym e) ∙ o))) ∙ o in
      moved terms s h (views ++ newcomer calls v ∷ []) owner'
      (let p = total_push (λ u. u.left) views (newcomer calls v) in let t = total_set (λ u. u.left) s.views id v (dealt calls v) here in omega arith)
      (seats_push (IsSeated terms s.words h.logs owner' h.history) views (newcomer calls v)
      (seats_set (IsSeated terms s.words h.logs owner' h.history) s.views id (dealt calls v)
      record {
        known = mine.known;
        owns = λ k d within. let o = mine.owns k d within in (else-owner _ id o.0, o.1);
        flies = mine.flies;
        deals = λ _. record {
          first = fresh.first;
          most = omega arith;
          unmade = λ n past. let f = fresh.unmade n (omega arith) in (changed-else h.owner v.made (Some seat) n (λ e. omega arith) ∙ f.0, f.1);
        };
      }
      (λ j u apart there. let old = h.seats j u there in record {
        known = old.known;
        owns = λ k d within. let o = old.owns k d within in (else-owner _ j o.0, o.1);
        flies = old.flies;
        deals = λ does-too. absurd (apart ((old.deals does-too).first ∙ sym fresh.first));
      }))
      record {
        known = omega arith;
        owns = All-cons (Owns owner' h.history seat) (entry v.made []) [] (changed-here h.owner v.made (Some seat) v.made refl, none-yet.1) (All-nil (Owns owner' h.history seat));
        flies = λ f is. absurd (none-some f is);
        deals = λ is. absurd (true≢false (sym is));
      })
      (λ f t. flies-push views (newcomer calls v) f (flies-set s.views id v (dealt calls v) f here (inl refl) t))
      (λ n past free. changed-else h.owner v.made (Some seat) n (λ e. omega arith) ∙ free)

  -- a seat with no number, no call in flight and nothing to make knows what it knows
  bare : (terms : Terms) (s : State S View) (h : Holds stands terms s) (owner : ℕ → Option ℕ) (j : ℕ) (u : View) → u.known ≤ get_or s.words 0 0 → u.entries ≡ [] → u.flight ≡ None → u.deals ≡ false
      → IsSeated terms s.words h.logs owner h.history j u
  bare terms s h owner j u known none-own landed rests = record {
    known = known;
    owns = subst (Rattle.std.specs.Prelude.All (Owns owner h.history j)) (sym none-own) (All-nil (Owns owner h.history j));
    flies = λ f is. absurd (none-some f (sym landed ∙ is));
    deals = λ is. absurd (true≢false (sym is ∙ rests));
  }

  -- kind 5
  pub sends-courier : (terms : Terms) (id : ℕ) (v : View) → Splits (Holds stands terms) id v v (courier v)
  sends-courier terms id v s h here =
      let mine = h.seats id v here in
      let views : List View = set s.views id v in
      let K : ℕ → View → Type 0 = IsSeated terms s.words h.logs h.owner h.history in
      moved terms s h (views ++ courier v ∷ []) h.owner
      (let p = total_push (λ u. u.left) views (courier v) in let t = total_set (λ u. u.left) s.views id v v here in omega arith)
      (seats_push K views (courier v) (seats_set K s.views id v mine (λ j u apart there. h.seats j u there)) (bare terms s h h.owner (length views) (courier v) mine.known refl refl refl))
      (λ f t. flies-push views (courier v) f (flies-set s.views id v v f here (inl refl) t))
      (λ n past free. free)

  -- kind 6
  pub hears-courier : (terms : Terms) (id : ℕ) (v : View) (other : ℕ) (w : View) → w.left ≡ 0 → w.flight ≡ None → Joins (Holds stands terms) id v other w (informed v w) spent
  hears-courier terms id v other w nothing-left landed s h here apart there =
      let mine = h.seats id v here in
      let theirs = h.seats other w (stood s.views id other (informed v w) w apart there) in
      let views : List View = set s.views id (informed v w) in
      let K : ℕ → View → Type 0 = IsSeated terms s.words h.logs h.owner h.history in
      moved terms s h (set views other spent) h.owner
      (let p = total_set (λ u. u.left) views other w spent there in let t = total_set (λ u. u.left) s.views id v (informed v w) here in omega arith)
      (seats_set K views other spent (bare terms s h h.owner other spent (omega arith) refl refl refl)
      (λ j u _ at. seats_set K s.views id (informed v w)
      record {
        known = let a = mine.known in let b = theirs.known in omega arith;
        owns = mine.owns;
        flies = mine.flies;
        deals = mine.deals;
      }
      (λ j u apart there. h.seats j u there) j u at))
      (λ f t. flies-set views other w spent f there (inr landed) (flies-set s.views id v (informed v w) f here (inl refl) t))
      (λ n past free. free)

  -- kind 7
  pub ends-pass : (terms : Terms) (id : ℕ) (v : View) (other : ℕ) (w : View) → v.flight ≡ None → w.flight ≡ None → Joins (Holds stands terms) id v other w (ended v w) spent
  ends-pass terms id v other w down landed s h here apart there =
      let mine = h.seats id v here in
      let theirs = h.seats other w (stood s.views id other (ended v w) w apart there) in
      let owner' : ℕ → Option ℕ = λ n. passed other id (h.owner n) in
      let views : List View = set s.views id (ended v w) in
      let K : ℕ → View → Type 0 = IsSeated terms s.words h.logs owner' h.history in
      let dealing : (j made : ℕ) → IsDealing terms h.owner h.history j made → IsDealing terms owner' h.history j made = λ j made f. record { first = f.first; most = f.most; unmade = λ n past. let g = f.unmade n past in (ap (passed other id) g.0, g.1) } in
      moved terms s h (set views other spent) owner'
      (let p = total_set (λ u. u.left) views other w spent there in let t = total_set (λ u. u.left) s.views id v (ended v w) here in omega arith)
      (seats_set K views other spent (bare terms s h owner' other spent (omega arith) refl refl refl)
      (λ j u not-other at. seats_set (λ j u. j ≢ other → K j u) s.views id (ended v w)
      (λ _. record {
        known = mine.known;
        owns = All-append (Owns owner' h.history id) v.entries w.entries
            (λ k d within. let o = mine.owns k d within in (passed-else other id id _ (λ e. apart (sym e)) o.0, o.1))
            (λ k d within. let o = theirs.owns k d within in (passed-on other id _ o.0, o.1));
        flies = λ f is. absurd (none-some f (sym down ∙ is));
        deals = λ does. dealing id v.made (mine.deals does);
      })
      (λ j u _ there not-other. let old = h.seats j u there in record {
        known = old.known;
        owns = λ k d within. let o = old.owns k d within in (passed-else other id j _ not-other o.0, o.1);
        flies = old.flies;
        deals = λ does. dealing j u.made (old.deals does);
      }) j u at not-other))
      (λ f t. flies-set views other w spent f there (inr landed) (flies-set s.views id v (ended v w) f here (inl refl) t))
      (λ n past free. ap (passed other id) free)

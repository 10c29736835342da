-- Kinds 1 and 3: the turn of a link is taken and given back.
use Rattle.std.proofs.Common.{◌≡◌, ◌≢◌, ℕ, ◌+◌, ◌-◌, ◌<◌, ◌≤◌, eqb, Bool, false, List, [], ◌∷◌, length, get_or, set, sym, refl, ap, ◌∙◌, subst, arith, eq-eqb, ne_eqb, length-set, get_or-set_other, get_or-set_same}
use Rattle.std.specs.Prelude.{Option, Some, None, All}
use Rattle.std.proofs.lemmas.Option.{none-some}
use mathlib.Core.Logic.{dite}
use mathlib.Core.Option.{some, none}
use native.Mathlib.Decide.{ℕ_discrete}
use lib.ListN.{get_elem?}
use lib.Seq.{set-get_or}
use prog.Atomic.{either}
use Rattle.atomic_table.specs.Table.{State, step, put_back, keeps, takes, gives, stepped, Allows}
use Rattle.atomic_table.proofs.Lists.{set_again, set_here, set_else}
use Rattle.board_model.specs.declared.boards.BoardEvent.{BoardEvent}
use Rattle.board_model.specs.declared.calls.Call.{Call}
use Rattle.link_boards.specs.declared.views.Entry.{Entry}
use Rattle.link_boards.specs.declared.views.Flight.{Flight}
use Rattle.link_boards.specs.declared.views.Terms.{Terms}
use Rattle.link_boards.specs.declared.views.View.{View}
use Rattle.link_boards.specs.Views.{flight, flying, number_of}
use Rattle.link_boards.specs.Rule.{Owns, IsFlying, IsSeated, IsLinked, IsLogged, Holds}
use Rattle.link_boards.specs.Plays.{Hand, Takes, takes_turn, gives_turn}
use Rattle.link_boards.proofs.Lists.{inside, same-view, seats_set, total_set, flight-one, some-one}

-- a seat with a number stands for it
pub owner-of : (terms : Terms) (words : List ℕ) (logs : ℕ → List BoardEvent) (owner : ℕ → Option ℕ) (history : ℕ → List Call) (j : ℕ) (u : View) → IsSeated terms words logs owner history j u → 1 ≤ length u.entries
    → owner (number_of u.entries) ≡ Some j
owner-of terms words logs owner history j u seated some-own = first u.entries some-own seated.owns
  where
    first : (es : List Entry) → 1 ≤ length es → All (Owns owner history j) es → owner (number_of es) ≡ Some j
    first [] nobody all = absurd (omega arith)
    first (e ∷ es) one all = (all 0 e (omega arith)).0

-- so two seats with one number are one
pub one-owner : (terms : Terms) (words : List ℕ) (logs : ℕ → List BoardEvent) (owner : ℕ → Option ℕ) (history : ℕ → List Call) (j k : ℕ) (u v : View) → IsSeated terms words logs owner history j u → IsSeated terms words logs owner history k v
    → 1 ≤ length u.entries → 1 ≤ length v.entries → number_of u.entries ≡ number_of v.entries → j ≡ k
one-owner terms words logs owner history j k u v a b some-a some-b same = some-one _ _ (sym (owner-of terms words logs owner history j u a some-a) ∙ ap owner same ∙ owner-of terms words logs owner history k v b some-b)

module _ {S : Type 0} (stands : S → List BoardEvent → Type 0) where
  module _ (terms : Terms) (s : State S View) (h : Holds stands terms s) (id : ℕ) (v : View) (here : get_elem? s.views id ≡ some v) (link : ℕ) (within : link < length s.homes) where
    abbrev words-after : ℕ → List ℕ
    words-after n = set s.words (link + 1) n

    stamp-stays : (n : ℕ) → get_or (words-after n) 0 0 ≡ get_or s.words 0 0
    stamp-stays n = get_or-set_other s.words (link + 1) 0 n 0 (λ e. omega arith)

    turn-set : (n l : ℕ) → l ≡ link → get_or (words-after n) (l + 1) 0 ≡ n
    turn-set n l same = let wide = h.wide in ap (λ (k : ℕ). get_or (words-after n) (k + 1) 0) same ∙ get_or-set_same s.words (link + 1) n 0 (omega arith)

    turn-else : (n l : ℕ) → l ≢ link → get_or (words-after n) (l + 1) 0 ≡ get_or s.words (l + 1) 0
    turn-else n l other = get_or-set_other s.words (link + 1) (l + 1) n 0 (λ e. other (omega arith))

    -- a view that differs in the flight alone, and a turn of another number
    turned : (n : ℕ) (f : Option Flight) (homes : List (mathlib.Core.Option.Option S)) → length homes ≡ length s.homes
        → ((g : Flight) → f ≡ Some g → IsFlying (words-after n) h.logs v.entries g)
        → ((j : ℕ) (u : View) (g : Flight) → j ≢ id → get_elem? s.views j ≡ some u → u.flight ≡ Some g → g.link ≢ link)
        → ((l : ℕ) → l < length homes → IsLinked stands record { words = words-after n; homes = homes; views = set s.views id (flying v f) } (h.logs l) l)
        → Holds stands terms record { words = words-after n; homes = homes; views = set s.views id (flying v f) }
    turned n f homes long mine others linked = let was = h.seats id v here in record {
      logs = h.logs;
      owner = h.owner;
      history = h.history;
      unmade = h.unmade;
      unlinked = λ l past. h.unlinked l (subst (λ k. k ≤ l) long past);
      wide = length-set s.words (link + 1) n ∙ h.wide ∙ ap (λ (k : ℕ). k + 1) (sym long);
      counted = let t = total_set (λ u. u.left) s.views id v (flying v f) here in let c = h.counted in let st = stamp-stays n in omega arith;
      seats = seats_set (IsSeated terms (words-after n) h.logs h.owner h.history) s.views id (flying v f)
          record {
            known = subst (λ k. v.known ≤ k) (sym (stamp-stays n)) was.known;
            owns = was.owns;
            flies = mine;
            deals = was.deals;
          }
          (λ j u apart there. let old = h.seats j u there in record {
            known = subst (λ k. u.known ≤ k) (sym (stamp-stays n)) old.known;
            owns = old.owns;
            flies = λ g is. let up = old.flies g is in record {
              turn = turn-else n g.link (others j u g apart there is) ∙ up.turn;
              log = up.log;
              numbered = up.numbered;
            };
            deals = old.deals;
          });
      links = linked;
      logged = λ l. subst (λ k. IsLogged k h.history l (h.logs l)) (sym (stamp-stays n)) (h.logged l);
    }

    -- the other links, where the seat had no call in flight at them
    elsewhere : (n : ℕ) (f : Option Flight) (x : mathlib.Core.Option.Option S) (l : ℕ) → l ≢ link → l < length (set s.homes link x) → ((g : Flight) → v.flight ≡ Some g → g.link ≢ l)
        → IsLinked stands record { words = words-after n; homes = set s.homes link x; views = set s.views id (flying v f) } (h.logs l) l
    elsewhere n f x l other inside-l not-mine = let old = h.links l (subst (λ k. l < k) (length-set s.homes link x) inside-l) in let same = turn-else n l other in record {
      free = λ z. let t = old.free (sym same ∙ z) in (t.0, set_else s.homes link l x other ∙ t.1, t.2);
      taken = λ nz. let t = old.taken (λ z. nz (same ∙ z)) in
          let apart : t.0 ≢ id = λ e. not-mine t.2 (ap (λ (u : View). u.flight) (same-view s.views id t.0 v t.1 (sym e) here t.3) ∙ t.4) t.5 in
          (t.0, t.1, t.2, set_else s.views id t.0 (flying v f) apart ∙ t.3, t.4, t.5);
    }

  -- nothing changed
  pub stays : (terms : Terms) (s : State S View) → Holds stands terms s → (id : ℕ) (v : View) → get_elem? s.views id ≡ some v → (words : List ℕ) → words ≡ s.words
      → Holds stands terms record { words = words; homes = s.homes; views = set s.views id v }
  stays terms s h id v here words same = subst (λ (z : List ℕ × List View). Holds stands terms record { words = z.0; homes = s.homes; views = z.1 }) (λ i. (sym same i, sym (set_again s.views id v here) i)) h

  taken : (terms : Terms) (id link number : ℕ) (me : Hand S) → me.0.flight ≡ None → number_of me.0.entries ≡ number → 1 ≤ length me.0.entries
      → (s : State S View) (h : Holds stands terms s) → link < length s.homes → get_elem? s.views id ≡ some me.0 → (free : get_or s.words (link + 1) 0 ≡ 0)
      → (slot : S) × (log : List BoardEvent) × stands slot log × (get_elem? s.homes link ≡ some (some slot)) × Holds stands terms record { words = set s.words (link + 1) (number + 1); homes = set s.homes link none; views = set s.views id (flying me.0 (Some (flight link false log))) }
  taken terms id link number me landed own some-own s h within here free =
      let home = (h.links link within).free free in
      let slot : S = home.0 in
      let log : List BoardEvent = h.logs link in
      let f : Flight = flight link false log in
      let w : View = flying me.0 (Some f) in (
        slot,
        log,
        home.2,
        home.1,
        turned terms s h id me.0 here link within (number + 1) (Some f) (set s.homes link none) (length-set s.homes link none)
            (λ g is. subst (IsFlying (set s.words (link + 1) (number + 1)) h.logs me.0.entries) (flight-one f g is) record {
              turn = turn-set terms s h id me.0 here link within (number + 1) link refl ∙ ap (λ (k : ℕ). k + 1) (sym own);
              log = refl;
              numbered = some-own;
            })
            (λ j u g apart there is same. let busy = ((h.seats j u there).flies g is).turn in
            let zero-here : get_or s.words (g.link + 1) 0 ≡ 0 = ap (λ (k : ℕ). get_or s.words (k + 1) 0) same ∙ free in omega arith)
            (λ l inside-l. dite (ℕ_discrete l link)
            (λ same. record {
              free = λ z. let now = turn-set terms s h id me.0 here link within (number + 1) l same in absurd (omega arith);
              taken = λ _. (id, w, f, set_here s.views id w (inside s.views id me.0 here), refl, sym same);
            })
            (λ other. elsewhere terms s h id me.0 here link within (number + 1) (Some f) none l other inside-l (λ g up. absurd (none-some g (sym landed ∙ up))))),
      )

  -- kind 1
  pub takes-turn : (terms : Terms) (slots id link number : ℕ) (me : Hand S) → link < slots → me.0.flight ≡ None → number_of me.0.entries ≡ number → 1 ≤ length me.0.entries
      → Allows (Holds stands terms) slots id me (link + 1) (λ n. either (eqb n 0) (number + 1) n) (takes_turn stands (step slots (link + 1) 0 (number + 1) none) me)
  takes-turn terms slots id link number me within landed own some-own s h long here small = let n : ℕ = get_or s.words (link + 1) 0 in let back : (link + 1) - 1 ≡ link = omega arith in dite (ℕ_discrete n 0)
      (λ free. let t = taken terms id link number me landed own some-own s h (subst (λ k. link < k) (sym long) within) here free in
      let w : View = flying me.0 (Some (flight link false t.1)) in let hit = eq-eqb n 0 free in (
        w,
        takes link t.0,
        t.3,
        subst (λ b. Holds stands terms (stepped s (link + 1) (either b (number + 1) n) id me.1 w (takes link t.0))) (sym hit) t.4,
        subst (λ (z : ℕ × Bool). Takes stands z.0 me (w, (link, t.0) ∷ me.1) z.1) (λ i. (sym back i, sym hit i)) (t.0, t.1, t.2, refl),
      ))
      (λ busy. let miss = ne_eqb n 0 busy in (
        me.0,
        keeps,
        tt,
        stays terms s h id me.0 here (set s.words (link + 1) (either (eqb n 0) (number + 1) n)) (ap (λ b. set s.words (link + 1) (either b (number + 1) n)) miss ∙ set-get_or s.words (link + 1) 0),
        subst (λ b. Takes stands ((link + 1) - 1) me me b) (sym miss) refl,
      ))

  -- kind 3: the slot in the hand has the log that the link stands for
  pub gives-turn : (terms : Terms) (slots id link : ℕ) (me : Hand S) (slot : S) (drawn : Bool) (log : List BoardEvent) (more : List (ℕ × S)) → link < slots → stands slot log → me.0.flight ≡ Some (flight link drawn log) → me.1 ≡ (link, slot) ∷ more
      → Allows (Holds stands terms) slots id me (link + 1) (λ _. 0) (λ _. gives_turn (step slots (link + 1) 0 0 none) me 0)
  gives-turn terms slots id link me slot drawn log more within stood up held s h long here small =
      let f : Flight = flight link drawn log in
      let seated = h.seats id me.0 here in
      let mine = seated.flies f up in
      let within' : link < length s.homes = subst (λ k. link < k) (sym long) within in
      let homes : List (mathlib.Core.Option.Option S) = set s.homes link (some slot) in
      let w : View = flying me.0 None in (
        w,
        gives,
        tt,
        subst (λ hs. Holds stands terms record { words = set s.words (link + 1) 0; homes = hs; views = set s.views id w }) (ap (put_back s.homes) (sym held)) (turned terms s h id me.0 here link within' 0 None homes (length-set s.homes link (some slot))
            (λ g is. absurd (none-some g is))
            (λ j u g apart there is same. let theirs = (h.seats j u there).flies g is in
            apart (one-owner terms s.words h.logs h.owner h.history j id u me.0 (h.seats j u there) seated theirs.numbered mine.numbered
            (let mine-turn = mine.turn in let turn : get_or s.words (link + 1) 0 ≡ number_of u.entries + 1 = ap (λ (k : ℕ). get_or s.words (k + 1) 0) (sym same) ∙ theirs.turn in omega arith)))
            (λ l inside-l. dite (ℕ_discrete l link)
            (λ same. record {
              free = λ _. (slot, ap (get_elem? homes) same ∙ set_here s.homes link (some slot) within', subst (stands slot) (mine.log ∙ ap h.logs (sym same)) stood);
              taken = λ nz. absurd (nz (turn-set terms s h id me.0 here link within' 0 l same));
            })
            (λ other. elsewhere terms s h id me.0 here link within' 0 None (some slot) l other inside-l (λ g is at-l. other (sym at-l ∙ ap (λ (x : Flight). x.link) (flight-one g f (sym is ∙ up))))))),
        refl,
      )

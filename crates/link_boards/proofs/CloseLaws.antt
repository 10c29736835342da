-- What is left when all passes have ended.
use Rattle.std.proofs.Common.{◌≡◌, ℕ, zero, suc, ◌+◌, ◌<◌, ◌≤◌, cond, Bool, false, set, List, [], ◌∷◌, ◌++◌, map, length, get_or, sym, refl, ap, ◌∙◌, subst, arith, eq-eqb, ne_eqb, lt_of_not-le}
use Rattle.std.specs.Prelude.{Option, Some, None, All, IfSome, slice_get}
use Rattle.std.proofs.lemmas.Option.{none-some}
use Rattle.std.proofs.lemmas.List.Elements.{All-cons, All-nil, All-tail}
use mathlib.Core.Logic.{dite}
use mathlib.Core.Option.{some, some-injective, some-ne-none}
use native.Mathlib.Decide.{ℕ_discrete, dec_le}
use lib.ListN.{get_elem?}
use Rattle.atomic_table.specs.Table.{State, Final, Seen}
use Rattle.board_model.specs.declared.boards.BoardEvent.{BoardEvent}
use Rattle.board_model.specs.Boards.{Log}
use Rattle.link_boards.specs.declared.views.Entry.{Entry}
use Rattle.link_boards.specs.declared.views.Terms.{Terms}
use Rattle.link_boards.specs.declared.views.View.{View}
use Rattle.board_model.specs.Calls.{calls_at, event_of, events_by, log_at, Agrees}
use Rattle.board_model.proofs.Places.{legal-ordered}
use Rattle.link_boards.specs.Views.{entry, number_of}
use Rattle.link_boards.specs.Rule.{Owns, IsLogged, Holds}
use Rattle.link_boards.specs.Passes.{PassView, calls_in, AreLogsOfPasses}
use Rattle.link_boards.specs.Gathered.{IsClosed, Has}
use Rattle.link_boards.proofs.Lists.{same-view, some-one}
use Rattle.link_boards.proofs.TurnLaws.{owner-of}

pub some-weaker : {X : Type 0} (o : Option X) (P Q : X → Type 0) → IfSome o P → ((x : X) → P x → Q x) → IfSome o Q
some-weaker None P Q h f = tt
some-weaker (Some x) P Q h f = f x h

-- an entry that a list has is one of which all holds
pub all-has : (P : Entry → Type 0) (es : List Entry) (e : Entry) → All P es → Has es e → P e
all-has P es e all has = find es has.0 all has.1
  where
    find : (es : List Entry) (k : ℕ) → All P es → slice_get es k ≡ Some e → P e
    find [] k all is = absurd (none-some e is)
    find (x ∷ xs) zero all is = subst P (ap (λ o. Rattle.std.specs.Prelude.unwrap_or o e) is) (all 0 x (omega arith))
    find (x ∷ xs) (suc k) all is = find xs k (All-tail P x xs all) is

pub has-left : (es more : List Entry) (e : Entry) → Has es e → Has (es ++ more) e
has-left es more e has = (has.0, find es has.0 has.1)
  where
    find : (es : List Entry) (k : ℕ) → slice_get es k ≡ Some e → slice_get (es ++ more) k ≡ Some e
    find [] k is = absurd (none-some e is)
    find (x ∷ xs) zero is = is
    find (x ∷ xs) (suc k) is = find xs k is

pub has-last : (es : List Entry) (e : Entry) → Has (es ++ e ∷ []) e
has-last [] e = (0, refl)
has-last (x ∷ xs) e = let h = has-last xs e in (suc h.0, h.1)

-- where no number from n on has an event, the nodes are below n
nodes-below : (log : List BoardEvent) (n : ℕ) → ((m : ℕ) → n ≤ m → events_by m log ≡ []) → All (λ e. e.node < n) log
nodes-below [] n none-past = All-nil (λ e. e.node < n)
nodes-below (e ∷ es) n none-past = All-cons (λ e. e.node < n) e es
    (dite (dec_le n e.node) (λ past. absurd (some-ne-none e (ap (λ l. get_elem? l 0) (sym (ap (λ b. cond b (e ∷ events_by e.node es) (events_by e.node es)) (eq-eqb e.node e.node refl)) ∙ none-past e.node past)))) (λ before. lt_of_not-le before))
    (nodes-below es n (λ m past. dite (ℕ_discrete e.node m)
    (λ same. absurd (some-ne-none e (ap (λ l. get_elem? l 0) (sym (ap (λ b. cond b (e ∷ events_by m es) (events_by m es)) (eq-eqb e.node m same)) ∙ none-past m past))))
    (λ other. sym (ap (λ b. cond b (e ∷ events_by m es) (events_by m es)) (ne_eqb e.node m other)) ∙ none-past m past)))

-- what holds of the value of the element at a place, where there is one, holds of the values' list there
pub at-inside : {X Y : Type 0} (f : X → Y) (Q : Y → Type 0) (xs : List X) (n : ℕ) (d : Y) → n < length xs → IfSome (slice_get xs n) (λ x. Q (f x)) → Q (get_or (map f xs) n d)
at-inside f Q [] n d within h = absurd (omega arith)
at-inside f Q (x ∷ xs) zero d within h = h
at-inside f Q (x ∷ xs) (suc n) d within h = at-inside f Q xs n d (omega arith) h

at-past : {X Y : Type 0} (f : X → Y) (xs : List X) (n : ℕ) (d : Y) → length xs ≤ n → get_or (map f xs) n d ≡ d
at-past f [] n d past = refl
at-past f (x ∷ xs) zero d past = absurd (omega arith)
at-past f (x ∷ xs) (suc n) d past = at-past f xs n d (omega arith)

pub all-if : {X : Type 0} (P : X → Type 0) (xs : List X) → ((k : ℕ) → IfSome (slice_get xs k) P) → All P xs
all-if P [] each = All-nil P
all-if P (x ∷ xs) each = All-cons P x xs (each 0) (all-if P xs (λ k. each (suc k)))

module _ {S : Type 0} (stands : S → List BoardEvent → Type 0) where
  inside-elem : (xs : List S) (l : ℕ) (x : S) → get_elem? xs l ≡ some x → l < length xs
  inside-elem [] l x e = absurd (some-ne-none x (sym e))
  inside-elem (y ∷ ys) zero x e = omega arith
  inside-elem (y ∷ ys) (suc l) x e = let i : l < length ys = inside-elem ys l x e in omega arith

  -- one seat has taken in all passes, and no call is in flight at it
  module _ (terms : Terms) (id : ℕ) (v : View) (ws : List ℕ) (xs : List S) (final : Final (Seen (Holds stands terms) id v) ws xs) (down : v.flight ≡ None)
      (passes : List PassView) (count : length passes ≡ terms.passes) (each : (k : ℕ) → IfSome (slice_get passes k) (λ p. Has v.entries (entry k p.calls))) where
    abbrev s : State S View
    s = final.0

    abbrev h : Holds stands terms s
    h = final.1.0

    -- the seat stands for each number, and its entry has the calls of the pass
    stands-for : (n : ℕ) → n < length passes → (h.owner n ≡ Some id) × (h.history n ≡ calls_in passes n)
    stands-for n within = all-has (Owns h.owner h.history id) v.entries (entry n (calls_in passes n)) (h.seats id v final.1.1).owns
        (at-inside (λ (p : PassView). p.calls) (λ calls. Has v.entries (entry n calls)) passes n [] within (each n))

    history-is : (n : ℕ) → h.history n ≡ calls_in passes n
    history-is n = dite (dec_le (length passes) n)
        (λ past. (h.unmade n (subst (λ k. k ≤ n) count past)).1 ∙ sym (at-past (λ (p : PassView). p.calls) passes n [] past))
        (λ before. (stands-for n (lt_of_not-le before)).1)

    -- so no turn is taken
    all-free : (l : ℕ) → l < length s.homes → get_or s.words (l + 1) 0 ≡ 0
    all-free l within = dite (ℕ_discrete (get_or s.words (l + 1) 0) 0) (λ z. z) (λ nz. absurd (
        let t = (h.links l within).taken nz in
        let n : ℕ = number_of t.1.entries in
        let theirs = h.seats t.0 t.1 t.3 in
        let theirs-is : h.owner n ≡ Some t.0 = owner-of terms s.words h.logs h.owner h.history t.0 t.1 theirs (theirs.flies t.2 t.4).numbered in
        dite (dec_le (length passes) n)
        (λ past. none-some t.0 (sym (h.unmade n (subst (λ k. k ≤ n) count past)).0 ∙ theirs-is))
        (λ before.
        let same : t.0 ≡ id = some-one t.0 id (sym theirs-is ∙ (stands-for n (lt_of_not-le before)).0) in
        none-some t.2 (sym down ∙ (ap (λ (u : View). u.flight) (same-view s.views id t.0 v t.1 (sym same) final.1.1 t.3) ∙ t.4)))))

    closed : (l : ℕ) → IsClosed passes l (h.logs l)
    closed l = let logged : IsLogged (get_or s.words 0 0) h.history l (h.logs l) = h.logged l in record {
      legal = logged.legal;
      nodes = nodes-below (h.logs l) (length passes) (λ n past. logged.tied n ∙ ap (λ cs. map (event_of n) (calls_at l cs)) (h.unmade n (subst (λ k. k ≤ n) count past)).1);
      tied = λ n. logged.tied n ∙ ap (λ cs. map (event_of n) (calls_at l cs)) (history-is n);
      agrees = λ n. subst (λ cs. All (Agrees (h.logs l)) (calls_at l cs)) (history-is n) (logged.agrees n);
    }

    -- each slot stands for the log of its link
    pub closes : (l : ℕ) (slot : S) → get_elem? xs l ≡ some slot → (log : List BoardEvent) × stands slot log × IsClosed passes l log
    closes l slot there =
        let within : l < length s.homes = subst (λ n. l < n) (sym final.3) (inside-elem xs l slot there) in
        let home = (h.links l within).free (all-free l within) in
        let same : home.0 ≡ slot = some-injective home.0 slot (sym (final.4 l home.0 home.1) ∙ there) in
        (h.logs l, subst (λ x. stands x (h.logs l)) same home.2, closed l)

    -- and where there is no link, there is no call
    pub closes-beyond : (l : ℕ) → length xs ≤ l → IsClosed passes l []
    closes-beyond l past = subst (IsClosed passes l) (h.unlinked l (subst (λ n. n ≤ l) (sym final.3) past)) (closed l)

-- logs that are closed each are those of the passes
pub all-closed : (links : ℕ) (passes : List PassView) (logs : List Log) → length logs ≡ links → ((l : ℕ) → IfSome (slice_get logs l) (λ log. IsClosed passes l log.events)) → ((l : ℕ) → links ≤ l → IsClosed passes l [])
    → AreLogsOfPasses links passes logs
all-closed links passes logs count each beyond =
    let one : (l : ℕ) → IsClosed passes l (log_at logs l) = λ l. dite (dec_le (length logs) l)
    (λ past. subst (IsClosed passes l) (sym (at-past (λ (log : Log). log.events) logs l [] past)) (beyond l (subst (λ n. n ≤ l) count past)))
    (λ before. at-inside (λ (log : Log). log.events) (IsClosed passes l) logs l [] (lt_of_not-le before) (each l)) in
    record {
      count = count;
      nodes = all-if (λ (log : Log). All (λ event. event.node < length passes) log.events) logs (λ l. some-weaker (slice_get logs l) (λ log. IsClosed passes l log.events) (λ log. All (λ event. event.node < length passes) log.events) (each l) (λ log closed. closed.nodes));
      made = λ l. record { ordered = legal-ordered (log_at logs l) (one l).legal; tied = (one l).tied };
      agree = record { legal = λ l. (one l).legal; each = λ l. (one l).agrees };
    }

-- one log more
pub each-push : (P : ℕ → Log → Type 0) (xs : List Log) (x : Log) → ((k : ℕ) → IfSome (slice_get xs k) (P k)) → P (length xs) x → (k : ℕ) → IfSome (slice_get (xs ++ x ∷ []) k) (P k)
each-push P [] x old new zero = new
each-push P [] x old new (suc k) = tt
each-push P (y ∷ ys) x old new zero = old zero
each-push P (y ∷ ys) x old new (suc k) = each-push (λ j. P (suc j)) ys x (λ j. old (suc j)) new k

-- a slot that was taken is empty
pub taken-here : (filled : List Bool) (k j : ℕ) → j ≡ k → get_or (set filled k false) j false ≡ false
taken-here [] k j e = refl
taken-here (x ∷ xs) zero zero e = refl
taken-here (x ∷ xs) zero (suc j) e = absurd (omega arith)
taken-here (x ∷ xs) (suc k) zero e = absurd (omega arith)
taken-here (x ∷ xs) (suc k) (suc j) e = taken-here xs k j (omega arith)

-- Kind 2: a stamp is drawn, and the call takes its place in the log.
use Rattle.std.proofs.Common.{◌≡◌, ◌≢◌, ℕ, ◌+◌, ◌%◌, ◌^◌, ◌<◌, ◌≤◌, eqb, true, false, List, [], ◌∷◌, ◌++◌, length, get_or, set, sym, refl, ap, ◌∙◌, subst, arith, le_refl, length-set, get_or-set_other, get_or-set_same, mod-eq_of_lt, ne_eqb, lt_of_not-le}
use Rattle.std.specs.Prelude.{Some, All}
use Rattle.std.proofs.lemmas.Option.{none-some}
use Rattle.std.proofs.lemmas.List.{get_or_past}
use Rattle.std.proofs.lemmas.List.Elements.{All-cons, All-nil}
use mathlib.Core.Logic.{dite}
use mathlib.Core.Option.{some, none}
use native.Mathlib.Decide.{ℕ_discrete, dec_le}
use lib.ListN.{get_elem?}
use Rattle.atomic_table.specs.Table.{State, step, keeps, Allows}
use Rattle.atomic_table.proofs.Lists.{set_here, set_else}
use Rattle.board_model.specs.declared.forecasts.Row.{Row}
use Rattle.board_model.specs.declared.boards.BoardEvent.{BoardEvent}
use Rattle.board_model.specs.declared.calls.Call.{Call}
use Rattle.board_model.specs.Forecasts.{IsAboveLast}
use Rattle.board_model.specs.Boards.{IsReadOf, most_versions, stamps, version_of, after_read, after_publish, forecast_of}
use Rattle.board_model.specs.Calls.{calls_at, event_of}
use Rattle.board_model.proofs.ForBoards.{version_of-few}
use Rattle.board_model.proofs.ForCallers.{version_of-read, version_of-publish, forecast_of-kept}
use Rattle.board_model.proofs.LogLaws.{newest-publish}
use Rattle.link_boards.specs.declared.views.Flight.{Flight}
use Rattle.link_boards.specs.declared.views.Terms.{Terms}
use Rattle.link_boards.specs.declared.views.View.{View}
use Rattle.link_boards.specs.Views.{entry, flight, number_of, calls_of, push_call, link_in, is_drawn, events_in, drew, read_call, publish_call, drew_read, drew_publish}
use Rattle.link_boards.specs.Rule.{Owns, IsUnmade, IsFlying, IsDealing, IsSeated, IsLinked, IsLogged, Holds}
use Rattle.link_boards.specs.Plays.{Hand, IsPast, HasDrawn, draws_read, draws_publish}
use Rattle.link_boards.proofs.Lists.{inside, same-view, seats_set, total_set, total_one, changed, changed-here, changed-else, flight-one, some-one}
use Rattle.link_boards.proofs.Logs.{filter-miss, log-few, above-stamps, past-calls, logged-else, logged-more, grown}
use Rattle.link_boards.proofs.TurnLaws.{owner-of, one-owner}

module _ {S : Type 0} (stands : S → List BoardEvent → Type 0) where
  module _ (terms : Terms) (s : State S View) (h : Holds stands terms s) (id : ℕ) (v : View) (here : get_elem? s.views id ≡ some v) (link number : ℕ) (events : List BoardEvent) (calls : List Call)
      (up : v.flight ≡ Some (flight link false events)) (own : v.entries ≡ entry number calls ∷ []) (some-left : 0 < v.left) where
    abbrev now : ℕ
    now = get_or s.words 0 0

    mine : IsSeated terms s.words h.logs h.owner h.history id v
    mine = h.seats id v here

    flies : IsFlying s.words h.logs v.entries (flight link false events)
    flies = mine.flies (flight link false events) up

    number-is : number_of v.entries ≡ number
    number-is = ap number_of own

    is-owner : h.owner number ≡ Some id
    is-owner = ap h.owner (sym number-is) ∙ owner-of terms s.words h.logs h.owner h.history id v mine flies.numbered

    history-is : h.history number ≡ calls
    history-is = (subst (All (Owns h.owner h.history id)) own mine.owns 0 (entry number calls) (omega arith)).1

    pub now-few : now < most_versions
    now-few = let c = h.counted in let o = total_one (λ u. u.left) s.views id v here in omega arith

    pub logged-here : IsLogged now h.history link events
    logged-here = subst (IsLogged now h.history link) (sym flies.log) (h.logged link)

    pub learned : HasDrawn v now
    learned = let there : events_in v.flight ≡ events = ap events_in up in record {
      once = ap is_drawn up;
      known = mine.known;
      above = subst (λ es. IsAboveLast (stamps es) now) (sym there) (above-stamps events now logged-here.below);
      few = subst (λ es. version_of es < most_versions) (sym there) (let a = version_of-few events in let b = log-few events now logged-here.legal logged-here.below in let c = now-few in omega arith);
      past = subst (λ es. All (IsPast es) (calls_at (link_in v.flight) (calls_of v.entries))) (sym there)
          (subst (λ l. All (IsPast events) (calls_at l (calls_of v.entries))) (sym (ap link_in up))
          (subst (λ cs. All (IsPast events) (calls_at link cs)) (history-is ∙ sym (ap calls_of own)) (past-calls now h.history link events logged-here number)));
    }

    module _ (call : Call) (after : List BoardEvent) (to : call.link ≡ link) (stamped : call.stamp ≡ now) (after-is : after ≡ events ++ event_of number call ∷ [])
        (read : IsReadOf (version_of events) (event_of number call).kind) (version : call.version ≡ version_of after) (forecast : call.forecast ≡ forecast_of after call.version) where
      abbrev w : View
      w = drew v now call after

      abbrev words-after : List ℕ
      words-after = set s.words 0 (now + 1)

      abbrev logs-after : ℕ → List BoardEvent
      logs-after = changed h.logs link after

      abbrev history-after : ℕ → List Call
      history-after = grown now h.history link number events call

      stamp-set : get_or words-after 0 0 ≡ now + 1
      stamp-set = let wide = h.wide in get_or-set_same s.words 0 (now + 1) 0 (omega arith)

      turn-stays : (l : ℕ) → get_or words-after (l + 1) 0 ≡ get_or s.words (l + 1) 0
      turn-stays l = get_or-set_other s.words 0 (l + 1) (now + 1) 0 (λ e. omega arith)

      number-after : number_of w.entries ≡ number
      number-after = ap (λ es. number_of (push_call es call)) own

      history-else : (m : ℕ) → m ≢ number → history-after m ≡ h.history m
      history-else m other = changed-else h.history number (h.history number ++ call ∷ []) m other

      unmade-stays : (m : ℕ) → IsUnmade h.owner h.history m → IsUnmade h.owner history-after m
      unmade-stays m free = (free.0, history-else m (λ e. none-some id (sym free.0 ∙ (ap h.owner e ∙ is-owner))) ∙ free.1)

      dealing-stays : (j made : ℕ) → IsDealing terms h.owner h.history j made → IsDealing terms h.owner history-after j made
      dealing-stays j made old = record { first = old.first; most = old.most; unmade = λ n past. unmade-stays n (old.unmade n past) }

      link-in : link_in v.flight ≡ link
      link-in = ap link_in up

      mine-seated : IsSeated terms words-after logs-after h.owner history-after id w
      mine-seated = record {
        known = subst (λ k. now + 1 ≤ k) (sym stamp-set) (omega arith);
        owns = subst (λ es. All (Owns h.owner history-after id) (push_call es call)) (sym own)
            (All-cons (Owns h.owner history-after id) (entry number (calls ++ call ∷ [])) []
            (is-owner, changed-here h.history number (h.history number ++ call ∷ []) number refl ∙ ap (λ cs. cs ++ call ∷ []) history-is)
            (All-nil (Owns h.owner history-after id)));
        flies = λ g is. subst (IsFlying words-after logs-after w.entries) (flight-one (flight (link_in v.flight) true after) g is) record {
          turn = turn-stays (link_in v.flight) ∙ ap (λ (k : ℕ). get_or s.words (k + 1) 0) link-in ∙ flies.turn ∙ ap (λ (k : ℕ). k + 1) (number-is ∙ sym number-after);
          log = sym (changed-here h.logs link after (link_in v.flight) link-in);
          numbered = subst (λ es. 1 ≤ length (push_call es call)) (sym own) (omega arith);
        };
        deals = λ does. dealing-stays id v.made (mine.deals does);
      }

      other-seated : (j : ℕ) (u : View) → j ≢ id → get_elem? s.views j ≡ some u → IsSeated terms words-after logs-after h.owner history-after j u
      other-seated j u apart there = let old = h.seats j u there in record {
        known = subst (λ k. u.known ≤ k) (sym stamp-set) (let k = old.known in omega arith);
        owns = λ k d within. let o = old.owns k d within in (o.0, history-else _ (λ e. apart (some-one j id (sym o.0 ∙ (ap h.owner e ∙ is-owner)))) ∙ o.1);
        flies = λ g is. let o = old.flies g is in record {
          turn = turn-stays g.link ∙ o.turn;
          log = o.log ∙ sym (changed-else h.logs link after g.link (λ e. apart (one-owner terms s.words h.logs h.owner h.history j id u v old mine o.numbered flies.numbered
              (let a = o.turn in let b : get_or s.words (g.link + 1) 0 ≡ number_of v.entries + 1 = ap (λ (k : ℕ). get_or s.words (k + 1) 0) e ∙ flies.turn in omega arith))));
          numbered = o.numbered;
        };
        deals = λ does. dealing-stays j u.made (old.deals does);
      }

      -- the turn of the link is not free
      busy : (l : ℕ) → get_or words-after (l + 1) 0 ≡ 0 → l ≢ link
      busy l z e = let a = flies.turn in let b : get_or s.words (link + 1) 0 ≡ 0 = ap (λ (k : ℕ). get_or s.words (k + 1) 0) (sym e) ∙ (sym (turn-stays l) ∙ z) in absurd (omega arith)

      linked : (l : ℕ) → l < length s.homes → IsLinked stands record { words = words-after; homes = s.homes; views = set s.views id w } (logs-after l) l
      linked l within = let old = h.links l within in record {
        free = λ z. let t = old.free (sym (turn-stays l) ∙ z) in (t.0, t.1, subst (stands t.0) (sym (changed-else h.logs link after l (busy l z))) t.2);
        taken = λ nz. let t = old.taken (λ z. nz (turn-stays l ∙ z)) in dite (ℕ_discrete t.0 id)
            (λ same. let l-is : l ≡ link = sym t.5 ∙ ap (λ (f : Flight). f.link) (flight-one t.2 (flight link false events) (sym t.4 ∙ ap (λ (u : View). u.flight) (same-view s.views t.0 id t.1 v same t.3 here) ∙ up)) in
            (id, w, flight (link_in v.flight) true after, set_here s.views id w (inside s.views id v here), refl, link-in ∙ sym l-is))
            (λ apart. (t.0, t.1, t.2, set_else s.views id t.0 w apart ∙ t.3, t.4, t.5));
      }

      calls-else : (l : ℕ) → l ≢ link → (m : ℕ) → calls_at l (history-after m) ≡ calls_at l (h.history m)
      calls-else l other m = dite (ℕ_discrete m number)
          (λ e. ap (calls_at l) (changed-here h.history number (h.history number ++ call ∷ []) m e)
          ∙ filter-miss (λ (c : Call). eqb c.link l) (h.history number) call (ne_eqb call.link l (λ same. other (sym same ∙ to)))
          ∙ ap (λ (k : ℕ). calls_at l (h.history k)) (sym e))
          (λ apart. ap (calls_at l) (history-else m apart))

      logged : (l : ℕ) → IsLogged (now + 1) history-after l (logs-after l)
      logged l = dite (ℕ_discrete l link)
          (λ e. subst (λ (z : ℕ × List BoardEvent). IsLogged (now + 1) history-after z.0 z.1) (λ i. (sym e i, (sym after-is ∙ sym (changed-here h.logs link after l e)) i))
          (logged-more now h.history link number events call logged-here to stamped read (version ∙ ap version_of after-is) (forecast ∙ ap (λ es. forecast_of es call.version) after-is)))
          (λ other. subst (IsLogged (now + 1) history-after l) (sym (changed-else h.logs link after l other))
          (logged-else now h.history history-after l (h.logs l) (calls-else l other) (h.logged l)))

      -- the turn of a link beyond is not taken, since there is no word for it
      within : link < length s.homes
      within = dite (dec_le (length s.homes) link)
          (λ past. let wide = h.wide in let a = flies.turn in let z = get_or_past s.words (link + 1) 0 (omega arith) in absurd (omega arith))
          (λ before. lt_of_not-le before)

      pub draws : Holds stands terms record { words = words-after; homes = s.homes; views = set s.views id w }
      draws = record {
        logs = logs-after;
        owner = h.owner;
        history = history-after;
        unmade = λ n past. unmade-stays n (h.unmade n past);
        unlinked = λ l past. changed-else h.logs link after l (λ e. let there = within in omega arith) ∙ h.unlinked l past;
        wide = length-set s.words 0 (now + 1) ∙ h.wide;
        counted = let t = total_set (λ u. u.left) s.views id v w here in let c = h.counted in let st = stamp-set in omega arith;
        seats = seats_set (IsSeated terms words-after logs-after h.owner history-after) s.views id w mine-seated other-seated;
        links = linked;
        logged = λ l. subst (λ k. IsLogged k history-after l (logs-after l)) (sym stamp-set) (logged l);
      }

  no-wrap : (n : ℕ) → n < most_versions → (n + 1) % 2 ^ 64 ≡ n + 1
  no-wrap n few = mod-eq_of_lt (omega arith)

  module _ (terms : Terms) (slots id link number : ℕ) (me : Hand S) (events : List BoardEvent) (calls : List Call)
      (up : me.0.flight ≡ Some (flight link false events)) (own : me.0.entries ≡ entry number calls ∷ []) (some-left : 0 < me.0.left) where
    -- kind 2, a reading
    pub draws-read : Allows (Holds stands terms) slots id me 0 (λ n. (n + 1) % 2 ^ 64) (draws_read (step slots 0 1 0 none) me)
    draws-read s h long here small = let n : ℕ = get_or s.words 0 0 in let v : View = me.0 in
        let call : Call = read_call (link_in v.flight) n (events_in v.flight) in
        let after : List BoardEvent = after_read (events_in v.flight) n (number_of v.entries) in
        let L = ap link_in up in let E = ap events_in up in let N = ap number_of own in (
          drew_read v n,
          keeps,
          tt,
          subst (λ (k : ℕ). Holds stands terms record { words = set s.words 0 k; homes = s.homes; views = set s.views id (drew_read v n) }) (sym (no-wrap n (now-few terms s h id v here link number events calls up own some-left)))
              (draws terms s h id v here link number events calls up own some-left call after L refl
              (λ i. E i ++ event_of (N i) call ∷ [])
              (ap version_of E)
              (sym (version_of-read (events_in v.flight) n (number_of v.entries)))
              (sym (forecast_of-kept (events_in v.flight) _ (version_of (events_in v.flight)) (le_refl (version_of (events_in v.flight)))))),
          (learned terms s h id v here link number events calls up own some-left, refl),
        )

    -- kind 2, a publishing
    pub draws-publish : (f : List Row) → Allows (Holds stands terms) slots id me 0 (λ n. (n + 1) % 2 ^ 64) (draws_publish f (step slots 0 1 0 none) me)
    draws-publish f s h long here small = let n : ℕ = get_or s.words 0 0 in let v : View = me.0 in
        let call : Call = publish_call (link_in v.flight) n (events_in v.flight) f in
        let after : List BoardEvent = after_publish (events_in v.flight) n (number_of v.entries) f in
        let L = ap link_in up in let E = ap events_in up in let N = ap number_of own in let V = version_of-publish (events_in v.flight) n (number_of v.entries) f in (
          drew_publish f v n,
          keeps,
          tt,
          subst (λ (k : ℕ). Holds stands terms record { words = set s.words 0 k; homes = s.homes; views = set s.views id (drew_publish f v n) }) (sym (no-wrap n (now-few terms s h id v here link number events calls up own some-left)))
              (draws terms s h id v here link number events calls up own some-left call after L refl
              (λ i. E i ++ event_of (N i) call ∷ [])
              tt
              (sym V)
              (sym (newest-publish (events_in v.flight) n (number_of v.entries) f) ∙ ap (forecast_of after) V)),
          (learned terms s h id v here link number events calls up own some-left, refl),
        )

-- A link's log, and the log with one event more.
use Rattle.std.proofs.Common.{◌≡◌, ◌≢◌, ℕ, ◌+◌, ◌<◌, ◌≤◌, eqb, cond, Bool, true, false, List, [], ◌∷◌, ◌++◌, map, length, get_or, sym, refl, ap, ◌∙◌, subst, arith, eq-eqb, ne_eqb, le-leb, length-append, append-nil, le_refl}
use Rattle.std.specs.Prelude.{All, filter, nat_le}
use Rattle.std.proofs.lemmas.Bool.{lt-leb}
use Rattle.std.proofs.lemmas.List.{map-append, length-map}
use Rattle.std.proofs.lemmas.List.Elements.{All-append, All-filter, All-map, All-weaker, All-cons, All-nil, All-tail, filter-append}
use mathlib.Core.Logic.{dite}
use native.Mathlib.Decide.{ℕ_discrete}
use Rattle.board_model.specs.declared.boards.BoardEvent.{BoardEvent}
use Rattle.board_model.specs.Forecasts.{IsAboveLast}
use Rattle.board_model.specs.Boards.{IsLegal, IsReadOf, stamps, published, published_by, version_of, forecast_of, up_to}
use Rattle.board_model.proofs.LogLaws.{IsLegal-more}
use Rattle.board_model.proofs.ForBoards.{rising-few, above-all}
use Rattle.board_model.proofs.ForCallers.{forecast_of-kept}
use Rattle.board_model.specs.declared.calls.Call.{Call}
use Rattle.board_model.specs.Calls.{calls_at, event_of, events_by, Agrees}
use Rattle.link_boards.specs.Rule.{IsLogged}
use Rattle.link_boards.specs.Plays.{IsPast}
use Rattle.link_boards.proofs.Lists.{changed, changed-here, changed-else}

-- a test that all pass leaves all
filter-all : {X : Type 0} (p : X → Bool) (xs : List X) → All (λ x. p x ≡ true) xs → filter p xs ≡ xs
filter-all p [] all = refl
filter-all p (x ∷ xs) all = ap (λ b. cond b (x ∷ filter p xs) (filter p xs)) (all 0 x (omega arith)) ∙ ap (λ l. x ∷ l) (filter-all p xs (All-tail (λ y. p y ≡ true) x xs all))

-- one that the last fails, and one that it passes
pub filter-miss : {X : Type 0} (p : X → Bool) (xs : List X) (x : X) → p x ≡ false → filter p (xs ++ x ∷ []) ≡ filter p xs
filter-miss p xs x fails = filter-append p xs (x ∷ []) ∙ ap (λ b. filter p xs ++ cond b (x ∷ []) []) fails ∙ append-nil (filter p xs)

pub filter-hit : {X : Type 0} (p : X → Bool) (xs : List X) (x : X) → p x ≡ true → filter p (xs ++ x ∷ []) ≡ filter p xs ++ x ∷ []
filter-hit p xs x passes = filter-append p xs (x ∷ []) ∙ ap (λ b. filter p xs ++ cond b (x ∷ []) []) passes

-- a part of a log publishes no more than the log
pub version_of-part : (p : BoardEvent → Bool) (events : List BoardEvent) → version_of (filter p events) ≤ version_of events
version_of-part p [] = omega arith
version_of-part p (e ∷ es) = case (version_of-part p es) (p e)
  where
    case : version_of (filter p es) ≤ version_of es → (b : Bool) → version_of (cond b (e ∷ filter p es) (filter p es)) ≤ version_of (e ∷ es)
    case r true = omega (arith, length-append (published_by e.kind) (published (filter p es)), length-append (published_by e.kind) (published es))
    case r false = omega (arith, length-append (published_by e.kind) (published es))

-- the stamps of events below n are below n
stamps-below : (events : List BoardEvent) (n : ℕ) → All (λ e. e.stamp < n) events → All (λ k. k < n) (stamps events)
stamps-below events n below = All-map (λ k. k < n) (λ (e : BoardEvent). e.stamp) events below

pub log-few : (events : List BoardEvent) (n : ℕ) → IsLegal events → All (λ e. e.stamp < n) events → length events ≤ n
log-few events n legal below = subst (λ k. k ≤ n) (length-map events (λ (e : BoardEvent). e.stamp)) (rising-few (stamps events) n legal.rising (stamps-below events n below))

-- what is above all stamps is above the last
pub above-stamps : (events : List BoardEvent) (n : ℕ) → All (λ e. e.stamp < n) events → IsAboveLast (stamps events) n
above-stamps events n below = above-all (stamps events) n (stamps-below events n below)

-- the calls of a number have stamps below n
pub calls-below : (now : ℕ) (history : ℕ → List Call) (link : ℕ) (log : List BoardEvent) → IsLogged now history link log → (m : ℕ) → All (λ c. c.stamp < now) (calls_at link (history m))
calls-below now history link log logged m = back (calls_at link (history m)) (subst (All (λ e. e.stamp < now)) (logged.tied m) (All-filter (λ e. eqb e.node m) (λ e. e.stamp < now) log logged.below))
  where
    back : (calls : List Call) → All (λ e. e.stamp < now) (map (event_of m) calls) → All (λ c. c.stamp < now) calls
    back [] all = All-nil (λ c. c.stamp < now)
    back (c ∷ cs) all = All-cons (λ c. c.stamp < now) c cs (all 0 (event_of m c) (omega arith)) (back cs (All-tail (λ (e : BoardEvent). e.stamp < now) (event_of m c) (map (event_of m) cs) all))

-- what the log has of a pass's own calls
pub past-calls : (now : ℕ) (history : ℕ → List Call) (link : ℕ) (log : List BoardEvent) → IsLogged now history link log → (m : ℕ) → All (IsPast log) (calls_at link (history m))
past-calls now history link log logged m = All-weaker (Agrees log) (IsPast log) (λ c agrees. (subst (λ v. v ≤ version_of log) (sym agrees.version) (version_of-part _ log), agrees.forecast)) (calls_at link (history m)) (logged.agrees m)

-- a later event leaves the agreement
agrees-later : (log : List BoardEvent) (event : BoardEvent) (c : Call) → c.stamp < event.stamp → Agrees log c → Agrees (log ++ event ∷ []) c
agrees-later log event c before agrees = let few : c.version ≤ version_of log = subst (λ v. v ≤ version_of log) (sym agrees.version) (version_of-part _ log) in record {
  version = agrees.version ∙ sym (ap version_of (filter-miss (λ (e : BoardEvent). nat_le e.stamp c.stamp) log event (lt-leb event.stamp c.stamp before)));
  forecast = agrees.forecast ∙ sym (forecast_of-kept log (event ∷ []) c.version few);
}

-- a log where nothing was added
pub logged-else : (now : ℕ) (history history' : ℕ → List Call) (link : ℕ) (log : List BoardEvent) → ((m : ℕ) → calls_at link (history' m) ≡ calls_at link (history m)) → IsLogged now history link log → IsLogged (now + 1) history' link log
logged-else now history history' link log same logged = record {
  legal = logged.legal;
  below = All-weaker (λ e. e.stamp < now) (λ e. e.stamp < now + 1) (λ e b. omega arith) log logged.below;
  tied = λ m. logged.tied m ∙ ap (map (event_of m)) (sym (same m));
  agrees = λ m. subst (All (Agrees log)) (sym (same m)) (logged.agrees m);
}

module _ (now : ℕ) (history : ℕ → List Call) (link number : ℕ) (log : List BoardEvent) (call : Call) where
  abbrev pub grown : ℕ → List Call
  grown = changed history number (history number ++ call ∷ [])

  abbrev pub longer : List BoardEvent
  longer = log ++ event_of number call ∷ []

  -- a log with the event of a call, which is one more of its pass's
  pub logged-more : IsLogged now history link log → call.link ≡ link → call.stamp ≡ now → IsReadOf (version_of log) (event_of number call).kind
      → call.version ≡ version_of longer → call.forecast ≡ forecast_of longer call.version → IsLogged (now + 1) grown link longer
  logged-more logged here stamped read version forecast = record {
    legal = IsLegal-more log (event_of number call) logged.legal (subst (IsAboveLast (stamps log)) (sym stamped) (above-stamps log now logged.below)) read;
    below = All-append (λ e. e.stamp < now + 1) log (event_of number call ∷ []) (All-weaker (λ e. e.stamp < now) (λ e. e.stamp < now + 1) (λ e b. omega arith) log logged.below) (All-cons (λ e. e.stamp < now + 1) (event_of number call) [] (omega arith) (All-nil (λ e. e.stamp < now + 1)));
    tied = λ m. dite (ℕ_discrete m number) (λ mine. tied-mine m mine) (λ other. tied-else m other);
    agrees = λ m. dite (ℕ_discrete m number) (λ mine. agrees-mine m mine) (λ other. subst (All (Agrees longer)) (sym (at-else m other)) (agrees-old m));
  }
    where
      at-mine : (m : ℕ) → m ≡ number → calls_at link (grown m) ≡ calls_at link (history m) ++ call ∷ []
      at-mine m mine = ap (calls_at link) (changed-here history number (history number ++ call ∷ []) m mine) ∙ filter-hit (λ (c : Call). eqb c.link link) (history number) call (eq-eqb call.link link here) ∙ ap (λ (k : ℕ). calls_at link (history k) ++ call ∷ []) (sym mine)

      at-else : (m : ℕ) → m ≢ number → calls_at link (grown m) ≡ calls_at link (history m)
      at-else m other = ap (calls_at link) (changed-else history number (history number ++ call ∷ []) m other)

      tied-mine : (m : ℕ) → m ≡ number → events_by m longer ≡ map (event_of m) (calls_at link (grown m))
      tied-mine m mine = filter-hit (λ (e : BoardEvent). eqb e.node m) log (event_of number call) (eq-eqb number m (sym mine)) ∙ ap (λ l. l ++ event_of number call ∷ []) (logged.tied m)
          ∙ ap (λ (k : ℕ). map (event_of m) (calls_at link (history m)) ++ event_of k call ∷ []) (sym mine) ∙ sym (map-append (event_of m) (calls_at link (history m)) (call ∷ [])) ∙ ap (map (event_of m)) (sym (at-mine m mine))

      tied-else : (m : ℕ) → m ≢ number → events_by m longer ≡ map (event_of m) (calls_at link (grown m))
      tied-else m other = filter-miss (λ (e : BoardEvent). eqb e.node m) log (event_of number call) (ne_eqb number m (λ e. other (sym e))) ∙ logged.tied m ∙ ap (map (event_of m)) (sym (at-else m other))

      agrees-old : (m : ℕ) → All (Agrees longer) (calls_at link (history m))
      agrees-old m k d inside = agrees-later log (event_of number call) (get_or (calls_at link (history m)) k d) (let b = calls-below now history link log logged m k d inside in omega arith) (logged.agrees m k d inside)

      all-up-to : up_to call.stamp longer ≡ longer
      all-up-to = filter-all (λ (e : BoardEvent). nat_le e.stamp call.stamp) longer
          (All-append (λ e. nat_le e.stamp call.stamp ≡ true) log (event_of number call ∷ []) (All-weaker (λ e. e.stamp < now) (λ e. nat_le e.stamp call.stamp ≡ true) (λ e b. le-leb e.stamp call.stamp (omega arith)) log logged.below)
          (All-cons (λ e. nat_le e.stamp call.stamp ≡ true) (event_of number call) [] (le-leb call.stamp call.stamp (le_refl call.stamp)) (All-nil (λ e. nat_le e.stamp call.stamp ≡ true))))

      agrees-mine : (m : ℕ) → m ≡ number → All (Agrees longer) (calls_at link (grown m))
      agrees-mine m mine = subst (All (Agrees longer)) (sym (at-mine m mine)) (All-append (Agrees longer) (calls_at link (history m)) (call ∷ []) (agrees-old m) (All-cons (Agrees longer) call [] record { version = version ∙ sym (ap version_of all-up-to); forecast = forecast } (All-nil (Agrees longer))))

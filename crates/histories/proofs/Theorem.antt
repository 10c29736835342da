-- The theorem of the merged calls.
use Rattle.std.proofs.Common.{◌≡◌, ℕ, zero, suc, ◌<◌, eqb, cond, Bool, true, false, List, [], ◌∷◌, ◌++◌, map, length, take, refl, sym, ap, ◌∙◌, subst, arith, eq-eqb, ne_eqb, inl, inr}
use Rattle.std.specs.Prelude.{Option, None, is_some, unwrap_or, ◌≢◌, All, Some, slice_get, slice_index_or}
use Rattle.std.proofs.lemmas.Bool.{cases_Bool}
use Rattle.std.proofs.lemmas.Option.{get_or_from_slice_get, slice_get_within}
use Rattle.std.proofs.lemmas.List.{length-map}
use Rattle.std.proofs.lemmas.List.Elements.{All-nil, All-cons, All-head, All-tail}
use Rattle.board_model.specs.declared.forecasts.Row.{Row}
use Rattle.board_model.specs.declared.boards.BoardEvent.{BoardEvent}
use Rattle.board_model.specs.declared.boards.BoardKind.TheVariants.{Read, Publish}
use Rattle.board_model.specs.Boards.{IsReadOf}
use Rattle.board_model.specs.Calls.{calls_at, log_at, Agrees, AreLogsOf, Agree}
use Rattle.board_model.specs.declared.calls.Call.{Call}
use Rattle.histories.specs.declared.steps.BoardStep.{BoardStep}
use Rattle.histories.specs.Calls.{IsRising, AreStepRounds, AreCalls}
use Rattle.board_model.specs.Boards.{Log}
use Rattle.net_parts.specs.Numbers.{Net}
use Rattle.net_parts.specs.Outline.{link_at}
use Rattle.road_net.specs.Network.{IsNetwork}
use Rattle.histories.specs.Histories.{count, HasRounds, IsEntry, IsLawful, version_at}
use Rattle.histories.specs.Merges.{IsMerge}
use Rattle.histories.specs.Steps.{board_steps, step_if, AreSteps, publisher}
use Rattle.histories.specs.declared.steps.BoardStep.TheVariants as step
use Rattle.histories.proofs.Players.{are-steps}
use Rattle.histories.proofs.Sorted.{marked}
use Rattle.histories.specs.Places.{StandsAt, AreTold}
use Rattle.histories.proofs.Marks.{Marked, AreMarked, IsMarkedMerge, of_node, step_in}
use Rattle.histories.proofs.Entries.{entry}
use Rattle.histories.proofs.Lists.{filter-yes, filter-no}
use Rattle.histories.proofs.Nodes.{mark, of-node, one-merge}
use Rattle.histories.proofs.CallRounds.{nodes, has, lawful, count-is}
use Rattle.histories.proofs.Places.{step-is, step-in-mark, own-cut, node-at, count-at}
use Rattle.histories.proofs.CallVersions.{version-is}
use Rattle.histories.proofs.Forecasts.{published-is, IsFrom}

-- a list cut at a place
cut-at : (all : List Marked) (i : ℕ) → i < length all → (before : List Marked) × (m : Marked) × (after : List Marked) × (all ≡ before ++ m ∷ after) × (length before ≡ i)
cut-at [] i inside = absurd (omega arith)
cut-at (m ∷ ms) zero inside = ([], m, ms, refl, refl)
cut-at (m ∷ ms) (suc i) inside = let (before, x, after, e, there) = cut-at ms i (omega arith) in (m ∷ before, x, after, ap (λ l. m ∷ l) e, ap suc there)

-- the call after a marked one
call-of : (n : ℕ) (cs : List Call) (front : List Marked) (m : Marked) (rest : List Marked) → map (mark n) cs ≡ front ++ m ∷ rest → (call : Call) × (slice_get cs (length front) ≡ Some call) × (mark n call ≡ m)
call-of n [] [] m rest e = absurd (let f : [] ≡ m ∷ rest = e in cc)
call-of n [] (x ∷ front) m rest e = absurd (let f : [] ≡ x ∷ (front ++ m ∷ rest) = e in cc)
call-of n (c ∷ cs) [] m rest e = (c, refl, (let f : mark n c ∷ map (mark n) cs ≡ m ∷ rest = e in cc))
call-of n (c ∷ cs) (x ∷ front) m rest e = call-of n cs front m rest (let f : mark n c ∷ map (mark n) cs ≡ x ∷ (front ++ m ∷ rest) = e in cc)

-- what holds of the calls at each link holds of each call at its link
spread : (P : ℕ → Call → Type 0) (cs : List Call) → ((l : ℕ) → All (P l) (calls_at l cs)) → All (λ c. P c.link c) cs
spread P [] each = All-nil (λ (c : Call). P c.link c)
spread P (c ∷ cs) each = All-cons (λ (c : Call). P c.link c) c cs
    (All-head (P c.link) c (calls_at c.link cs) (subst (All (P c.link)) (filter-yes (λ (x : Call). eqb x.link c.link) c cs (eq-eqb c.link c.link refl)) (each c.link)))
    (spread P cs (λ l. elim (cases_Bool (eqb c.link l)) [
      | inl here ↦ All-tail (P l) c (calls_at l cs) (subst (All (P l)) (filter-yes (λ (x : Call). eqb x.link l) c cs here) (each l))
      | inr there ↦ subst (All (P l)) (filter-no (λ (x : Call). eqb x.link l) c cs there) (each l)
    ]))

at-get : (P : Call → Type 0) (cs : List Call) (k : ℕ) (c : Call) → All P cs → slice_get cs k ≡ Some c → P c
at-get P cs k c all e = subst P (get_or_from_slice_get cs k c c e) (all k c (slice_get_within cs k c e))

some-call : (a b : Call) → Some a ≡ Some b → a ≡ b
some-call a b e = cc

module _ (steps : ℕ → List BoardStep) (rounds : ℕ) (calls : ℕ → List Call) (turns : AreStepRounds steps rounds calls) (rising : (n : ℕ) → IsRising (calls n)) (logs : ℕ → List BoardEvent) (tied : AreLogsOf calls logs) where
  -- the merge of the logs of the calls is lawful
  pub merge-lawful : (history : List ℕ) → IsMarkedMerge logs history → HasRounds steps rounds history
  merge-lawful history (all, merged, e) = subst (HasRounds steps rounds) (sym e) (lawful steps rounds calls all turns merged.ordered (λ n. of-node calls logs all tied merged n (rising n)))

  -- and there is one
  pub merge-one : (history other : List ℕ) → IsMarkedMerge logs history → IsMarkedMerge logs other → history ≡ other
  merge-one history other (all, merged, e) (more, again, f) = e ∙ ap nodes (one-merge calls logs all tied merged rising more again (λ n. of-node calls logs all tied merged n (rising n) ∙ sym (of-node calls logs more tied again n (rising n)))) ∙ sym f

  module _ (from : ℕ → ℕ) (is-from : IsFrom from steps) (agree : Agree calls logs) where
    stands : (before : List Marked) (m : Marked) (after : List Marked) → AreMarked logs (before ++ m ∷ after) → (call : Call) × StandsAt steps from calls (nodes (before ++ m ∷ after)) (length before) call
    stands before m after merged =
        let all : List Marked = before ++ m ∷ after in
        let n : ℕ = m.event.node in
        let own : has calls all = λ n. of-node calls logs all tied merged n (rising n) in
        let (call, got, is) = call-of n (calls n) (of_node n before) m (of_node n after) (sym (own n) ∙ own-cut before m after) in (
          call,
          record {
            found = ap (λ k. slice_get (calls k) (count k (take (length before) (nodes all)))) (node-at before m after) ∙ ap (slice_get (calls n)) (count-at before m after n) ∙ got;
            step = step-is steps rounds calls turns before m after own ∙ sym (ap step_in is) ∙ step-in-mark n call;
            version = λ reads.
                let read : IsReadOf (version_at steps (nodes all) m.link (length before)) m.event.kind = version-is steps rounds calls turns logs all before m after merged own (agree.legal m.link) refl in
                let mine : IsReadOf (version_at steps (nodes all) call.link (length before)) (cond call.publishes (Publish call.forecast) (Read call.version)) = subst (λ (x : Marked). IsReadOf (version_at steps (nodes all) x.link (length before)) x.event.kind) (sym is) read in
                subst (λ (b : Bool). IsReadOf (version_at steps (nodes all) call.link (length before)) (cond b (Publish call.forecast) (Read call.version))) reads mine;
            forecast = λ reads.
                let a : Agrees (logs call.link) call = at-get (λ (c : Call). Agrees (logs c.link) c) (calls n) (length (of_node n before)) call (spread (λ l c. Agrees (logs l) c) (calls n) (λ l. agree.each l n)) got in
                a.forecast ∙ ap (λ (p : List (List Row)). slice_index_or ([] ∷ p) call.version []) (published-is steps rounds calls turns from is-from logs tied call.link);
          },
        )

    -- at each place of the merge stands a call of its node, a Read with the version of the place
    pub merge-stands : (history : List ℕ) → IsMarkedMerge logs history → (place : ℕ) → place < length history → (call : Call) × StandsAt steps from calls history place call
    merge-stands history (all, merged, e) place inside =
        let long : length all ≡ length history = sym (ap length e ∙ length-map all (λ (m : Marked). m.event.node)) in
        let (before, m, after, cut, there) = cut-at all place (omega arith) in
        let (call, s) = stands before m after (subst (AreMarked logs) cut merged) in
        (call, subst (λ (h : List ℕ). StandsAt steps from calls h place call) (sym (e ∙ ap nodes cut)) (subst (λ (k : ℕ). StandsAt steps from calls (nodes (before ++ m ∷ after)) k call) there s))

    -- each call of a node, in its order, has a place in the merge
    pub merge-calls : (history : List ℕ) → IsMarkedMerge logs history → (n c : ℕ) (call : Call) → slice_get (calls n) c ≡ Some call → (place : ℕ) × IsEntry history n c place × StandsAt steps from calls history place call
    merge-calls history merge n c call got =
        let (all, merged, e) = merge in
        let own : of_node n all ≡ map (mark n) (calls n) = of-node calls logs all tied merged n (rising n) in
        let many : count n history ≡ length (calls n) = ap (count n) e ∙ count-is n all ∙ ap length own ∙ length-map (calls n) (mark n) in
        let inside : c < length (calls n) = slice_get_within (calls n) c call got in
        let (place, is) = entry history n c (omega arith) in
        let (other, s) = merge-stands history merge place is.inside in
        let found : slice_get (calls n) c ≡ Some other = sym (ap (λ k. slice_get (calls k) (count k (take place history))) is.node_there ∙ ap (slice_get (calls n)) is.counted) ∙ s.found in
        let same : other ≡ call = some-call other call (sym found ∙ got) in
        (place, is, subst (StandsAt steps from calls history place) same s)

-- of a network: its publishers
publishers : (net : Net) → AreSteps net → IsFrom (publisher net) (board_steps net)
publishers net are link n other = (are.players link).publishes n ∙ by (link_at net link).from other (is_some (link_at net link).to)
  where
    by : (o : Option ℕ) → n ≢ unwrap_or o 0 → (b : Bool) → cond b (step_if o n (step.Publish link)) [] ≡ []
    by None other true = refl
    by None other false = refl
    by (Some f) other true = ap (λ b. cond b (step.Publish link ∷ []) []) (ne_eqb f n (λ e. other (sym e)))
    by (Some f) other false = refl

module _ (net : Net) (network : IsNetwork net) (calls : ℕ → List Call) (logs : List Log) (are : AreCalls (board_steps net) net.run.rounds calls) (tied : AreLogsOf calls (log_at logs)) where
  pub law-lawful : (h : List ℕ) → IsMerge logs h → IsLawful net h
  law-lawful h merge = merge-lawful (board_steps net) net.run.rounds calls are.rounds_made are.rising (log_at logs) tied h (marked calls logs tied are.rising h merge)

  pub law-one : (h other : List ℕ) → IsMerge logs h → IsMerge logs other → h ≡ other
  law-one h other merge again = merge-one (board_steps net) net.run.rounds calls are.rounds_made are.rising (log_at logs) tied h other (marked calls logs tied are.rising h merge) (marked calls logs tied are.rising other again)

  pub law-told : Agree calls (log_at logs) → (h : List ℕ) → IsMerge logs h → AreTold (board_steps net) (publisher net) calls h
  law-told agree h merge =
      let is-from : IsFrom (publisher net) (board_steps net) = publishers net (are-steps net network) in
      let m : IsMarkedMerge (log_at logs) h = marked calls logs tied are.rising h merge in
      record {
        places = merge-stands (board_steps net) net.run.rounds calls are.rounds_made are.rising (log_at logs) tied (publisher net) is-from agree h m;
        made = merge-calls (board_steps net) net.run.rounds calls are.rounds_made are.rising (log_at logs) tied (publisher net) is-from agree h m;
      }

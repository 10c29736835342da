-- A report is a text of its history.
use Rattle.std.proofs.Common.{◌≡◌, ℕ, ◌+◌, ◌<◌, codes, List, [], ◌∷◌, ◌++◌, length, get_or, map, Some, All, refl, sym, ap, ◌∙◌, subst, inl, inr, arith, append-nil}
use Rattle.std.specs.List.{concat, flat_map, range_with_len}
use Rattle.std.proofs.lemmas.Bool.{cases_Bool}
use Rattle.std.proofs.lemmas.List.Folds.{concat-append}
use Rattle.std.proofs.lemmas.List.Elements.{All-cons, All-head, All-tail}
use Rattle.std.proofs.lemmas.List.FromFn.{fill_by_all, get_or-range_with_len, length-range_with_len}
use Rattle.std.proofs.lemmas.Slice.Eq.{bytes_eq-Decides}
use Rattle.std.specs.Str.{bytes_eq}
use Rattle.foundation.specs.Options.{each}
use Rattle.foundation.proofs.EachLaws.{each-good}
use Rattle.foundation.proofs.PositionLaws.{position-first}
use Rattle.histories.specs.Histories.{IsLawful, round_at, step_at, version_at}
use Rattle.histories.specs.Steps.{board_steps}
use Rattle.histories.specs.declared.steps.BoardStep.{BoardStep}
use Rattle.histories.specs.declared.steps.BoardStep.TheVariants.{Read, Publish}
use Rattle.net_parts.specs.Numbers.{Net, AreDistinct, number_of}
use Rattle.net_parts.specs.Outline.{node_name_at}
use Rattle.net_simulator.specs.Sums.{end_of_run}
use Rattle.road_net.specs.Network.{IsNetwork}
use Rattle.runs.specs.declared.records.RunRecord.{RunRecord}
use Rattle.schedule_meaning.specs.declared.planners.Answer.{Answer}
use Rattle.schedule_meaning.specs.declared.planners.Answer.TheVariants.{Plan, NoPlan}
use Rattle.world_records.specs.Records.{green_record, green_records, header, link_record_of, total_record}
use Rattle.world_records.specs.Told.{told_line}
use Rattle.audit.proofs.WrittenSheetLaws.{each-both}
use Rattle.delay_report.specs.Entries.{steps_of}
use Rattle.delay_report.specs.Reports.{answer_fields, plan_record, report_records, report_text, step_record, step_record_at}
use Rattle.delay_report.specs.Texts.{IsHistoryText, form}
use Rattle.record_text.specs.Forms.{AreRecordsOf}
use Rattle.world_records.proofs.RecordLaws.{HasField, header-first, read-records}
use Rattle.delay_report.proofs.WalkLaws.{node-below}

-- the steps that records tell are this history
record Tells (net : Net) (records : List (List (List ℕ))) (history : List ℕ) : Type 0 where
  steps : List (List ℕ)
  reads : each (steps_of net) records ≡ Some steps
  are : concat steps ≡ history

tells-both : (net : Net) (xs ys : List (List (List ℕ))) (h g : List ℕ) → Tells net xs h → Tells net ys g → Tells net (xs ++ ys) (h ++ g)
tells-both net xs ys h g a b = record {
  steps = a.steps ++ b.steps;
  reads = each-both (steps_of net) xs ys a.steps b.steps a.reads b.reads;
  are = concat-append a.steps b.steps ∙ ap (λ l. l ++ concat b.steps) a.are ∙ ap (λ l. h ++ l) b.are;
}

-- a record that tells something has a field
has-field : (net : Net) (fields : List (List ℕ)) (steps : List ℕ) → steps_of net fields ≡ Some steps → HasField fields
unfolding steps_of
has-field net [] steps parsed = cc
has-field net (field ∷ fields) steps parsed = omega arith

module _ (net : Net) where
  tells-nothing : {X : Type 0} (f : X → List (List ℕ)) → ((x : X) → steps_of net (f x) ≡ Some []) → (xs : List X) → Tells net (map f xs) []
  tells-nothing f passed [] = record { steps = []; reads = refl; are = refl }
  tells-nothing f passed (x ∷ xs) =
      let rest = tells-nothing f passed xs in
      record { steps = [] ∷ rest.steps; reads = rw (passed x, rest.reads) refl; are = rest.are }

  tells-parts : {X : Type 0} (f : X → List (List (List ℕ))) → ((x : X) → Tells net (f x) []) → (xs : List X) → Tells net (flat_map f xs) []
  tells-parts f none [] = record { steps = []; reads = refl; are = refl }
  tells-parts f none (x ∷ xs) = tells-both net (f x) (flat_map f xs) [] [] (none x) (tells-parts f none xs)

  tells-nodes : (f : ℕ → List (List ℕ)) (node : ℕ → ℕ) (places : List ℕ) → All (λ place. steps_of net (f place) ≡ Some (node place ∷ [])) places → Tells net (map f places) (map node places)
  tells-nodes f node [] parsed = record { steps = []; reads = refl; are = refl }
  tells-nodes f node (place ∷ places) parsed =
      let here = All-head (λ place. steps_of net (f place) ≡ Some (node place ∷ [])) place places parsed in
      let rest = tells-nodes f node places (All-tail (λ place. steps_of net (f place) ≡ Some (node place ∷ [])) place places parsed) in
      record { steps = (node place ∷ []) ∷ rest.steps; reads = rw (here, rest.reads) refl; are = ap (λ l. node place ∷ l) rest.are }

  plan-passed : (a b c : List ℕ) (answer : Answer) → steps_of net (codes "plan" ∷ a ∷ b ∷ c ∷ answer_fields answer) ≡ Some []
  unfolding steps_of
  plan-passed a b c (Plan sequence delay) = refl
  plan-passed a b c NoPlan = refl

  green-passed : (a b c d e f : List ℕ) → steps_of net (codes "green" ∷ a ∷ b ∷ c ∷ d ∷ e ∷ f ∷ []) ≡ Some []
  unfolding steps_of
  green-passed a b c d e f = refl

  link-passed : (a b c d e f : List ℕ) → steps_of net (codes "link" ∷ a ∷ b ∷ c ∷ d ∷ e ∷ f ∷ []) ≡ Some []
  unfolding steps_of
  link-passed a b c d e f = refl

  total-passed : (a b c d e f : List ℕ) → steps_of net (codes "total" ∷ a ∷ b ∷ c ∷ d ∷ e ∷ f ∷ []) ≡ Some []
  unfolding steps_of
  total-passed a b c d e f = refl

  -- the record of a step tells its node
  step-parsed : (round node : ℕ) (versions : ℕ → ℕ) (step : BoardStep) → number_of net.node_names (node_name_at net node) ≡ Some node → steps_of net (step_record net round node versions step) ≡ Some (node ∷ [])
  unfolding steps_of
  step-parsed round node versions (Read link) number = rw number refl
  step-parsed round node versions (Publish link) number = rw number refl

-- a name has the number of its place
own-number : (names : List (List ℕ)) (k : ℕ) → AreDistinct names → k < length names → number_of names (get_or names k []) ≡ Some k
own-number names k differ inside =
    let name : List ℕ = get_or names k [] in
    position-first (bytes_eq name) names [] k inside
    (λ j below. elim (cases_Bool (bytes_eq name (get_or names j []))) [
      | inl same ↦ absurd (differ j k [] below inside (sym ((bytes_eq-Decides name (get_or names j [])).0 same)))
      | inr other ↦ other
    ])
    ((bytes_eq-Decides name name).1 refl)

module _ (net : Net) (network : IsNetwork net) (run : RunRecord) (h : List ℕ) (lawful : IsLawful net h) where
  steps-tell : Tells net (map (step_record_at net h) (range_with_len 0 (length h))) h
  steps-tell = subst (Tells net (map (step_record_at net h) (range_with_len 0 (length h)))) (sym (fill_by_all (λ place. get_or h place 0) h (length h) 0 refl (λ place below. refl)))
      (tells-nodes net (step_record_at net h) (λ place. get_or h place 0) (range_with_len 0 (length h)) (λ k d inside.
      let long = length-range_with_len 0 (length h) in
      let below : k < length h = omega (arith, inside, long) in
      let at : get_or (range_with_len 0 (length h)) k d ≡ k = get_or-range_with_len 0 (length h) k d below ∙ (let e : 0 + k ≡ k = omega arith in e) in
      subst (λ place. steps_of net (step_record_at net h place) ≡ Some (get_or h place 0 ∷ [])) (sym at)
      (step-parsed net (round_at (board_steps net) h k) (get_or h k 0) (λ link. version_at (board_steps net) h link k) (step_at (board_steps net) h k)
      (own-number net.node_names (get_or h k 0) network.outline.nodes_differ (node-below net network h lawful k below)))))

  plans-tell : Tells net (map (plan_record net) run.plans) []
  plans-tell = tells-nothing net (plan_record net) (λ plan. plan-passed net _ _ _ plan.answer) run.plans

  greens-tell : (nodes : List ℕ) → Tells net (flat_map (green_records net run.timelines (end_of_run net)) nodes) []
  greens-tell nodes = tells-parts net (green_records net run.timelines (end_of_run net)) (λ node. tells-nothing net (green_record net node) (λ green. green-passed net _ _ _ _ _ _) (told_line net run.timelines (end_of_run net) node)) nodes

  links-tell : (links : List ℕ) → Tells net (map (link_record_of net run.links) links) []
  links-tell links = tells-nothing net (link_record_of net run.links) (λ link. link-passed net _ _ _ _ _ _) links

  totals-tell : Tells net (total_record run.totals ∷ []) []
  totals-tell = record { steps = [] ∷ []; reads = rw (total-passed net _ _ _ _ _ _) refl; are = refl }

  -- the report tells the history
  pub reads-back : IsHistoryText net (report_text net run h) h
  unfolding report_records
  reads-back =
      let greens = greens-tell (range_with_len 0 (length net.node_names)) in
      let links = links-tell (range_with_len 0 (length net.link_names)) in
      let parsed = tells-both net _ _ h [] steps-tell (tells-both net _ _ [] [] plans-tell (tells-both net _ _ [] [] greens (tells-both net _ _ [] [] links totals-tell))) in
      let are : AreRecordsOf (form net) (report_records net run h) h = record { records = _; are = refl; parsed = parsed.steps; reads = parsed.reads; is = record { history_is = sym (parsed.are ∙ append-nil h); lawful = lawful } } in
      let (rest, begins) = header-first are.records in
      let some : All HasField (report_records net run h) = All-cons HasField header are.records (omega arith) (each-good (steps_of net) HasField (has-field net) are.records are.parsed are.reads) in
      subst (λ (l : List (List (List ℕ))). AreRecordsOf (form net) l h) (sym (read-records (report_records net run h) rest begins some)) are

-- The report of a run is a clean text.
use Rattle.std.proofs.Common.{◌≡◌, ℕ, zero, suc, ◌<◌, ◌≤◌, codes, List, [], ◌∷◌, ◌++◌, length, map, get_or, All, refl, sym, ap, ◌∙◌, subst, arith, append_assoc}
use Rattle.std.specs.Fmt.{decimal}
use Rattle.std.specs.List.{join_with_byte, range_with_len}
use Rattle.std.proofs.lemmas.List.Elements.{All-append, All-map}
use Rattle.std.proofs.lemmas.List.FromFn.{get_or-map-range_with_len, length-map-range_with_len}
use Rattle.phase_plan.specs.Phases.{IsRing}
use Rattle.phase_plan.specs.declared.Phase.{Phase}
use Rattle.phase_plan.proofs.RingLaws.{phase-bounds}
use Rattle.control_flow.specs.Greens.{BeginBy, IsGreen, row_at}
use Rattle.control_flow.specs.declared.greens.Green.{Green}
use Rattle.histories.specs.Histories.{step_at}
use Rattle.histories.specs.Steps.{board_steps}
use Rattle.histories.specs.declared.steps.BoardStep.{BoardStep}
use Rattle.histories.specs.declared.steps.BoardStep.TheVariants.{Read, Publish}
use Rattle.intersection_actor.specs.Commits.{Commitment}
use Rattle.intersection_actor.specs.PlanFields.{used_text}
use Rattle.intersection_actor.specs.declared.records.PlanRecord.{PlanRecord}
use Rattle.net_parts.specs.Numbers.{Net}
use Rattle.net_parts.specs.Outline.{node_name_at, plan_at}
use Rattle.road_net.specs.Network.{IsNetwork}
use Rattle.road_net.specs.Through.{is_through}
use Rattle.net_simulator.specs.Counts.{counts_at, no_totals}
use Rattle.net_simulator.specs.Flow.{Cumulative}
use Rattle.net_simulator.specs.Sums.{AreFew, end_of_run, link_totals, totals}
use Rattle.net_simulator.specs.Worlds.{line_in, signs_by}
use Rattle.schedule_meaning.specs.declared.planners.Answer.{Answer}
use Rattle.schedule_meaning.specs.declared.planners.Answer.TheVariants.{Plan, NoPlan}
use Rattle.runs.specs.Promises.{IsKeptRun}
use Rattle.runs.specs.Runs.{cumulative_by, line_before, shown_by}
use Rattle.runs.specs.declared.records.RunRecord.{RunRecord}
use Rattle.runs.proofs.Keep.{all-keep}
use Rattle.net_simulator.proofs.AtNodes.{past-at-nodes}
use Rattle.audit.specs.declared.sheet.Sheet.{Sheet}
use Rattle.audit.specs.SheetTexts.{HasShape}
use Rattle.audit.specs.SheetRecords.{parse_fields}
use Rattle.audit.specs.WrittenSheets.{IsPassedOver, sheet_records}
use Rattle.audit.specs.Audits.{IsClean, IsCleanText}
use Rattle.net_simulator.specs.Shown.{cumulative_of_lines}
use Rattle.audit.proofs.CleanTexts.{clean-text}
use Rattle.world_records.specs.Records.{header, records_text}
use Rattle.world_records.specs.Told.{IsToldGreen, told_line}
use Rattle.world_records.proofs.ToldSigns.{told-all}
use Rattle.delay_report.specs.Reports.{answer_fields, plan_record, report_records, report_text, step_record, step_record_at}

-- the records of steps and of plans are passed over
step-over : (net : Net) (round node : ℕ) (versions : ℕ → ℕ) (step : BoardStep) → IsPassedOver (step_record net round node versions step)
unfolding parse_fields
step-over net round node versions (Read link) = refl
step-over net round node versions (Publish link) = refl

answer-over : (a b c : List ℕ) (answer : Answer) → IsPassedOver (codes "plan" ∷ a ∷ b ∷ c ∷ answer_fields answer)
unfolding parse_fields
answer-over a b c (Plan sequence delay) = refl
answer-over a b c NoPlan = refl

plan-over : (net : Net) (plan : PlanRecord) → IsPassedOver (plan_record net plan)
plan-over net plan = answer-over (decimal plan.round) (node_name_at net plan.node) (join_with_byte 59 (map (used_text net) plan.used)) plan.answer

module _ (net : Net) (network : IsNetwork net) (arriving : ℕ → ℕ → ℕ) (few : AreFew net arriving) (history : List ℕ) (run : RunRecord) (kept : IsKeptRun net arriving history run) where
  abbrev end : ℕ
  end = end_of_run net

  abbrev made : ℕ → ℕ → Commitment
  made = kept.run.made

  -- what the report says of greens and totals, with the last line of each node
  abbrev sheet : Sheet
  sheet = record { lines = run.timelines; links = run.links; totals = run.totals }

  -- the world moved as the last lines show
  same-past : cumulative_by net arriving made end ≡ cumulative_of_lines net arriving run.timelines
  same-past = sym (past-at-nodes net network arriving (signs_by (line_in run.timelines)) (shown_by net made) end (λ x node before below. kept.kept.signs x node before below))

  counted : (l : ℕ) → l < length net.link_names → counts_at run.links l ≡ link_totals net (cumulative_by net arriving made end) end l
  counted l below = ap (λ links. counts_at links l) kept.run.by.links ∙ get_or-map-range_with_len (link_totals net (cumulative_by net arriving made end) end) 0 (length net.link_names) l l no_totals below (omega arith)

  sheet-clean : IsClean net arriving sheet
  sheet-clean = record {
    lawful = kept.kept.lawful;
    links = λ l below. counted l below ∙ ap (λ (p : ℕ → ℕ → Cumulative). link_totals net p end l) same-past;
    all = kept.run.by.all ∙ ap (λ (p : ℕ → ℕ → Cumulative). totals net arriving p end) same-past;
  }

  sheet-shape : HasShape net sheet
  sheet-shape = record {
    lines = ap length kept.run.by.timelines ∙ length-map-range_with_len (line_before net made net.run.rounds) 0 (length net.node_names);
    links = ap length kept.run.by.links ∙ length-map-range_with_len (link_totals net (cumulative_by net arriving made end) end) 0 (length net.link_names);
  }

  -- the rows of the last lines begin by 100,000, so a report can tell them
  begins-after : (rounds : ℕ) → 0 < rounds → rounds ≤ net.run.rounds → (node : ℕ) → node < length net.node_names → BeginBy 100000 (line_before net made rounds node)
  begins-after zero some most node below = absurd (omega (arith, some))
  begins-after (suc rounds) some most node below = (all-keep net network arriving kept.run.heard made net.run.rounds (omega arith) kept.run.by.commits rounds node (omega (arith, most)) below).line.begins

  begins-last : (node : ℕ) → node < length net.node_names → BeginBy 100000 (line_in run.timelines node)
  begins-last node below = subst (BeginBy 100000)
      (sym (ap (λ lines. line_in lines node) kept.run.by.timelines ∙ get_or-map-range_with_len (line_before net made net.run.rounds) 0 (length net.node_names) node node [] below (omega arith)))
      (begins-after net.run.rounds network.outline.run.rounds.0 (omega arith) node below)

  row-fits : (plan : List Phase) → IsRing plan → (row : Green) → IsGreen plan row → row.from ≤ 100000 → IsToldGreen row
  row-fits plan p row green begin =
      let times = phase-bounds plan row.phase p green.phase in
      record {
        phase = omega (arith, green.phase, p.count.1);
        from = omega (arith, begin);
        to = omega (arith, green.greatest, times.greatest.1, begin);
      }

  told-fits : (node : ℕ) → node < length net.node_names → All IsToldGreen (told_line net run.timelines end node)
  told-fits node below =
      let rows : List Green = line_in run.timelines node in
      let greens = (kept.kept.lawful node below).greens in
      told-all IsToldGreen (is_through net node) end (row_at rows 0).from rows
      (λ k d inside. row-fits (plan_at net node) (network.outline.plans node [] (omega (arith, below, network.outline.plan_count))).ring (get_or rows k d) (greens k d inside) (begins-last node below k d inside))

  -- the records of the report
  pub report-clean : IsCleanText net arriving (report_text net run history)
  unfolding report_records
  report-clean =
      let steps : List (List (List ℕ)) = map (step_record_at net history) (range_with_len 0 (length history)) in
      let plans : List (List (List ℕ)) = map (plan_record net) run.plans in
      let over : All IsPassedOver (steps ++ plans) =
      All-append IsPassedOver steps plans
      (All-map IsPassedOver (step_record_at net history) (range_with_len 0 (length history)) (λ k d inside. step-over net _ _ _ (step_at (board_steps net) history _)))
      (All-map IsPassedOver (plan_record net) run.plans (λ k d inside. plan-over net (get_or run.plans k d))) in
      subst (λ (records : List (List (List ℕ))). IsCleanText net arriving (records_text (header ∷ records))) (append_assoc steps plans (sheet_records net end sheet))
      (clean-text net network arriving few sheet sheet-shape sheet-clean told-fits (steps ++ plans) over)

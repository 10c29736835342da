-- The parts of a report, one after another.
use Rattle.std.proofs.Common.{◌≡◌, ℕ, ◌<◌, List, [], ◌∷◌, ◌++◌, length, map, get_or, All, Vec, sym, ap, ◌∙◌, subst, arith}
use Rattle.std.specs.List.{flat_map, range_with_len}
use Rattle.std.proofs.lemmas.List.{get_or-map, length-map}
use Rattle.std.proofs.lemmas.List.Elements.{All-append, All-map, All-nil}
use Rattle.std.proofs.lemmas.List.FromFn.{get_or-range_with_len, length-range_with_len}
use Rattle.std.proofs.lemmas.Grind.{flat_map-append}
use Rattle.csv.specs.Writing.{default_writer, row_text}
use Rattle.csv.specs.declared.writer.Writer.{Writer}
use Rattle.control_flow.specs.declared.greens.Green.{Green}
use Rattle.intersection_actor.specs.declared.records.PlanRecord.{PlanRecord}
use Rattle.net_simulator.specs.Sums.{end_of_run}
use Rattle.net_simulator.specs.declared.totals.LinkTotals.{LinkTotals}
use Rattle.net_parts.specs.Numbers.{Net}
use Rattle.runs.specs.Complete.{IsComplete, rounds_and_nodes}
use Rattle.runs.specs.declared.records.RunRecord.{RunRecord}
use Rattle.world_records.specs.Records.{header, records_text, shown_records}
use Rattle.delay_report.specs.Reports.{outcome_records, plan_record, report_records, report_text, step_record_at, steps_records}
use Rattle.world_records.specs.Written.{Adds, HasWritten}
use Rattle.world_records.proofs.WrittenLaws.{adds-then}

-- the front of a report
pub front-parts : {Z : Type 0} (net : Net) (h nodes : List ℕ) (o0 o1 o2 : Writer (Vec ℕ Z)) → nodes ≡ h → HasWritten o0 [] → Adds o0 o1 (header ∷ [])
    → Adds o1 o2 (map (step_record_at net nodes) (range_with_len 0 (length nodes))) → HasWritten o2 (records_text (steps_records net h))
front-parts net h nodes o0 o1 o2 is_history start first steps =
    let b = subst (λ l. Adds o1 o2 (map (step_record_at net l) (range_with_len 0 (length l)))) is_history steps in
    (adds-then o0 o1 o2 _ _ first b).adds [] start

-- what comes after it
pub outcome-parts : {Z : Type 0} (net : Net) (run : RunRecord) (text : List ℕ) (plans : List PlanRecord) (lines : List (List Green)) (links : List LinkTotals) (o2 o3 o4 : Writer (Vec ℕ Z))
    → plans ≡ run.plans → lines ≡ run.timelines → links ≡ run.links → HasWritten o2 text
    → Adds o2 o3 (map (plan_record net) plans) → Adds o3 o4 (shown_records net lines links run.totals (end_of_run net)) → HasWritten o4 (text ++ records_text (outcome_records net run))
outcome-parts net run text plans lines links o2 o3 o4 are_plans are_lines are_links start planned shown =
    let c = subst (λ l. Adds o2 o3 (map (plan_record net) l)) are_plans planned in
    let d = subst (λ l. Adds o3 o4 (shown_records net l links run.totals (end_of_run net))) are_lines shown in
    let e = subst (λ l. Adds o3 o4 (shown_records net run.timelines l run.totals (end_of_run net))) are_links d in
    (adds-then o2 o3 o4 _ _ c e).adds text start

-- both are the report
pub both-parts : (net : Net) (run : RunRecord) (h : List ℕ) → records_text (steps_records net h) ++ records_text (outcome_records net run) ≡ report_text net run h
unfolding report_records
both-parts net run h = sym (flat_map-append (row_text default_writer) (steps_records net h) (outcome_records net run))

all-flat : {X Y : Type 0} (P : Y → Type 0) (f : X → List Y) → ((x : X) → All P (f x)) → (xs : List X) → All P (flat_map f xs)
all-flat P f each [] = All-nil P
all-flat P f each (x ∷ xs) = All-append P (f x) (flat_map f xs) (each x) (all-flat P f each xs)

range-below : (n : ℕ) → All (λ k. k < n) (range_with_len 0 n)
range-below n k d inside =
    let below : k < n = omega (arith, inside, length-range_with_len 0 n) in
    let at = get_or-range_with_len 0 n k d below in
    omega (arith, at, below)

-- the nodes of the plans of a whole record are there
pub nodes-exist : (net : Net) (run : RunRecord) → IsComplete net run → All (λ (p : PlanRecord). p.node < length net.node_names) run.plans
nodes-exist net run whole k d inside =
    let nodes : ℕ = length net.node_names in
    let below : All (λ (pair : ℕ × ℕ). pair.1 < nodes) (rounds_and_nodes net.run.rounds nodes) =
    all-flat (λ (pair : ℕ × ℕ). pair.1 < nodes) _ (λ round. All-map (λ (pair : ℕ × ℕ). pair.1 < nodes) (λ (node : ℕ). (round, node)) (range_with_len 0 nodes) (range-below nodes)) (range_with_len 0 net.run.rounds) in
    let seen : PlanRecord → ℕ × ℕ = λ p. (p.round, p.node) in
    let there : k < length (rounds_and_nodes net.run.rounds nodes) = omega (arith, inside, length-map run.plans seen, ap length whole.plans) in
    let at : get_or (rounds_and_nodes net.run.rounds nodes) k (seen d) ≡ seen (get_or run.plans k d) = ap (λ l. get_or l k (seen d)) (sym whole.plans) ∙ get_or-map seen run.plans k d (seen d) inside in
    subst (λ (pair : ℕ × ℕ). pair.1 < nodes) at (below k (seen d) there)

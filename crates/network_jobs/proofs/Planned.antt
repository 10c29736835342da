-- What is written of runs: the text of an instance that was planned, a summary, and totals.
use Rattle.std.proofs.Common.{◌≡◌, ℕ, ◌≤◌, List, [], ◌++◌, length, IfSome, Option, Some, Result, Ok, Err, IfOk, sym, ap, subst, ◌∙◌, arith}
use Rattle.std.specs.Prelude.{Contains}
use Rattle.std.proofs.lemmas.List.Elements.{All-contains}
use Rattle.std.proofs.lemmas.List.FromFn.{length-map-range_with_len}
use Rattle.std.proofs.lemmas.List.Sums.{sum-map}
use Rattle.arrivals.specs.Amounts.{Amounts, arriving_of}
use Rattle.instance_form.specs.InstanceText.{instance_text}
use Rattle.instance_form.proofs.FormLaws.{text_once}
use Rattle.instance_form.proofs.VersionLaws.{own-marks}
use Rattle.instance_form.proofs.LengthLaws.{text-le}
use Rattle.intersection_actor.specs.declared.records.PlanRecord.{PlanRecord}
use Rattle.net_parts.specs.Numbers.{Net, number_of}
use Rattle.phase_plan.specs.Phases.{marks_of}
use Rattle.runs.specs.declared.records.RunRecord.{RunRecord}
use Rattle.scenario_gen.specs.Grids.{IsGrid}
use Rattle.schedule_meaning.specs.Best.{IsLeast}
use Rattle.schedule_meaning.specs.Instances.{Problem, IsInstance}
use Rattle.schedule_meaning.proofs.TextLaws.{has-text}
use Rattle.schedule_meaning.specs.declared.planners.Answer.{Answer}
use Rattle.schedule_meaning.specs.declared.planners.Answer.TheVariants.{Plan, NoPlan}
use Rattle.commands.specs.Limits.{most_bytes}
use Rattle.planner_jobs.specs.Kinds.{InstanceText}
use Rattle.commands.specs.Texts.{Reads}
use Rattle.net_simulator.specs.Sums.{end_of_run, link_totals}
use Rattle.net_simulator.specs.declared.totals.LinkTotals.{LinkTotals}
use Rattle.runs.specs.Runs.{cumulative_by}
use Rattle.runs.specs.Tallies.{none_count, planned_delays}
use Rattle.runs.specs.declared.plan_tallies.PlanTally.{PlanTally}
use Rattle.runs.specs.declared.records.RunTotals.{RunTotals}
use Rattle.world_records.specs.Records.{counted_text}
use Rattle.bounded_runs.specs.Runs.{AreTurnTotals, IsRunOf}
use Rattle.network_jobs.specs.Headline.{AgreesWith, IsGridSummary, IsPlannedText, IsTotalsText}
use Rattle.network_jobs.specs.Summary.{summary_lines}

-- two answers of an instance than which no sequence has less delay agree
agree : (p : Problem) (a b : Answer) → IsLeast p a → IsLeast p b → AgreesWith a b
agree p (Plan s d) (Plan t e) one other =
    let first : IfSome (Some e) (λ x. d ≤ x) = subst (λ (o : Option ℕ). IfSome o (λ x. d ≤ x)) other.0 (one.1 t) in
    let second : IfSome (Some d) (λ x. e ≤ x) = subst (λ (o : Option ℕ). IfSome o (λ x. e ≤ x)) one.0 (other.1 s) in
    omega (arith, first, second)
agree p (Plan s d) NoPlan one other = let e = sym one.0 ∙ other s in absurd (cc)
agree p NoPlan (Plan t e) one other = let d = sym other.0 ∙ one t in absurd (cc)
agree p NoPlan NoPlan one other = tt

-- the text of an instance is within the limit, and is read as this instance alone
reads : (p : Problem) (bytes : List ℕ) → IsInstance p → bytes ≡ instance_text p.plan p.head p.lists → Reads InstanceText bytes p
reads p bytes h is =
    let text = text-le (marks_of p.plan) p.plan p.head p.lists (has-text p h) in
    let few : length bytes ≤ most_bytes = omega (arith, ap length is, text, sum-map length p.lists, h.few) in
    (few, (h, is))

only : (p : Problem) (bytes : List ℕ) → IsInstance p → bytes ≡ instance_text p.plan p.head p.lists → (other : Problem) → Reads InstanceText bytes other → other ≡ p
only p bytes h is other read =
    let texts : instance_text other.plan other.head other.lists ++ [] ≡ instance_text p.plan p.head p.lists ++ [] = ap (λ (text : List ℕ). text ++ []) (sym read.1.1 ∙ is) in
    let same = text_once (marks_of other.plan) (marks_of p.plan) other.plan p.plan other.head p.head other.lists p.lists [] [] (has-text other read.1.0) (own-marks other.plan) (has-text p h) (own-marks p.plan) texts in
    λ i. record { plan = same.1 i; head = same.2 i; lists = same.3 i }

-- the text of the instance of a plan of a run
pub planned : (net : Net) (arrivals : Amounts) (history node : List ℕ) (number round : ℕ) (bytes : List ℕ) (run : RunRecord) (plan : PlanRecord) → IsRunOf net (arriving_of arrivals) history run
    → Contains run.plans plan → plan.node ≡ number → plan.round ≡ round → number_of net.node_names node ≡ Some number
    → IsInstance plan.instance → bytes ≡ instance_text plan.instance.plan plan.instance.head plan.instance.lists → IsLeast plan.instance plan.answer
    → IsPlannedText net (arriving_of arrivals) history node round bytes
planned net arrivals history node number round bytes run plan runs among of_node of_round named lawful is least = record {
  run = run;
  runs = runs;
  plan = plan;
  among = among;
  of_node = named ∙ ap Some (sym of_node);
  of_round = of_round;
  reads = reads plan.instance bytes lawful is;
  only = only plan.instance bytes lawful is;
  agrees = λ c same other. agree plan.instance c.answer plan.answer (subst (λ (p : Problem). IsLeast p c.answer) same other) least;
}

-- so is what is written of it, where the run keeps what it must
pub all_planned : {X E : Type 0} (text_of : X → List ℕ) (net : Net) (arrivals : Amounts) (history : List ℕ) (number round : ℕ) (run : RunRecord) (plan : PlanRecord) (result : Result X E) → IsRunOf net (arriving_of arrivals) history run
    → Contains run.plans plan → plan.node ≡ number → plan.round ≡ round → IsInstance plan.instance
    → IfOk result (λ x. text_of x ≡ instance_text plan.instance.plan plan.instance.head plan.instance.lists)
    → IfOk result (λ x. (node : List ℕ) → number_of net.node_names node ≡ Some number → IsPlannedText net (arriving_of arrivals) history node round (text_of x))
all_planned text_of net arrivals history number round run plan (Ok x) runs among of_node of_round lawful is = λ node named.
    planned net arrivals history node number round (text_of x) run plan runs among of_node of_round named lawful is (All-contains (λ (p : PlanRecord). IsLeast p.instance p.answer) run.plans plan runs.kept.kept.least among)
all_planned text_of net arrivals history number round run plan (Err e) runs among of_node of_round lawful is = tt

-- the summary of a run of the turn order on a grid
pub all_summed : {X E : Type 0} (text_of : X → List ℕ) (number side rounds : ℕ) (net : Net) (arrivals : Amounts) (left : RunTotals) (tally : PlanTally) (result : Result X E) → IsGrid number side rounds net arrivals
    → AreTurnTotals net (arriving_of arrivals) left tally → IfOk result (λ x. text_of x ≡ summary_lines number side rounds tally left.totals) → IfOk result (λ x. IsGridSummary number side rounds (text_of x))
all_summed text_of number side rounds net arrivals left tally (Ok x) grid turns summary =
    let same : tally ≡ record { plans = length turns.run.plans; none = none_count turns.run.plans; delay = planned_delays turns.run.plans } = λ i. record { plans = turns.counted.plans i; none = turns.counted.none i; delay = turns.counted.delay i } in
    record {
      net = net;
      arrivals = arrivals;
      grid = grid;
      run = turns.run;
      runs = turns.runs;
      summary = summary ∙ (λ i. summary_lines number side rounds (same i) (turns.are.totals i));
    }
all_summed text_of number side rounds net arrivals left tally (Err e) grid turns summary = tt

-- the records of what a run of the turn order counted
pub all_counted : {X E : Type 0} (text_of : X → List ℕ) (net : Net) (arriving : ℕ → ℕ → ℕ) (left : RunTotals) (tally : PlanTally) (links : List LinkTotals) → links ≡ left.links → (result : Result X E) → AreTurnTotals net arriving left tally
    → IfOk result (λ x. text_of x ≡ counted_text net links left.totals) → IfOk result (λ x. IsTotalsText net arriving (text_of x))
all_counted text_of net arriving left tally links same (Ok x) turns text =
    let own : links ≡ turns.run.links = same ∙ turns.are.links in
    record { run = turns.run; runs = turns.runs; text = text ∙ (λ i. counted_text net (own i) (turns.are.totals i)) }
all_counted text_of net arriving left tally links same (Err e) turns text = tt

-- there are totals of each link
pub all_links : (net : Net) (arriving : ℕ → ℕ → ℕ) (left : RunTotals) (tally : PlanTally) → AreTurnTotals net arriving left tally → length left.links ≡ length net.link_names
all_links net arriving left tally turns =
    let by = turns.runs.kept.run in
    ap length turns.are.links ∙ ap length by.by.links
    ∙ length-map-range_with_len (link_totals net (cumulative_by net arriving by.made (end_of_run net)) (end_of_run net)) 0 (length net.link_names)

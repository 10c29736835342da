-- The record of plans, actors and a world after the last round is that of the commits, also where the plans were not kept.
use Rattle.std.proofs.Common.{◌≡◌, ℕ, suc, ◌+◌, ◌*◌, ◌<◌, ◌≤◌, List, [], ◌∷◌, ◌++◌, length, map, get_or, vec_capacity, vec_len, refl, sym, ap, ◌∙◌, arith, append-nil}
use Rattle.std.specs.Global.{Vec}
use Rattle.std.specs.List.{range_with_len}
use Rattle.board_model.specs.declared.boards.Heard.{Heard}
use Rattle.intersection_actor.specs.Acting.{Acting}
use Rattle.intersection_actor.specs.Commits.{Commitment}
use Rattle.intersection_actor.specs.declared.records.PlanRecord.{PlanRecord}
use Rattle.net_parts.specs.Numbers.{Net}
use Rattle.net_simulator.specs.Counts.{counts_at}
use Rattle.net_simulator.specs.Flow.{cumulative_under}
use Rattle.net_simulator.specs.Sums.{link_totals, totals}
use Rattle.net_simulator.specs.Worlds.{WorldState, Stands}
use Rattle.runs.specs.Resting.{HasPlans, Rests}
use Rattle.runs.specs.Runs.{AllCommit, IsRunBy, line_before, plans_of, shown_by}
use Rattle.runs.specs.declared.records.RunRecord.{RunRecord}
use Rattle.runs.specs.declared.records.RunTotals.{RunTotals}
use Rattle.runs.proofs.SameParts.{map-by, map-range-same}
use Rattle.runs.specs.Ending.{AreLeft, IsRecordOf, records_in}

-- where no actor has a plan record, there is none
none-each : (actors : List Acting) → ((n : ℕ) (d : Acting) → n < length actors → (get_or actors n d).records ≡ []) → records_in actors ≡ []
none-each [] none = refl
none-each (a ∷ actors) none = ap (λ l. l ++ records_in actors) (none 0 a (omega arith)) ∙ none-each actors (λ n d less. none (suc n) d (omega arith))

-- actors that rest have no plan record
module _ (net : Net) (made : ℕ → ℕ → Commitment) (round : ℕ) (actors : List Acting) (all : length actors ≡ length net.node_names)
    (rests : (node : ℕ) (a : Acting) → node < length net.node_names → Rests net made round node (get_or actors node a)) where
  no-records : records_in actors ≡ []
  no-records = none-each actors (λ n d less. (rests n d (omega (arith, all))).records)

  -- so each list has room for theirs
  pub last-room : (plans : Vec PlanRecord) → vec_len plans + length (records_in actors) ≤ vec_capacity plans
  last-room plans = omega (arith, ap length no-records, plans.ok.1)

-- with these plans, what is left is a record of them
abbrev pub with_plans : List PlanRecord → RunTotals → RunRecord
with_plans plans left = record { plans = plans; timelines = left.timelines; links = left.links; totals = left.totals }

module _ (net : Net) (arriving : ℕ → ℕ → ℕ) (heard : ℕ → ℕ → List Heard) (made : ℕ → ℕ → Commitment) (actors : List Acting) (world : WorldState) where
  abbrev rounds : ℕ
  rounds = net.run.rounds

  pub run-with : length actors ≡ length net.node_names → ((node : ℕ) (a : Acting) → node < length net.node_names → Rests net made rounds node (get_or actors node a)) → AllCommit net arriving heard made rounds
      → world.second ≡ rounds * net.run.step → Stands net arriving (shown_by net made) world → (plans : List PlanRecord) → plans ≡ plans_of net heard made rounds → (run : RunRecord) → IsRecordOf net plans actors world run
      → IsRunBy net arriving heard made run
  run-with all rests commits second stands plans done run left = record {
    commits = commits;
    plans = left.plans ∙ ap (λ l. plans ++ l) (no-records net made rounds actors all rests) ∙ append-nil plans ∙ done;
    timelines =
        left.timelines
        ∙ map-by (λ (a : Acting). a.line) (line_before net made rounds) actors 0 (λ k d less. (rests k d (omega (arith, all))).line ∙ ap (line_before net made rounds) (let e : k ≡ 0 + k = omega arith in e))
        ∙ ap (λ n. map (line_before net made rounds) (range_with_len 0 n)) all;
    links =
        left.links
        ∙ map-range-same (counts_at world.counts) (link_totals net (cumulative_under net arriving (shown_by net made) (rounds * net.run.step)) (rounds * net.run.step)) 0 (length net.link_names)
        (λ k least most. stands.counts k (omega arith) ∙ ap (λ s. link_totals net (cumulative_under net arriving (shown_by net made) s) s k) second);
    all = left.totals ∙ stands.totals ∙ ap (λ s. totals net arriving (cumulative_under net arriving (shown_by net made) s) s) second;
  }

  pub run-by : length actors ≡ length net.node_names → ((node : ℕ) (a : Acting) → node < length net.node_names → Rests net made rounds node (get_or actors node a)) → AllCommit net arriving heard made rounds
      → world.second ≡ rounds * net.run.step → Stands net arriving (shown_by net made) world → (plans : Vec PlanRecord) → HasPlans net heard made rounds plans → (run : RunRecord) → IsRecordOf net plans.items actors world run
      → IsRunBy net arriving heard made run
  run-by all rests commits second stands plans has run left = run-with all rests commits second stands plans.items has.done run left

  -- it is the record of the run
  pub run-left : length actors ≡ length net.node_names → ((node : ℕ) (a : Acting) → node < length net.node_names → Rests net made rounds node (get_or actors node a)) → AllCommit net arriving heard made rounds
      → world.second ≡ rounds * net.run.step → Stands net arriving (shown_by net made) world → (plans : List PlanRecord) → plans ≡ plans_of net heard made rounds → (left : RunTotals) → AreLeft net actors world left
      → IsRunBy net arriving heard made (with_plans plans left)
  run-left all rests commits second stands plans done left is = run-with all rests commits second stands plans done (with_plans plans left) (record {
    plans = sym (ap (λ l. plans ++ l) (no-records net made rounds actors all rests) ∙ append-nil plans);
    timelines = is.timelines;
    links = is.links;
    totals = is.totals;
  })

-- After the last round: the run that the calls of the passes tell.
use Rattle.std.proofs.Common.{◌≡◌, ℕ, ◌/◌, ◌<◌, List, All, length, map, sym, ap, subst, ◌∙◌, arith}
use Rattle.std.specs.Global.{Vec}
use Rattle.std.specs.Prelude.{Contains}
use Rattle.std.proofs.lemmas.List.{get_or-map, length-map}
use Rattle.std.proofs.lemmas.List.Elements.{All-contains}
use Rattle.arrivals.specs.Amounts.{Amounts, arriving_of}
use Rattle.board_model.specs.Boards.{Log}
use Rattle.board_model.specs.Calls.{Agree, AreLogsOf, log_at}
use Rattle.board_model.specs.declared.boards.Heard.{Heard}
use Rattle.board_model.specs.declared.calls.Call.{Call}
use Rattle.link_boards.specs.Passes.{BoardsView, PassView, calls_in}
use Rattle.runs.specs.Ending.{IsRecordOf}
use Rattle.runs.proofs.EndedRecords.{run-by}
use Rattle.histories.specs.Histories.{IsLawful}
use Rattle.histories.specs.Merges.{IsMerge}
use Rattle.histories.specs.Steps.{board_steps, publisher}
use Rattle.intersection_actor.specs.Acting.{Acting}
use Rattle.intersection_actor.specs.Commits.{record_of, used_of}
use Rattle.intersection_actor.specs.declared.records.PlanRecord.{PlanRecord}
use Rattle.intersection_actor.specs.declared.records.Used.{Used}
use Rattle.histories.specs.Calls.{AreCalls}
use Rattle.histories.specs.Places.{AreTold}
use Rattle.net_parts.specs.Numbers.{Net}
use Rattle.net_simulator.specs.Worlds.{WorldState}
use Rattle.road_net.specs.Network.{IsNetwork}
use Rattle.runs.specs.Promises.{KeepsPromises}
use Rattle.runs.specs.Runs.{IsRun, IsRunBy}
use Rattle.runs.specs.declared.records.RunRecord.{RunRecord}
use Rattle.runs.proofs.PlanLaws.{all-plans}
use Rattle.node_rounds.specs.Calls.{AreStepsOf, IsRunOfCalls, MergeToLawful}
use Rattle.node_rounds.specs.Rounds.{Between}
use Rattle.node_rounds.proofs.Along.{along}
use Rattle.node_rounds.proofs.Told.{call-heard, rounds-made, steps-made}

contains-map : {X Y : Type 0} (f : X → Y) (xs : List X) (x : X) → Contains xs x → Contains (map f xs) (f x)
contains-map f xs x (k, below, is) = (k, (omega (arith, length-map xs f)), get_or-map f xs k x (f x) below ∙ ap f is)

used : Heard → Used
used x = record { link = x.link; version = x.version }

module _ (net : Net) (network : IsNetwork net) (arrivals : Amounts) (boards : BoardsView) (passes : List PassView) (actors : List Acting) (world : WorldState) (plans : Vec PlanRecord) (b : Between net arrivals boards net.run.rounds passes actors world plans) where
  -- the merge of the logs of the calls is lawful
  pub are-calls : AreCalls (board_steps net) net.run.rounds (calls_in passes)
  are-calls = record { rounds_made = rounds-made net b.heard b.made net.run.rounds (calls_in passes) b.calls; rising = b.rising }

  pub merge-lawful : ((calls : ℕ → List Call) (logs : List Log) (h : List ℕ) → AreCalls (board_steps net) net.run.rounds calls → AreLogsOf calls (log_at logs) → IsMerge logs h → IsLawful net h) → MergeToLawful net (calls_in passes)
  merge-lawful lawful logs history made merge = lawful (calls_in passes) logs history are-calls made merge

  pub by-commits : (run : RunRecord) → IsRecordOf net plans.items actors world run → IsRunBy net (arriving_of arrivals) b.heard b.made run
  by-commits = run-by net (arriving_of arrivals) b.heard b.made actors world b.all b.rests b.commits b.second b.stands plans b.planned

  -- the calls are the steps, and each reading is named
  pub are-steps : (run : RunRecord) → IsRecordOf net plans.items actors world run → (node : ℕ) → AreStepsOf net run node (calls_in passes node)
  unfolding used
  are-steps run left node = record {
    steps = steps-made net b.heard b.made net.run.rounds (calls_in passes) b.calls node;
    named = λ place call plan at reads there node_is round_is.
        let w : ℕ = length (board_steps net node) in
        let IsUsed : PlanRecord → Type 0 = λ p. p.node ≡ node → p.round ≡ place / w → Contains p.used (record { link = call.link; version = call.version }) in
        let heard : Contains (b.heard (place / w) node) (record { link = call.link; version = call.version; forecast = call.forecast }) = call-heard net b.heard b.made net.run.rounds (calls_in passes) b.calls node place call at reads in
        let each : (r n : ℕ) → r < net.run.rounds → n < length net.node_names → IsUsed (record_of n r (b.heard r n) (b.made r n)) = λ r n less below n_is r_is.
        subst (λ (h : List Heard). Contains (used_of h) (record { link = call.link; version = call.version })) (sym (ap (λ s. b.heard s n) r_is ∙ ap (b.heard (place / w)) n_is))
        (contains-map used (b.heard (place / w) node) (record { link = call.link; version = call.version; forecast = call.forecast }) heard) in
        All-contains IsUsed run.plans plan (subst (All IsUsed) (sym (by-commits run left).plans) (all-plans IsUsed net b.heard b.made net.run.rounds each)) there node_is round_is;
  }

  -- and it is the run of that merge
  pub is-run-of : ((calls : ℕ → List Call) (logs : List Log) (h : List ℕ) → AreCalls (board_steps net) net.run.rounds calls → AreLogsOf calls (log_at logs) → IsMerge logs h → IsLawful net h)
      → ((calls : ℕ → List Call) (logs : List Log) (h : List ℕ) → AreCalls (board_steps net) net.run.rounds calls → AreLogsOf calls (log_at logs) → Agree calls (log_at logs) → IsMerge logs h → AreTold (board_steps net) (publisher net) calls h)
      → ((arriving : ℕ → ℕ → ℕ) (history : List ℕ) (record_of_run : RunRecord) → IsLawful net history → (run : IsRun net arriving history record_of_run) → KeepsPromises net arriving history run.made record_of_run)
      → (run : RunRecord) → IsRecordOf net plans.items actors world run → IsRunOfCalls net (arriving_of arrivals) (calls_in passes) run
  is-run-of lawful told keeps run left logs history made agree merge =
      let is_lawful : IsLawful net history = merge-lawful lawful logs history made merge in
      let is : IsRun net (arriving_of arrivals) history run = record {
        heard = b.heard;
        made = b.made;
        by = by-commits run left;
        along = along net network b.heard b.made (calls_in passes) history b.calls is_lawful (told (calls_in passes) logs history are-calls made agree merge);
      } in
      record { run = is; kept = keeps (arriving_of arrivals) history run is_lawful is }

-- The nodes hear along the merge of their calls.
use Rattle.std.proofs.Common.{◌≡◌, ℕ, zero, suc, ◌≤◌, List, [], ◌∷◌, map, filter, get_or, refl, sym, ap, subst, ◌∙◌, arith}
use Rattle.std.specs.Prelude.{Contains, IsSome, slice_index_or}
use Rattle.std.specs.List.{range_with_len}
use Rattle.std.proofs.lemmas.List.FromFn.{get_or-map-range_with_len}
use Rattle.board_model.specs.declared.boards.Heard.{Heard}
use Rattle.board_model.specs.declared.calls.Call.{Call}
use Rattle.board_model.specs.declared.forecasts.Row.{Row}
use Rattle.histories.specs.Histories.{IsLawful, earlier, round_at, version_at}
use Rattle.histories.specs.Steps.{board_steps, is_publish_of, publisher}
use Rattle.histories.specs.declared.steps.BoardStep.TheVariants.{Publish}
use Rattle.histories.proofs.Versions.{version-law}
use Rattle.intersection_actor.specs.Commits.{Commitment}
use Rattle.histories.specs.Places.{AreTold, sent}
use Rattle.net_parts.specs.Numbers.{Net}
use Rattle.node_rounds.specs.Told.{heard_of}
use Rattle.road_net.specs.Network.{IsNetwork}
use Rattle.runs.specs.Runs.{HearAlong, forecast_at, hearing, told_in}
use Rattle.runs.proofs.Heard.{Ends, heard-ends}
use Rattle.runs.proofs.Places.{once, read-first, step-of}
use Rattle.node_rounds.specs.Rounds.{AreCallsIn}
use Rattle.node_rounds.proofs.Told.{call-heard, read-is, sent-all}

-- the forecast of a version, among those that were told in the first rounds
version-told : (net : Net) (made : ℕ → ℕ → Commitment) (link rounds version : ℕ) → version ≤ rounds
    → slice_index_or ([] ∷ map (λ round. told_in net round link (made round (publisher net link))) (range_with_len 0 rounds)) version [] ≡ forecast_at net made link version
version-told net made link rounds zero most = refl
version-told net made link rounds (suc round) most = get_or-map-range_with_len (λ r. told_in net r link (made r (publisher net link))) 0 rounds round round [] (omega arith) (omega arith)

pub along : (net : Net) (network : IsNetwork net) (heard : ℕ → ℕ → List Heard) (made : ℕ → ℕ → Commitment) (calls : ℕ → List Call) (history : List ℕ)
    → AreCallsIn net heard made net.run.rounds calls → IsLawful net history → AreTold (board_steps net) (publisher net) calls history → HearAlong net history heard made
along net network heard made calls history are lawful told place link inside step =
    let (call, at) = told.places place inside in
    let node : ℕ = get_or history place 0 in
    let reads = read-is call link (sym at.step ∙ step) in
    let (round, k, less, there) = step-of net network history lawful place inside in
    let first = read-first net node k link there.small (sym there.step_is ∙ step) in
    let ends : Ends net node link = subst (Ends net node) first.1 (heard-ends net node k network first.0) in
    let range = version-law net network link history place lawful inside (subst IsSome (sym ends.from) refl) (subst IsSome (sym ends.to) refl) in
    let upper = range.1 in
    let most : version_at (board_steps net) history link place ≤ net.run.rounds = omega (arith, there.round_is) in
    let version : call.version ≡ version_at (board_steps net) history link place = at.version reads.0 ∙ ap (λ l. version_at (board_steps net) history l place) reads.1 in
    let sent-is : sent link (calls (publisher net link)) ≡ map (λ round. told_in net round link (made round (publisher net link))) (range_with_len 0 net.run.rounds) =
    sent-all net heard made net.run.rounds calls are (publisher net link) link (subst (λ f. filter-once f) (sym ends.tells) (once net network history lawful link ends.teller node ends.from ends.to)) in
    let forecast : call.forecast ≡ forecast_at net made link (version_at (board_steps net) history link place) =
    at.forecast reads.0
    ∙ ap (λ l. slice_index_or ([] ∷ sent l (calls (publisher net l))) call.version []) reads.1
    ∙ ap (λ (s : List (List Row)). slice_index_or ([] ∷ s) call.version []) sent-is
    ∙ ap (λ v. slice_index_or ([] ∷ map (λ round. told_in net round link (made round (publisher net link))) (range_with_len 0 net.run.rounds)) v []) version
    ∙ version-told net made link net.run.rounds (version_at (board_steps net) history link place) most in
    let same : heard_of call ≡ hearing net made link (version_at (board_steps net) history link place) =
    λ i. record { link = reads.1 i; version = version i; forecast = forecast i } in
    subst (Contains (heard (round_at (board_steps net) history place) node)) same (call-heard net heard made net.run.rounds calls are node (earlier history place) call at.found reads.0)
  where
    filter-once : ℕ → Type 0
    filter-once f = filter (is_publish_of link) (board_steps net f) ≡ Publish link ∷ []

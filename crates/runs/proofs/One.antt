-- A lawful history has one run.
use Rattle.std.proofs.Common.{◌≡◌, ℕ, zero, suc, ◌*◌, ◌<◌, ◌≤◌, List, length, map, get_or, refl, sym, ap, subst, ◌∙◌, inl, inr, arith}
use Rattle.std.specs.Prelude.{IsSome}
use Rattle.std.specs.List.{range_with_len}
use Rattle.std.proofs.lemmas.Bool.{cases_lt}
use Rattle.std.proofs.lemmas.List.{ext_get_or}
use Rattle.board_model.specs.declared.boards.Heard.{Heard}
use Rattle.board_model.specs.declared.forecasts.Row.{Row}
use Rattle.histories.specs.Histories.{IsLawful, version_at}
use Rattle.histories.specs.Steps.{board_steps}
use Rattle.histories.proofs.Versions.{version-law}
use Rattle.net_parts.specs.Numbers.{Net}
use Rattle.net_simulator.specs.Flow.{Cumulative}
use Rattle.net_simulator.specs.Sums.{end_of_run, link_totals, totals}
use Rattle.road_net.specs.Network.{IsNetwork, heard_links}
use Rattle.runs.specs.Runs.{IsRun, forecast_at, hearing, line_before, cumulative_by, sensed_in, told_in}
use Rattle.runs.specs.declared.records.RunRecord.{RunRecord}
use Rattle.runs.proofs.Agree.{SameBefore, commit-moved, lines-same, past-same}
use Rattle.runs.proofs.Committed.{one-commit}
use Rattle.runs.proofs.Heard.{Ends, heard-at, heard-count, heard-ends}
use Rattle.runs.proofs.PlanLists.{plans-same}
use Rattle.runs.proofs.SameParts.{map-range-same}
use Rattle.runs.proofs.Places.{StandsAt, comes-first, first-small, place-of, published}

module _ (net : Net) (network : IsNetwork net) (arriving : ℕ → ℕ → ℕ) (h : List ℕ) (lawful : IsLawful net h) (one other : RunRecord) (a : IsRun net arriving h one) (b : IsRun net arriving h other) where
  abbrev Same : ℕ → Type 0
  Same r = SameBefore net network arriving a.made b.made r

  -- a node hears the same version at a place, and here the same forecast
  HearsSame : ℕ → ℕ → Type 0
  HearsSame r n = (q place : ℕ) → q < length (heard_links net n) → StandsAt net h r n q place
      → forecast_at net a.made (get_or (heard_links net n) q 0) (version_at (board_steps net) h (get_or (heard_links net n) q 0) place)
      ≡ forecast_at net b.made (get_or (heard_links net n) q 0) (version_at (board_steps net) h (get_or (heard_links net n) q 0) place)

  heard-same : (r n : ℕ) → r < net.run.rounds → n < length net.node_names → HearsSame r n → a.heard r n ≡ b.heard r n
  unfolding HearsSame
  heard-same r n less below same =
      let left : length (a.heard r n) ≡ length (heard_links net n) = heard-count net arriving h a.heard a.made net.run.rounds a.by.commits a.along r n less below in
      let right : length (b.heard r n) ≡ length (heard_links net n) = heard-count net arriving h b.heard b.made net.run.rounds b.by.commits b.along r n less below in
      let none : Heard = hearing net a.made 0 0 in
      ext_get_or none (a.heard r n) (b.heard r n) (left ∙ sym right) (λ q inside.
      let first : q < length (heard_links net n) = omega arith in
      let l : ℕ = get_or (heard_links net n) q 0 in
      let (place, at) = place-of net network h lawful r n q less (first-small net n q first) in
      heard-at net arriving h a.heard a.made net.run.rounds a.by.commits a.along r n q place less below first at none
      ∙ ap (λ (f : List Row). record { link = l; version = version_at (board_steps net) h l place; forecast = f }) (same q place first at)
      ∙ sym (heard-at net arriving h b.heard b.made net.run.rounds b.by.commits b.along r n q place less below first at none))

  commit-same : (r n : ℕ) → r < net.run.rounds → n < length net.node_names → Same r → HearsSame r n → a.made r n ≡ b.made r n
  commit-same r n less below before same =
      one-commit net n r (line_before net b.made r n) (sensed_in net arriving b.made r n) (b.heard r n) (a.made r n) (b.made r n)
      (commit-moved net network arriving a.made b.made r n (a.heard r n) (b.heard r n) (a.made r n) before below (heard-same r n less below same) (a.by.commits r n less below).commit)
      (b.by.commits r n less below).commit

  -- The reads of a node in a round, where the nodes whose reads of the round all stand before one of its own commit the same.
  told-same : (r n : ℕ) → r < net.run.rounds → n < length net.node_names → Same r → (i : ℕ)
      → ((f : ℕ) → f < length net.node_names → ((q place : ℕ) → q < length (heard_links net f) → StandsAt net h r f q place → place < i) → a.made r f ≡ b.made r f)
      → ((q place : ℕ) → q < length (heard_links net n) → StandsAt net h r n q place → place < suc i) → HearsSame r n
  unfolding HearsSame
  told-same r n less below before i earlier reads q place first at =
      let l : ℕ = get_or (heard_links net n) q 0 in
      let ends : Ends net n l = heard-ends net n q network first in
      by l ends (version_at (board_steps net) h l place) refl
    where
      by : (l : ℕ) → Ends net n l → (v : ℕ) → version_at (board_steps net) h l place ≡ v → forecast_at net a.made l v ≡ forecast_at net b.made l v
      by l ends zero e = refl
      by l ends (suc k) e =
          let (p, w, earlier_place, in_rounds, told, at_p) = published net network h lawful l ends.teller n ends.from ends.to place k (let inside = at.inside in omega arith) e in
          let bound = (version-law net network l h place lawful at.inside (subst IsSome (sym ends.from) refl) (subst IsSome (sym ends.to) refl)).1 in
          let most : k ≤ r = omega (arith, bound, e, at.round_is) in
          let same : a.made k ends.teller ≡ b.made k ends.teller = elim (cases_lt k r) [
            | inl before_it ↦ before k ends.teller before_it ends.below
            | inr now ↦
                let here : k ≡ r = omega arith in
                subst (λ s. a.made s ends.teller ≡ b.made s ends.teller) (sym here) (earlier ends.teller ends.below (λ u there inside stood.
                let c : there < p = comes-first ends.teller there p h (let x = stood.counted in let y = at_p.counted in omega (arith, x, y, ap (λ s. s * length (board_steps net ends.teller)) here)) in
                let z : place < suc i = reads q place first at in
                omega arith))
          ] in
          ap (λ m. told_in net k l (a.made k m)) ends.tells ∙ ap (told_in net k l) same ∙ ap (λ m. told_in net k l (b.made k m)) (sym ends.tells)

  -- within a round, by the place of the last read of a node
  inner : (r : ℕ) → r < net.run.rounds → Same r → (i n : ℕ) → n < length net.node_names → ((q place : ℕ) → q < length (heard_links net n) → StandsAt net h r n q place → place < i) → a.made r n ≡ b.made r n
  unfolding HearsSame
  inner r less before zero n below reads = commit-same r n less below before (λ q place first at. absurd (let z = reads q place first at in omega arith))
  inner r less before (suc i) n below reads = commit-same r n less below before (told-same r n less below before i (inner r less before i) reads)

  all-same : (r : ℕ) → r ≤ net.run.rounds → Same r
  all-same zero most s n less below = absurd (omega arith)
  all-same (suc r) most s n less below = elim (cases_lt s r) [
    | inl before ↦ all-same r (omega arith) s n before below
    | inr last ↦
        let e : s ≡ r = omega arith in
        subst (λ t. a.made t n ≡ b.made t n) (sym e) (inner r (omega arith) (all-same r (omega arith)) (length h) n below (λ q place first at. at.inside))
  ]

  every : Same net.run.rounds
  every = all-same net.run.rounds (omega arith)

  hears-same : (r n : ℕ) → r < net.run.rounds → n < length net.node_names → HearsSame r n
  hears-same r n less below = told-same r n less below (λ s m before. every s m (omega arith)) (length h) (λ f inside reads. every r f less inside) (λ q place first at. let z = at.inside in omega arith)

  -- the records are the same
  pub one-run : one ≡ other
  one-run =
      let past : cumulative_by net arriving a.made (end_of_run net) ≡ cumulative_by net arriving b.made (end_of_run net) = past-same net network arriving a.made b.made net.run.rounds every in
      let plans = a.by.plans ∙ plans-same net a.heard b.heard a.made b.made net.run.rounds (λ r n less below. heard-same r n less below (hears-same r n less below)) every ∙ sym b.by.plans in
      let timelines = a.by.timelines ∙ map-range-same (line_before net a.made net.run.rounds) (line_before net b.made net.run.rounds) 0 (length net.node_names) (λ n least below. lines-same net network arriving a.made b.made net.run.rounds n every (omega arith)) ∙ sym b.by.timelines in
      let links = a.by.links ∙ ap (λ (p : ℕ → ℕ → Cumulative). map (link_totals net p (end_of_run net)) (range_with_len 0 (length net.link_names))) past ∙ sym b.by.links in
      let all = a.by.all ∙ ap (λ (p : ℕ → ℕ → Cumulative). totals net arriving p (end_of_run net)) past ∙ sym b.by.all in
      λ i. record { plans = plans i; timelines = timelines i; links = links i; totals = all i }

-- The platoons of a phase are what planning and forecasting ask.
use Rattle.std.proofs.Common.{◌≡◌, ℕ, ◌+◌, ◌-◌, ◌*◌, ◌<◌, ◌≤◌, List, [], ◌∷◌, ◌++◌, Option, All, length, get_or, map, sum_by, refl, sym, ap, subst, ◌∙◌, inl, inr, arith, add-one}
use Rattle.std.specs.List.{range_with_len}
use Rattle.std.specs.List.Sorted.{IsStrictlyIncreasing}
use Rattle.std.proofs.lemmas.List.{get_or-map, length-map, get_or_past}
use Rattle.std.proofs.lemmas.Simd.{map-map}
use Rattle.board_model.specs.declared.forecasts.Row.{Row}
use Rattle.std.proofs.lemmas.List.FromFn.{get_or-map-range_with_len, length-map-range_with_len}
use Rattle.std.proofs.lemmas.List.Elements.{All-get_or, All-from_get_or, All-map, All-weaker}
use Rattle.std.proofs.lemmas.Bool.{cases_lt}
use Rattle.switch_rules.specs.Sequences.{cluster_at}
use Rattle.switch_rules.specs.Serving.{IsCluster}
use Rattle.board_model.specs.declared.boards.Heard.{Heard}
use Rattle.net_parts.specs.Limits.{most_seconds}
use Rattle.net_parts.specs.Numbers.{Net, no_link}
use Rattle.net_parts.specs.Outline.{IsOutline, IsLink, ArePhaseLinks, link_at, phases_at, phase_links_at, plan_at}
use Rattle.road_net.specs.Network.{IsNetwork}
use Rattle.road_net.specs.declared.senses.Sensed.{Sensed}
use Rattle.clusters.specs.declared.vehicle_groups.Part.{Part}
use Rattle.clusters.specs.declared.vehicle_groups.Platoon.{Platoon}
use Rattle.clusters.specs.Smoothing.{smoothed, left_by}
use Rattle.clusters.specs.Inflow.{inflow, inflow_at, leaving, sense_of, heard_forecast}
use Rattle.clusters.specs.Cuts.{first_of, last_of, run_at}
use Rattle.clusters.specs.Platoons.{ArePlatoonsBy, platoons_at, part_of, platoon_of, platoon_within, streams_of, together, whole_of}
use Rattle.clusters.specs.Sound.{IsPart, IsPlatoon, AreOfNode, AreSoundOf, cluster_lists, AreSpacedClusters, clusters_of}
use Rattle.clusters.specs.Windows.{IsRising, arrivals}
use Rattle.clusters.specs.Steps.{AreOfLinks, AreStreams, IsAge}
use Rattle.clusters.specs.Options.{aged_load_of}
use Rattle.clusters.proofs.ListLaws.{get_or-push-at, get_or-push-other, length-push}
use Rattle.clusters.proofs.LoadLaws.{IsLoading, loads-between}
use Rattle.clusters.proofs.RunLaws.{AreInOrder, LiesIn, cut-in-order}
use Rattle.clusters.proofs.SmoothLaws.{left-more}
use Rattle.clusters.proofs.TogetherLaws.{brought, length-slice_range, All-slice_range, whole-some, whole-few}

-- no more leaves in a second than can
left-le : (sat : ℕ) (amounts : List ℕ) (k : ℕ) → left_by sat amounts (k + 1) - left_by sat amounts k ≤ sat
left-le sat amounts k = rw (add-one k) (omega (arith, left-more sat amounts k))

pub length-smoothed : (sat : ℕ) (amounts : List ℕ) → length (smoothed sat amounts) ≡ length amounts
unfolding smoothed
length-smoothed sat amounts = length-map-range_with_len (λ k. left_by sat amounts (k + 1) - left_by sat amounts k) 0 (length amounts)

pub smoothed-le : (sat : ℕ) (amounts : List ℕ) → All (λ x. x ≤ sat) (smoothed sat amounts)
unfolding smoothed
smoothed-le sat amounts =
    All-map (λ x. x ≤ sat) (λ k. left_by sat amounts (k + 1) - left_by sat amounts k) (range_with_len 0 (length amounts))
    (λ k d lt. left-le sat amounts (get_or (range_with_len 0 (length amounts)) k d))

length-inflow : (now look travel queue : ℕ) (coming : List ℕ) (rows : List Row) → length (inflow now look travel queue coming rows) ≡ look
unfolding inflow
length-inflow now look travel queue coming rows = length-map-range_with_len (inflow_at now travel queue coming rows) now look

pub leaving-part : (net : Net) (sensed : Sensed) (heard : List Heard) (l : ℕ) → IsPart net net.run.look (record { link = l; amounts = leaving net sensed heard l })
unfolding leaving
leaving-part net sensed heard l =
    let inflows : List ℕ = inflow sensed.now net.run.look (link_at net l).travel (sense_of sensed l).queue (sense_of sensed l).coming (heard_forecast heard l) in
    record {
      count = length-smoothed (link_at net l).sat inflows ∙ length-inflow sensed.now net.run.look (link_at net l).travel (sense_of sensed l).queue (sense_of sensed l).coming (heard_forecast heard l);
      amounts = smoothed-le (link_at net l).sat inflows;
    }

sat-le : (net : Net) (l : ℕ) → IsOutline net → (link_at net l).sat ≤ 5000
sat-le net l h = elim (cases_lt l (length net.links)) [
  | inl below ↦ (All-get_or (IsLink (length net.node_names)) net.links l no_link below h.links).sat.1
  | inr past ↦ let e : link_at net l ≡ no_link = get_or_past net.links l no_link past in rw e (omega arith)
]

streams-parts : (net : Net) (sensed : Sensed) (heard : List Heard) (links : List ℕ) → All (IsPart net net.run.look) (streams_of net sensed heard links)
streams-parts net sensed heard links =
    All-map (IsPart net net.run.look) (λ l. record { link = l; amounts = leaving net sensed heard l }) links
    (λ k d lt. leaving-part net sensed heard (get_or links k d))

streams-links : (net : Net) (sensed : Sensed) (heard : List Heard) (links : List ℕ) → map (λ part. part.link) (streams_of net sensed heard links) ≡ links
streams-links net sensed heard [] = refl
streams-links net sensed heard (l ∷ links) = ap (λ ls. l ∷ ls) (streams-links net sensed heard links)

phase-links : (net : Net) (node phase : ℕ) → IsOutline net → node < length net.node_names → phase < length (plan_at net node) → ArePhaseLinks (length net.link_names) (phase_links_at net node phase)
phase-links net node phase h there exists =
    let phases : All (ArePhaseLinks (length net.link_names)) (phases_at net node) =
    All-get_or (λ ps. All (ArePhaseLinks (length net.link_names)) ps) net.phase_links node [] (omega (arith, h.phases_count)) h.phase_links in
    All-get_or (ArePhaseLinks (length net.link_names)) (phases_at net node) phase [] (omega (arith, h.phase_counts node there)) phases

part-small : (net : Net) (look : ℕ) (s : Part) → IsOutline net → IsPart net look s → All (λ amount. amount ≤ 5000) s.amounts
part-small net look s h p = All-weaker (λ amount. amount ≤ (link_at net s.link).sat) (λ amount. amount ≤ 5000) (λ amount le. omega (arith, le, sat-le net s.link h)) s.amounts p.amounts

pub streams-sound : (net : Net) (node phase : ℕ) (sensed : Sensed) (heard : List Heard) (links : List ℕ) (streams : List Part) (look : ℕ)
    → IsNetwork net → node < length net.node_names → phase < length (plan_at net node) → links ≡ phase_links_at net node phase
    → look ≡ net.run.look → streams ≡ streams_of net sensed heard links → AreStreams look streams
streams-sound net node phase sensed heard links streams look h there exists l r e =
    let P : List Part → Type 0 = λ ss. AreStreams look ss in
    subst P (sym e) (rw r (record {
      few = omega (arith, length-map links (λ k. let p : Part = record { link = k; amounts = leaving net sensed heard k } in p), ap length l, (phase-links net node phase h.outline there exists).count);
      long = All-weaker (IsPart net net.run.look) (λ s. length s.amounts ≡ net.run.look) (λ s p. p.count) (streams_of net sensed heard links) (streams-parts net sensed heard links);
      small = All-weaker (IsPart net net.run.look) (λ s. All (λ amount. amount ≤ 5000) s.amounts) (λ s p. part-small net net.run.look s h.outline p) (streams_of net sensed heard links) (streams-parts net sensed heard links);
    }))

-- the streams are those of links that exist
pub streams-exist : (net : Net) (node phase : ℕ) (sensed : Sensed) (heard : List Heard) (links : List ℕ) (streams : List Part)
    → IsNetwork net → node < length net.node_names → phase < length (plan_at net node) → links ≡ phase_links_at net node phase
    → streams ≡ streams_of net sensed heard links → AreOfLinks net streams
streams-exist net node phase sensed heard links streams h there exists l e =
    let exist : All (λ k. k < length net.link_names) links = subst (All (λ k. k < length net.link_names)) (sym l) (phase-links net node phase h.outline there exists).exist in
    subst (AreOfLinks net) (sym e) (All-map (λ (s : Part). s.link < length net.link_names) (λ k. record { link = k; amounts = leaving net sensed heard k }) links exist)

-- one platoon
platoon-parts : (load : Part → ℕ) (net : Net) (look now first end : ℕ) (streams : List Part) (links : List ℕ)
    → All (IsPart net look) streams → map (λ part. part.link) streams ≡ links → end ≤ look → IsPlatoon net now links (platoon_within load now streams first end)
platoon-parts load net look now first end streams links h order le = record {
  arr = omega arith;
  order = map-map (λ part. part.link) (part_of first end) streams ∙ order;
  parts =
      All-map (IsPart net (end - first)) (part_of first end) streams
      (All-weaker (IsPart net look) (λ s. IsPart net (end - first) (part_of first end s))
      (λ s p. record {
        count = length-slice_range s.amounts first end (omega (arith, p.count));
        amounts = All-slice_range (λ amount. amount ≤ (link_at net s.link).sat) s.amounts first end p.amounts;
      })
      streams h);
  whole = refl;
}

platoon-cluster : (load : Part → ℕ) (look now first end : ℕ) (streams : List Part) → AreStreams look streams → now ≤ most_seconds → look ≤ 180 → first < end → end ≤ look
    → 1 ≤ sum_by (brought first) streams → IsLoading load (map (part_of first end) streams) → IsCluster (platoon_within load now streams first end).cluster
platoon-cluster load look now first end streams h early short lt le filled loads =
    let long : All (λ s. end ≤ length s.amounts) streams = All-weaker (λ s. length s.amounts ≡ look) (λ s. end ≤ length s.amounts) (λ s e. omega (arith, e)) streams h.long in
    let most : whole_of (map (part_of first end) streams) ≤ 900000 * length streams = whole-few streams first end h.small (omega arith) in
    record {
      size = (omega (arith, whole-some streams first end lt long), omega (arith, most, h.few));
      load = (loads.least, loads.most);
      arr = omega arith;
      len = (omega arith, omega arith);
    }

-- the platoons of runs, by their places
platoon-at : (load : Part → ℕ) (now : ℕ) (streams : List Part) (runs : List (List ℕ)) (k : ℕ) (d : Platoon) → k < length runs
    → get_or (map (platoon_of load now streams) runs) k d ≡ platoon_of load now streams (run_at runs k)
platoon-at load now streams runs k d lt = get_or-map (platoon_of load now streams) runs k [] d lt

cluster-at : (load : Part → ℕ) (now : ℕ) (streams : List Part) (runs : List (List ℕ)) (k : ℕ) → k < length runs
    → cluster_at (clusters_of (map (platoon_of load now streams) runs)) k ≡ (platoon_of load now streams (run_at runs k)).cluster
cluster-at load now streams runs k lt =
    let d : Platoon = platoon_of load now streams [] in
    get_or-map (λ p. p.cluster) (map (platoon_of load now streams) runs) k d _ (omega (arith, length-map runs (platoon_of load now streams)))
    ∙ ap (λ p. p.cluster) (platoon-at load now streams runs k d lt)

arrival-at : (load : Part → ℕ) (now : ℕ) (streams : List Part) (runs : List (List ℕ)) (k : ℕ) → k < length runs
    → get_or (arrivals (map (platoon_of load now streams) runs)) k 0 ≡ now + first_of (run_at runs k)
arrival-at load now streams runs k lt =
    let d : Platoon = platoon_of load now streams [] in
    get_or-map (λ p. p.cluster.arr) (map (platoon_of load now streams) runs) k d 0 (omega (arith, length-map runs (platoon_of load now streams)))
    ∙ ap (λ p. p.cluster.arr) (platoon-at load now streams runs k d lt)

-- Platoons of the runs of a cut, whatever these may span and a part may count.
pub platoons-made : (load : Part → ℕ) (gap rate : ℕ) (span : ℕ → ℕ) (net : Net) (node phase : ℕ) (sensed : Sensed) (heard : List Heard) (list : List Platoon)
    → IsNetwork net → sensed.now ≤ most_seconds → node < length net.node_names → phase < length (plan_at net node)
    → ((first end : ℕ) → IsLoading load (map (part_of first end) (streams_of net sensed heard (phase_links_at net node phase))))
    → ArePlatoonsBy load gap rate span sensed.now net.run.look (streams_of net sensed heard (phase_links_at net node phase)) list
    → AreSoundOf net node phase sensed.now list
unfolding together
platoons-made load gap rate span net node phase sensed heard list h early there exists loads are =
    let look : ℕ = net.run.look in
    let now : ℕ = sensed.now in
    let links : List ℕ = phase_links_at net node phase in
    let streams : List Part = streams_of net sensed heard (phase_links_at net node phase) in
    let series : List ℕ = together (streams_of net sensed heard (phase_links_at net node phase)) net.run.look in
    let runs : List (List ℕ) = are.runs in
    let short : net.run.look ≤ 180 = h.outline.run.look.1 in
    let count : length (together (streams_of net sensed heard (phase_links_at net node phase)) net.run.look) ≡ net.run.look =
    length-map-range_with_len (λ x. sum_by (brought x) (streams_of net sensed heard (phase_links_at net node phase))) 0 net.run.look in
    let placed : AreInOrder series runs = cut-in-order gap rate span series runs are.cut in
    let each : (k : ℕ) → k < length are.runs → LiesIn series (run_at are.runs k) = λ k lt. All-get_or (LiesIn series) are.runs k [] lt placed.each in
    let sound : AreStreams net.run.look streams = streams-sound net node phase sensed heard links streams look h there exists refl refl refl in
    let parts : All (IsPart net net.run.look) streams = streams-parts net sensed heard links in
    let order : map (λ part. part.link) streams ≡ links = streams-links net sensed heard links in
    let filled : (x : ℕ) → x < net.run.look → get_or (together (streams_of net sensed heard (phase_links_at net node phase)) net.run.look) x 0 ≡ sum_by (brought x) (streams_of net sensed heard (phase_links_at net node phase)) =
    λ x lt. get_or-map-range_with_len (λ y. sum_by (brought y) (streams_of net sensed heard (phase_links_at net node phase))) 0 net.run.look x x 0 lt (omega arith) in
    let size : length list ≡ length are.runs = ap length are.each ∙ length-map are.runs (platoon_of load sensed.now streams) in
    record {
      parts =
          let P : List Platoon → Type 0 = All (IsPlatoon net sensed.now (phase_links_at net node phase)) in
          subst P (sym are.each)
          (All-map (IsPlatoon net sensed.now (phase_links_at net node phase)) (platoon_of load sensed.now streams) are.runs
          (All-weaker (LiesIn series) (λ run. IsPlatoon net sensed.now (phase_links_at net node phase) (platoon_of load sensed.now streams run))
          (λ run r. platoon-parts load net net.run.look sensed.now (first_of run) (last_of run + 1) streams (phase_links_at net node phase) parts order (omega (arith, r.before, count)))
          are.runs placed.each));
      clusters =
          let P : List Platoon → Type 0 = λ ps. AreSpacedClusters (clusters_of ps) in
          subst P (sym are.each)
          (record {
            each =
                All-map IsCluster (λ p. p.cluster) (map (platoon_of load sensed.now streams) are.runs)
                (All-map (λ p. IsCluster p.cluster) (platoon_of load sensed.now streams) are.runs
                (All-weaker (LiesIn series) (λ run. IsCluster (platoon_of load sensed.now streams run).cluster)
                (λ run r. platoon-cluster load net.run.look sensed.now (first_of run) (last_of run + 1) streams sound early short (omega (arith, r.order)) (omega (arith, r.before, count))
                (omega (arith, r.filled, filled (first_of run) (omega (arith, r.order, r.before, count))))
                (loads (first_of run) (last_of run + 1)))
                are.runs placed.each));
            spaced = λ k lt.
                let below : k + 1 < length are.runs = omega (arith, lt, length-map (map (platoon_of load sensed.now streams) are.runs) (λ (p : Platoon). p.cluster), length-map are.runs (platoon_of load sensed.now streams)) in
                rw (cluster-at load sensed.now streams are.runs k (omega arith), cluster-at load sensed.now streams are.runs (k + 1) below)
                (omega (arith, placed.order k below, (each k (omega arith)).order));
          });
      rising = record {
        few = omega (arith, size, placed.few, count);
        rising =
            let P : List Platoon → Type 0 = λ ps. IsStrictlyIncreasing (arrivals ps) in
            subst P (sym are.each)
            (λ k lt.
            let below : k + 1 < length are.runs = omega (arith, lt, length-map (map (platoon_of load sensed.now streams) are.runs) (λ (p : Platoon). p.cluster.arr), length-map are.runs (platoon_of load sensed.now streams)) in
            rw (arrival-at load sensed.now streams are.runs k (omega arith), arrival-at load sensed.now streams are.runs (k + 1) below)
            (omega (arith, placed.order k below, (each k (omega arith)).order)));
      };
    }

-- so the platoons of a phase of a network, with an age or none, are what planning and forecasting ask
pub aged-sound : (age : Option ℕ) (gap rate : ℕ) (span : ℕ → ℕ) (net : Net) (node phase : ℕ) (sensed : Sensed) (heard : List Heard) (list : List Platoon)
    → IsNetwork net → sensed.now ≤ most_seconds → node < length net.node_names → phase < length (plan_at net node) → IsAge age
    → ArePlatoonsBy (aged_load_of age net sensed) gap rate span sensed.now net.run.look (streams_of net sensed heard (phase_links_at net node phase)) list
    → AreSoundOf net node phase sensed.now list
aged-sound age gap rate span net node phase sensed heard list h early there exists ok are =
    let streams : List Part = streams_of net sensed heard (phase_links_at net node phase) in
    platoons-made (aged_load_of age net sensed) gap rate span net node phase sensed heard list h early there exists
    (λ first end. loads-between age net sensed first end streams ok h.outline (streams-exist net node phase sensed heard (phase_links_at net node phase) streams h there exists refl refl))
    are

-- The lists of the first i phases are such lists.
pub record ArePhases (Are : ℕ → List Platoon → Type 0) (lists : List (List Platoon)) (i : ℕ) : Type 0 where
  pub count : length lists ≡ i
  pub each : (k : ℕ) → k < i → Are k (platoons_at lists k)

pub phases-more : (Are : ℕ → List Platoon → Type 0) (lists more : List (List Platoon)) (list : List Platoon) (i : ℕ)
    → ArePhases Are lists i → Are i list → more ≡ lists ++ list ∷ [] → ArePhases Are more (i + 1)
phases-more Are lists more list i h one pushed =
    let P : List (List Platoon) → Type 0 = λ ls. ArePhases Are ls (i + 1) in
    subst P (sym pushed)
    (record {
      count = omega (arith, length-push lists list, h.count);
      each = λ k lt. elim (cases_lt k i) [
        | inl below ↦ rw (get_or-push-other lists list [] k (omega (arith, h.count))) (h.each k below)
        | inr past ↦
            let at : k ≡ i = omega arith in
            rw (get_or-push-at lists list [] k (omega (arith, h.count)), at) one
      ];
    })

-- what is true of the lists of all phases of a node, where each is what planning and forecasting ask
pub phases-node : (net : Net) (node now : ℕ) (lists : List (List Platoon)) → length lists ≡ length (plan_at net node)
    → ((k : ℕ) → k < length lists → AreSoundOf net node k now (platoons_at lists k)) → AreOfNode net node now lists
phases-node net node now lists count h = record { count = count; each = λ k lt. (h k lt).parts }

pub phases-clusters : (net : Net) (node now : ℕ) (lists : List (List Platoon)) → ((k : ℕ) → k < length lists → AreSoundOf net node k now (platoons_at lists k))
    → All AreSpacedClusters (cluster_lists lists)
phases-clusters net node now lists h = All-map AreSpacedClusters clusters_of lists (All-from_get_or (λ list. AreSpacedClusters (clusters_of list)) lists [] (λ k lt. (h k lt).clusters))

pub phases-rising : (net : Net) (node now : ℕ) (lists : List (List Platoon)) → ((k : ℕ) → k < length lists → AreSoundOf net node k now (platoons_at lists k))
    → All IsRising lists
phases-rising net node now lists h = All-from_get_or IsRising lists [] (λ k lt. (h k lt).rising)

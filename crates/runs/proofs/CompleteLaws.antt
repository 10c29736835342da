-- The record of a run has a plan for each round and node.
use Rattle.std.proofs.Common.{◌≡◌, ℕ, zero, suc, ◌+◌, ◌*◌, ◌<◌, List, ◌∷◌, ◌++◌, All, length, map, get_or, refl, sym, ap, subst, ◌∙◌, arith, length-append}
use Rattle.std.specs.Prelude.{Contains}
use Rattle.std.specs.List.{flat_map, range_with_len}
use Rattle.std.proofs.lemmas.List.{get_or_append_left, get_or-append-add, get_or-map, length-map, map-append}
use Rattle.std.proofs.lemmas.List.Elements.{All-weaker}
use Rattle.std.proofs.lemmas.List.FromFn.{get_or-map-range_with_len, length-map-range_with_len}
use Rattle.histories.specs.Histories.{IsLawful}
use Rattle.intersection_actor.specs.Commits.{record_of}
use Rattle.intersection_actor.specs.declared.records.PlanRecord.{PlanRecord}
use Rattle.intersection_actor.specs.declared.records.Used.{Used}
use Rattle.net_parts.specs.Numbers.{Net}
use Rattle.road_net.specs.Network.{IsNetwork, heard_links}
use Rattle.runs.specs.Plans.{NamesVersions}
use Rattle.runs.specs.Runs.{IsRun, plans_in, plans_of}
use Rattle.runs.specs.Complete.{IsComplete}
use Rattle.runs.specs.declared.records.RunRecord.{RunRecord}
use Rattle.runs.proofs.Places.{row-inside}
use Rattle.runs.proofs.PlanLaws.{all-named}

map-range : {X Y : Type 0} (g : X → Y) (f : ℕ → X) (s n : ℕ) → map g (map f (range_with_len s n)) ≡ map (λ k. g (f k)) (range_with_len s n)
map-range g f s zero = refl
map-range g f s (suc n) = ap (λ l. g (f s) ∷ l) (map-range g f (s + 1) n)

map-flat : {X Y : Type 0} (g : X → Y) (f : ℕ → List X) (h : ℕ → List Y) (s n : ℕ) → ((k : ℕ) → map g (f k) ≡ h k) → map g (flat_map f (range_with_len s n)) ≡ flat_map h (range_with_len s n)
map-flat g f h s zero each = refl
map-flat g f h s (suc n) each = map-append g (f s) (flat_map f (range_with_len (s + 1) n)) ∙ ap (λ l. l ++ map g (flat_map f (range_with_len (s + 1) n))) (each s) ∙ ap (λ l. h s ++ l) (map-flat g f h (s + 1) n each)

-- where the pair of a round and a node stands
abbrev pairs_from : ℕ → ℕ → ℕ → List (ℕ × ℕ)
pairs_from nodes s rounds = flat_map (λ (round : ℕ). map (λ (node : ℕ). (round, node)) (range_with_len 0 nodes)) (range_with_len s rounds)

abbrev row : ℕ → ℕ → List (ℕ × ℕ)
row nodes s = map (λ (node : ℕ). (s, node)) (range_with_len 0 nodes)

length-row : (nodes s : ℕ) → length (row nodes s) ≡ nodes
length-row nodes s = let f : ℕ → ℕ × ℕ = λ node. (s, node) in length-map-range_with_len f 0 nodes

pairs-count : (nodes s rounds : ℕ) → length (pairs_from nodes s rounds) ≡ rounds * nodes
pairs-count nodes s zero = omega arith
pairs-count nodes s (suc rounds) = omega (arith, length-append (row nodes s) (pairs_from nodes (s + 1) rounds), length-row nodes s, pairs-count nodes (s + 1) rounds, more rounds nodes)
  where
    more : (r n : ℕ) → suc r * n ≡ n + r * n
    more r n = omega arith

pairs-at : (nodes s rounds i node : ℕ) (d : ℕ × ℕ) → i < rounds → node < nodes → get_or (pairs_from nodes s rounds) (i * nodes + node) d ≡ (s + i, node)
pairs-at nodes s zero i node d inside below = absurd (omega arith)
pairs-at nodes s (suc rounds) zero node d inside below =
    let long : length (row nodes s) ≡ nodes = length-row nodes s in
    ap (λ k. get_or (pairs_from nodes s (suc rounds)) k d) (let e : 0 * nodes + node ≡ node = omega arith in e)
    ∙ get_or_append_left (row nodes s) (pairs_from nodes (s + 1) rounds) d node (omega arith)
    ∙ (let f : ℕ → ℕ × ℕ = λ n. (s, n) in get_or-map-range_with_len f 0 nodes node node d below (omega arith))
    ∙ ap (λ k. (k, node)) (let e : s ≡ s + 0 = omega arith in e)
pairs-at nodes s (suc rounds) (suc i) node d inside below =
    let long : length (row nodes s) ≡ nodes = length-row nodes s in
    ap (λ k. get_or (pairs_from nodes s (suc rounds)) k d) (place i nodes node (length (row nodes s)) long)
    ∙ get_or-append-add (row nodes s) (pairs_from nodes (s + 1) rounds) (i * nodes + node) d
    ∙ pairs-at nodes (s + 1) rounds i node d (omega arith) below
    ∙ ap (λ k. (k, node)) (let e : s + 1 + i ≡ s + suc i = omega arith in e)
  where
    place : (i n node long : ℕ) → long ≡ n → suc i * n + node ≡ long + (i * n + node)
    place i n node long e = omega arith

-- the plan of a round and a node stands at its place
pub record IsAtPlace (net : Net) (run : RunRecord) (round node : ℕ) : Type 0 where
  pub inside : round * length net.node_names + node < length run.plans
  pub is : (d : PlanRecord) → ((get_or run.plans (round * length net.node_names + node) d).round ≡ round) × ((get_or run.plans (round * length net.node_names + node) d).node ≡ node)

pub at-place : (net : Net) (run : RunRecord) (round node : ℕ) → IsComplete net run → round < net.run.rounds → node < length net.node_names → IsAtPlace net run round node
at-place net run round node whole less below =
    let nodes : ℕ = length net.node_names in
    let pair : PlanRecord → ℕ × ℕ = λ p. (p.round, p.node) in
    let count : length run.plans ≡ net.run.rounds * nodes = sym (length-map run.plans pair) ∙ ap length whole.plans ∙ pairs-count nodes 0 net.run.rounds in
    let inside : round * nodes + node < length run.plans = (let z = row-inside round net.run.rounds nodes node less below in omega arith) in
    record {
      inside = inside;
      is = λ d.
          let e : (0 + round, node) ≡ pair (get_or run.plans (round * nodes + node) d) =
          sym (pairs-at nodes 0 net.run.rounds round node (0, 0) less below) ∙ ap (λ l. get_or l (round * nodes + node) (0, 0)) (sym whole.plans) ∙ get_or-map pair run.plans (round * nodes + node) d (0, 0) inside in
          (sym (ap (λ (x : ℕ × ℕ). x.0) e) ∙ (let z : 0 + round ≡ round = omega arith in z), sym (ap (λ (x : ℕ × ℕ). x.1) e));
    }

pub place-inside : (net : Net) (run : RunRecord) (round node nodes : ℕ) (xs : List PlanRecord) → IsComplete net run → round < net.run.rounds → node < length net.node_names → nodes ≡ length net.node_names → xs ≡ run.plans
    → round * nodes + node < length xs
place-inside net run round node nodes xs whole less below count same =
    let place : round * nodes + node ≡ round * length net.node_names + node = ap (λ k. round * k + node) count in
    omega (arith, (at-place net run round node whole less below).inside, place, ap length same)

-- what is found there
pub found : (net : Net) (run : RunRecord) (round node nodes : ℕ) (xs : List PlanRecord) (x : PlanRecord) → IsComplete net run → round < net.run.rounds → node < length net.node_names → nodes ≡ length net.node_names → xs ≡ run.plans
    → x ≡ get_or xs (round * nodes + node) x → Contains run.plans x × (x.round ≡ round) × (x.node ≡ node)
found net run round node nodes xs x whole less below count same is =
    let at = at-place net run round node whole less below in
    let e : x ≡ get_or run.plans (round * length net.node_names + node) x = is ∙ ap (λ k. get_or xs (round * k + node) x) count ∙ ap (λ l. get_or l (round * length net.node_names + node) x) same in
    ((round * length net.node_names + node, at.inside, sym e), ap (λ (p : PlanRecord). p.round) e ∙ (at.is x).0, ap (λ (p : PlanRecord). p.node) e ∙ (at.is x).1)

-- every run's record is whole
pub whole : (net : Net) → IsNetwork net → (arriving : ℕ → ℕ → ℕ) (h : List ℕ) → IsLawful net h → (run : RunRecord) → IsRun net arriving h run → IsComplete net run
whole net network arriving h lawful run is =
    let pair : PlanRecord → ℕ × ℕ = λ p. (p.round, p.node) in
    record {
      plans = ap (map pair) is.by.plans ∙ map-flat pair (plans_in net is.heard is.made) (row (length net.node_names)) 0 net.run.rounds (λ r. map-range pair (λ n. record_of n r (is.heard r n) (is.made r n)) 0 (length net.node_names));
      used = subst (All (λ (p : PlanRecord). map (λ (u : Used). u.link) p.used ≡ heard_links net p.node)) (sym is.by.plans)
          (All-weaker (NamesVersions net h) (λ (p : PlanRecord). map (λ (u : Used). u.link) p.used ≡ heard_links net p.node) (λ p named. named.links) (plans_of net is.heard is.made net.run.rounds) (all-named net network arriving h lawful is.heard is.made is.by.commits is.along));
      timelines = ap length is.by.timelines ∙ length-map-range_with_len _ 0 (length net.node_names);
      links = ap length is.by.links ∙ length-map-range_with_len _ 0 (length net.link_names);
    }

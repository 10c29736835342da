-- The steps of taking platoons into a window.
use Rattle.std.proofs.Common.{◌≡◌, ◌≢◌, ℕ, ◌+◌, ◌*◌, ◌<◌, ◌≤◌, List, [], ◌∷◌, All, length, get_or, set, take, map, sum, replicate, refl, sym, ap, subst, ◌∙◌, inl, inr, arith, length-set, get_or-set_other, get_or-set_same}
use Rattle.std.proofs.lemmas.List.{get_or-map, length-map, get_or_past, get_or-replicate, length-replicate, length-take, get_or-take, take-map, ext_get_or}
use Rattle.std.proofs.lemmas.List.Elements.{All-get_or, All-take, All-from_get_or, All-map, All-weaker}
use Rattle.std.proofs.lemmas.List.Sums.{sum_by-set}
use Rattle.std.proofs.lemmas.Bool.{cases_lt}
use Rattle.std.proofs.lemmas.Bool.Decides.{eqb_tells}
use Rattle.switch_rules.specs.Orders.{orders}
use Rattle.switch_rules.specs.Sequences.{IsSpaced}
use Rattle.switch_rules.specs.Serving.{IsCluster}
use Rattle.switch_rules.specs.declared.Cluster.{Cluster}
use Rattle.net_parts.specs.Numbers.{Net}
use Rattle.net_parts.specs.Outline.{phase_links_at}
use Rattle.clusters.specs.declared.vehicle_groups.Platoon.{Platoon}
use Rattle.clusters.specs.Platoons.{platoons_at}
use Rattle.clusters.specs.Sound.{AreOfNode, ArePlannable, AreSpacedClusters, IsPlatoon, cluster_lists, clusters_of}
use Rattle.clusters.specs.Windows.{IsFront, IsLongest, IsRising, ArePlannableCounts, IsWindow, counts_of}
use Rattle.clusters.specs.Taking.{AreFronts, IsFirstAmong}
use Rattle.clusters.proofs.WindowLaws.{front-grows, more_of, stuck-longest, whole-longest}

-- These counts have been taken, each phase's in their order.
pub record IsTaking (lists : List (List Platoon)) (counts : List ℕ) (i : ℕ) : Type 0 where
  pub front : IsFront lists counts
  pub orders : length (orders counts) ≤ 50000
  pub total : sum counts ≡ i

abbrev pub none_of : ℕ → List ℕ
none_of n = replicate n 0

none-at : (n k : ℕ) → get_or (none_of n) k 0 ≡ 0
none-at n k = elim (cases_lt k n) [
  | inl below ↦ get_or-replicate n k 0 0 below
  | inr past ↦ get_or_past (none_of n) k 0 (let e : length (none_of n) ≡ n = length-replicate n (let z : ℕ = 0 in z) in omega (arith, e))
]

pub sum-more_of : (counts : List ℕ) (p : ℕ) → p < length counts → sum (more_of counts p) ≡ sum counts + 1
sum-more_of counts p lt = omega (arith, sum_by-set (λ x. x) counts p (get_or counts p 0 + 1) 0 lt)

pub taking-more : (lists : List (List Platoon)) (counts : List ℕ) (i : ℕ) (first : ℕ × ℕ) → All IsRising lists → IsTaking lists counts i
    → IsFirstAmong lists counts (length lists) first → length (orders (more_of counts first.1)) ≤ 50000 → IsTaking lists (more_of counts first.1) (i + 1)
taking-more lists counts i first rising h next few = record {
  front = front-grows lists counts first rising h.front next;
  orders = few;
  total = omega (arith, sum-more_of counts first.1 (omega (arith, next.phase, h.front.phases)), h.total);
}

small-of : (lists : List (List Platoon)) (counts : List ℕ) (i : ℕ) → IsTaking lists counts i → i ≤ 40 → ArePlannableCounts counts
small-of lists counts i h le = record { clusters = omega (arith, h.total); orders = h.orders }

pub taking-whole : (lists : List (List Platoon)) (counts : List ℕ) (i : ℕ) → IsTaking lists counts i → i ≤ 40
    → ((k : ℕ) → k < length lists → length (platoons_at lists k) ≤ get_or counts k 0) → IsLongest lists counts
taking-whole lists counts i h le none = whole-longest lists counts h.front (small-of lists counts i h le) none

pub taking-stuck : (lists : List (List Platoon)) (counts back : List ℕ) (i : ℕ) (first : ℕ × ℕ) → IsTaking lists counts i → i ≤ 40
    → IsFirstAmong lists counts (length lists) first → 50000 < length (orders (more_of counts first.1)) → back ≡ counts → IsLongest lists back
taking-stuck lists counts back i first h le next many e =
    let P : List ℕ → Type 0 = IsLongest lists in
    subst P (sym e) (stuck-longest lists counts first h.front (small-of lists counts i h le) next many)

-- what was added is taken back
pub put-back : (counts : List ℕ) (p more back : ℕ) → p < length counts → more ≡ get_or counts p 0 + 1 → back + 1 ≡ more → set (set counts p more) p back ≡ counts
put-back counts p more back lt e f =
    ext_get_or 0 (set (set counts p more) p back) counts (length-set (set counts p more) p back ∙ length-set counts p more)
    (λ k below. elim (eqb_tells k p) [
      | inl same ↦
          let at : k ≡ p = same.1 in
          let room : p < length (set counts p more) = omega (arith, length-set counts p more) in
          rw at (rw get_or-set_same (omega arith))
      | inr other ↦ let ne : k ≢ p = other.1 in rw get_or-set_other (rw get_or-set_other refl)
    ])

-- How many wait, phase by phase.
pub record IsCounting (lists : List (List Platoon)) (counts : List ℕ) (waiting i : ℕ) : Type 0 where
  pub total : waiting + sum (take i counts) ≡ sum (take i (counts_of lists))
  pub fits : waiting ≤ 180 * i

-- The lists of the first i phases are cut.
pub record IsCutting (before : List (List Platoon)) (counts : List ℕ) (lists : List (List Platoon)) (i : ℕ) : Type 0 where
  pub count : length lists ≡ length before
  pub done : (k : ℕ) → k < i → platoons_at lists k ≡ take (get_or counts k 0) (platoons_at before k)
  pub rest : (k : ℕ) → i ≤ k → platoons_at lists k ≡ platoons_at before k

-- The lists that are cut are the window.
fronts-counts : (lists : List (List Platoon)) (counts : List ℕ) (fronts : List (List Platoon)) → AreFronts lists counts fronts → IsFront lists counts → counts_of fronts ≡ counts
fronts-counts lists counts fronts h front =
    ext_get_or 0 (counts_of fronts) counts (omega (arith, length-map fronts (λ (list : List Platoon). length list), h.count, front.phases))
    (λ k lt.
    let below : k < length fronts = omega (arith, length-map fronts (λ (list : List Platoon). length list)) in
    get_or-map length fronts k [] 0 below ∙ ap length (h.each k) ∙ omega (arith, length-take (get_or counts k 0) (platoons_at lists k), front.there k))

pub window-made : (lists : List (List Platoon)) (counts : List ℕ) (fronts : List (List Platoon)) (waiting : ℕ) → AreFronts lists counts fronts → IsLongest lists counts
    → waiting + sum counts ≡ sum (counts_of lists) → IsWindow lists (record { lists = fronts; waiting = waiting })
window-made lists counts fronts waiting h longest left =
    let same : counts_of fronts ≡ counts = fronts-counts lists counts fronts h longest.front in
    let P : List ℕ → Type 0 = IsLongest lists in
    record {
      longest = subst P (sym same) longest;
      taken = λ k. h.each k ∙ ap (λ n. take n (platoons_at lists k)) (ap (λ cs. get_or cs k 0) (sym same));
      waiting = omega (arith, left, ap sum same);
    }

-- what is asked of the lists is true of their fronts
spaced-take : (n : ℕ) (list : List Platoon) → AreSpacedClusters (clusters_of list) → AreSpacedClusters (clusters_of (take n list))
spaced-take n list h =
    let P : List Cluster → Type 0 = AreSpacedClusters in
    subst P (take-map (λ p. p.cluster) n list)
    (record {
      each = All-take IsCluster n (clusters_of list) h.each;
      spaced = λ k lt.
          let inside : k + 1 < n = omega (arith, lt, length-take n (clusters_of list)) in
          rw (get_or-take n (clusters_of list) k _ (omega arith), get_or-take n (clusters_of list) (k + 1) _ inside)
          (h.spaced k (omega (arith, lt, length-take n (clusters_of list))));
    })

fronts-clusters : (lists : List (List Platoon)) (counts : List ℕ) (fronts : List (List Platoon)) → AreFronts lists counts fronts
    → All AreSpacedClusters (cluster_lists lists) → All AreSpacedClusters (cluster_lists fronts)
fronts-clusters lists counts fronts h all =
    All-map AreSpacedClusters clusters_of fronts
    (All-from_get_or (λ list. AreSpacedClusters (clusters_of list)) fronts [] (λ k lt.
    let P : List Platoon → Type 0 = λ list. AreSpacedClusters (clusters_of list) in
    let Q : List Cluster → Type 0 = AreSpacedClusters in
    let there : k < length lists = omega (arith, h.count) in
    let one : AreSpacedClusters (get_or (cluster_lists lists) k []) = All-get_or AreSpacedClusters (cluster_lists lists) k [] (omega (arith, length-map lists clusters_of)) all in
    let same : get_or (cluster_lists lists) k [] ≡ clusters_of (platoons_at lists k) = get_or-map clusters_of lists k [] [] there in
    subst P (sym (h.each k)) (spaced-take (get_or counts k 0) (platoons_at lists k) (subst Q same one))))

clusters-counts : (lists : List (List Platoon)) → map (λ (list : List Cluster). length list) (cluster_lists lists) ≡ counts_of lists
clusters-counts [] = refl
clusters-counts (list ∷ lists) =
    ap (λ n. n ∷ map (λ (list : List Cluster). length list) (cluster_lists lists)) (length-map list (λ (p : Platoon). p.cluster))
    ∙ ap (λ ns. length list ∷ ns) (clusters-counts lists)

pub fronts-plannable : (lists : List (List Platoon)) (counts : List ℕ) (fronts : List (List Platoon)) → AreFronts lists counts fronts → IsLongest lists counts
    → All AreSpacedClusters (cluster_lists lists) → ArePlannable (cluster_lists fronts)
fronts-plannable lists counts fronts h longest all =
    let each : All AreSpacedClusters (cluster_lists fronts) = fronts-clusters lists counts fronts h all in
    let same : map (λ (list : List Cluster). length list) (cluster_lists fronts) ≡ counts = clusters-counts fronts ∙ fronts-counts lists counts fronts h longest.front in
    record {
      clusters = All-weaker AreSpacedClusters (All IsCluster) (λ list s. s.each) (cluster_lists fronts) each;
      spaced = All-weaker AreSpacedClusters IsSpaced (λ list s. s.spaced) (cluster_lists fronts) each;
      few = omega (arith, ap sum same, longest.small.clusters);
      orders = omega (arith, ap (λ ns. length (orders ns)) same, longest.small.orders);
    }

pub fronts-node : (net : Net) (node now : ℕ) (lists : List (List Platoon)) (counts : List ℕ) (fronts : List (List Platoon)) → AreFronts lists counts fronts
    → AreOfNode net node now lists → AreOfNode net node now fronts
fronts-node net node now lists counts fronts h all = record {
  count = h.count ∙ all.count;
  each = λ k lt.
      let P : List Platoon → Type 0 = All (IsPlatoon net now (phase_links_at net node k)) in
      subst P (sym (h.each k)) (All-take (IsPlatoon net now (phase_links_at net node k)) (get_or counts k 0) (platoons_at lists k) (all.each k (omega (arith, h.count))));
}

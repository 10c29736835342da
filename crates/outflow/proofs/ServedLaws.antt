-- The servings one after another: what each brings to the exit, and that no two bring something in one second.
use Rattle.std.proofs.Common.{◌≡◌, ◌≢◌, ℕ, zero, suc, ◌+◌, ◌-◌, ◌*◌, ◌<◌, ◌≤◌, Bool, true, false, leb, ltb, ◌&&◌, max, List, [], ◌∷◌, All, Some, None, Ok, length, get_or, set, replicate, slice_get, drop, map, sum_by, refl, sym, ap, subst, ◌∙◌, inl, inr, arith, add-one, length-set, get_or-set_other, get_or-set_same}
use Rattle.std.proofs.Math.Seq.{drop-cons}
use Rattle.std.proofs.lemmas.List.{drop_all, take_all, get_or-replicate, length-replicate, get_or-map, length-map, get_or_past, length-drop}
use Rattle.std.proofs.lemmas.List.Elements.{All-from_get_or, All-get_or, All-head, All-tail, All-weaker}
use Rattle.std.proofs.lemmas.List.Sums.{sum_by-cons}
use Rattle.std.proofs.lemmas.Option.{get_or_from_slice_get, slice_get-get_or, slice_get_past}
use Rattle.std.proofs.lemmas.Bool.{cases_lt, cond_both, cond_below, cond_above, and_parts, leb-true, leb-false}
use Rattle.std.proofs.lemmas.Bool.Decides.{eqb_tells}
use Rattle.phase_plan.specs.Phases.{IsOwnRing, phase_at}
use Rattle.phase_plan.specs.declared.Phase.{Phase}
use Rattle.switch_rules.specs.Orders.{one_less}
use Rattle.switch_rules.specs.Sequences.{AreNextServings, IsNextServing, next_cluster}
use Rattle.switch_rules.specs.Serving.{start_in_green, goes_on, earliest_green, head_after, served_from, serving}
use Rattle.switch_rules.specs.declared.Head.{Head}
use Rattle.switch_rules.specs.declared.Cluster.{Cluster}
use Rattle.switch_rules.specs.declared.Served.{Served}
use Rattle.road_net.specs.Joins.{share_of, split_of}
use Rattle.net_parts.specs.Numbers.{Net, no_link}
use Rattle.net_parts.specs.Outline.{ArePhaseLinks, IsLink, IsOutline, link_at, plan_at, phases_at, phase_links_at, turns_at}
use Rattle.road_net.specs.Network.{IsNetwork}
use Rattle.road_net.proofs.PartsAtMost.{split-most}
use Rattle.outflow.proofs.AddLaws.{AreSmall, coming-at, part-small, shares-of}
use Rattle.clusters.specs.declared.vehicle_groups.Part.{Part}
use Rattle.clusters.specs.declared.vehicle_groups.Platoon.{Platoon}
use Rattle.clusters.specs.Platoons.{platoons_at}
use Rattle.clusters.specs.Sound.{AreOfNode, IsPart, IsPlatoon, cluster_lists, clusters_of}
use Rattle.clusters.specs.Windows.{counts_of}
use Rattle.outflow.specs.Outflow.{AreServed, Departure, coming_in, departure_coming, departures, next_platoon, no_platoon, part_coming}
use Rattle.outflow.specs.Steps.{AreArriving}

-- a fit serving starts when the head's time is spent and the cluster has arrived, and ends as long after as the cluster lasts
pub record IsDeparting (head : Head) (c : Cluster) (s : Served) : Type 0 where
  pub later : head.at ≤ s.start
  pub arrived : c.arr ≤ s.start
  pub ends : s.finish ≡ s.start + c.len

module _ (head : Head) (k : ℕ) (c : Cluster) (s : Served) (next : Head) where
  departs-from : (p : Phase) (green start : ℕ) (kept : Bool) → head.at ≤ start → c.arr ≤ start → served_from p k c green start kept ≡ Ok (s, next) → IsDeparting head c s
  departs-from p green start kept later arrived =
      let served : Served = record { green = green; start = start; finish = start + c.len; cost = c.load * (start - c.arr); kept = kept } in
      cond_both (ltb (green + p.greatest) (start + c.len)) _ _ (λ r. r ≡ Ok (s, next) → IsDeparting head c s)
      (λ long e. let impossible : IsDeparting head c s = cc in impossible)
      (λ short. cond_both (ltb p.wait (start - c.arr)) _ _ (λ r. r ≡ Ok (s, next) → IsDeparting head c s)
      (λ late e. let impossible : IsDeparting head c s = cc in impossible)
      (λ early e.
      let behind : Head = record { phase = k; since = green; at = start + c.len; fresh = false } in
      let both : (served, behind) ≡ (s, next) = cc in
      let facts : IsDeparting head c served = record { later = later; arrived = arrived; ends = refl } in
      subst (λ (q : Served × Head). IsDeparting head c q.0) both facts))

start_later : (p : Phase) (head : Head) (c : Cluster) → (head.at ≤ start_in_green p head c) × (c.arr ≤ start_in_green p head c)
start_later p head c =
    cond_both (head.fresh && leb c.arr head.at) (max head.at (head.since + p.loss)) (max c.arr head.at) (λ start. (head.at ≤ start) × (c.arr ≤ start))
    (λ e. let waits = leb-true c.arr head.at (and_parts head.fresh (leb c.arr head.at) e).1 in (omega arith, omega (arith, waits)))
    (λ e. (omega arith, omega arith))

pub serving-departs : (plan : List Phase) (head : Head) (k : ℕ) (c : Cluster) (s : Served) (next : Head) → serving plan head k c ≡ Ok (s, next) → IsDeparting head c s
serving-departs plan head k c s next =
    let p = phase_at plan k in
    let earliest = earliest_green plan head k in
    let start = start_in_green p head c in
    let later = start_later p head c in
    cond_both (goes_on p head k c) _ _ (λ r. r ≡ Ok (s, next) → IsDeparting head c s)
    (λ on e. departs-from head k c s next p head.since start true later.0 later.1 e)
    (λ off. cond_both (leb c.arr earliest) _ _ (λ r. r ≡ Ok (s, next) → IsDeparting head c s)
    (λ waits e.
    let early = leb-true c.arr earliest waits in
    departs-from head k c s next p earliest (earliest + p.loss) false (omega arith) (omega (arith, early)) e)
    (λ comes e.
    let behind = leb-false c.arr earliest comes in
    departs-from head k c s next p c.arr c.arr false (omega (arith, behind)) (omega arith) e))

-- The next serving of phase k: its platoon, and its times.
pub record IsNext (net : Net) (node now : ℕ) (lists : List (List Platoon)) (left : List ℕ) (head : Head) (k : ℕ) (s : Served) : Type 0 where
  pub phase : k < length lists
  pub some : 1 ≤ get_or left k 0
  pub place : length (platoons_at lists k) - get_or left k 0 < length (platoons_at lists k)
  pub platoon : IsPlatoon net now (phase_links_at net node k) (next_platoon lists left k)
  pub times : IsDeparting head (next_platoon lists left k).cluster s

pub next-of : (net : Net) (node now : ℕ) (plan : List Phase) (lists : List (List Platoon)) (left : List ℕ) (head : Head) (k : ℕ) (s : Served)
    → AreOfNode net node now lists → IsNextServing plan (cluster_lists lists) left head k s → IsNext net node now lists left head k s
next-of net node now plan lists left head k s of h = elim (cases_lt k (length lists)) [
  | inr past ↦ absurd (
      let none : get_or (cluster_lists lists) k [] ≡ [] = get_or_past (cluster_lists lists) k [] (omega (arith, length-map lists clusters_of)) in
      let gone : next_cluster (cluster_lists lists) left k ≡ None = ap (λ (list : List Cluster). slice_get list (length list - get_or left k 0)) none in
      let both : Some h.cluster ≡ None = sym h.next ∙ gone in
      cc)
  | inl below ↦
      let list : get_or (cluster_lists lists) k [] ≡ clusters_of (platoons_at lists k) = get_or-map clusters_of lists k [] [] below in
      let size : length (clusters_of (platoons_at lists k)) ≡ length (platoons_at lists k) = length-map (platoons_at lists k) (λ (p : Platoon). p.cluster) in
      let place : ℕ = length (platoons_at lists k) - get_or left k 0 in
      let found : slice_get (clusters_of (platoons_at lists k)) (length (platoons_at lists k) - get_or left k 0) ≡ Some h.cluster =
      ap (λ n. slice_get (clusters_of (platoons_at lists k)) (n - get_or left k 0)) (sym size) ∙ ap (λ (l : List Cluster). slice_get l (length l - get_or left k 0)) (sym list) ∙ h.next in
      elim (cases_lt (length (platoons_at lists k) - get_or left k 0) (length (platoons_at lists k))) [
        | inr out ↦ absurd (
            let gone : slice_get (clusters_of (platoons_at lists k)) (length (platoons_at lists k) - get_or left k 0) ≡ None =
            slice_get_past (clusters_of (platoons_at lists k)) (length (platoons_at lists k) - get_or left k 0) (omega (arith, size)) in
            let both : Some h.cluster ≡ None = sym found ∙ gone in
            cc)
        | inl inside ↦
            let same : (next_platoon lists left k).cluster ≡ h.cluster =
            sym (get_or-map (λ (p : Platoon). p.cluster) (platoons_at lists k) (length (platoons_at lists k) - get_or left k 0) no_platoon no_platoon.cluster inside)
            ∙ get_or_from_slice_get (clusters_of (platoons_at lists k)) (length (platoons_at lists k) - get_or left k 0) h.cluster no_platoon.cluster found in
            let P : Cluster → Type 0 = λ c. IsDeparting head c s in
            record {
              phase = below;
              some = omega (arith, inside);
              place = inside;
              platoon = All-get_or (IsPlatoon net now (phase_links_at net node k)) (platoons_at lists k) (length (platoons_at lists k) - get_or left k 0) no_platoon inside (of.each k below);
              times = subst P (sym same) (serving-departs plan head k h.cluster s (head_after k s) h.fit);
            }
      ]
]

-- before a departure's first vehicles can have travelled the exit, nothing comes
part-early : (net : Net) (exit travel d start : ℕ) (part : Part) → d < start + travel → part_coming net exit travel d start part ≡ 0
part-early net exit travel d start part lt = sym (cond_below d (start + travel) 0 (_) lt)

departure-early : (net : Net) (exit travel d start : ℕ) (parts : List Part) → d < start + travel → sum_by (part_coming net exit travel d start) parts ≡ 0
departure-early net exit travel d start [] lt = refl
departure-early net exit travel d start (p ∷ parts) lt =
    omega (arith, sum_by-cons (part_coming net exit travel d start) p parts, part-early net exit travel d start p lt, departure-early net exit travel d start parts lt)

pub coming-early : (net : Net) (node exit now d : ℕ) (plan : List Phase) (lists : List (List Platoon)) (left : List ℕ) (head : Head) (ks : List ℕ) (ss : List Served)
    → AreOfNode net node now lists → AreNextServings plan (cluster_lists lists) left head ks ss → d < now + (link_at net exit).travel
    → coming_in net exit (departures lists left ks ss) d ≡ 0
coming-early net node exit now d plan lists left head [] ss of h lt = refl
coming-early net node exit now d plan lists left head (k ∷ ks) [] of h lt = refl
coming-early net node exit now d plan lists left head (k ∷ ks) (s ∷ ss) of h lt =
    let next : IsNext net node now lists left head k s = next-of net node now plan lists left head k s of h.0 in
    let one : Departure = record { platoon = next_platoon lists left k; start = s.start } in
    omega (
      arith,
      sum_by-cons (departure_coming net exit (link_at net exit).travel d) (record { platoon = next_platoon lists left k; start = s.start }) (departures lists (one_less left k) ks ss),
      departure-early net exit (link_at net exit).travel d s.start (next_platoon lists left k).parts (omega (arith, next.times.arrived, next.platoon.arr)),
      coming-early net node exit now d plan lists (one_less left k) (head_after k s) ks ss of h.1 lt,
    )

-- The first i servings have been added: `taken` platoons of each phase are taken, and the others are left; from the head on,
-- nothing has been added yet.
pub record IsFilling (net : Net) (node exit now : ℕ) (lists : List (List Platoon)) (phases : List ℕ) (served : List Served) (taken amounts : List ℕ) (i : ℕ) : Type 0 where
  pub plan : List Phase
  pub left : List ℕ
  pub head : Head
  pub servings : AreNextServings plan (cluster_lists lists) left head (drop i phases) (drop i served)
  pub size : length taken ≡ 4
  pub few : (k : ℕ) → get_or taken k 0 ≤ i
  pub counts : (k : ℕ) → k < length lists → get_or taken k 0 + get_or left k 0 ≡ length (platoons_at lists k)
  pub count : length amounts ≡ net.run.look
  pub value : (k : ℕ) → k < net.run.look
      → get_or amounts k 0 + coming_in net exit (departures lists left (drop i phases) (drop i served)) (now + k) ≡ coming_in net exit (departures lists (counts_of lists) phases served) (now + k)
  pub most : (k : ℕ) → get_or amounts k 0 ≤ 80000
  pub clear : (k : ℕ) → head.at + (link_at net exit).travel ≤ now + k → get_or amounts k 0 ≡ 0

abbrev pub zeros : ℕ → List ℕ
zeros n = replicate n 0

zeros-at : (n k : ℕ) → get_or (zeros n) k 0 ≡ 0
zeros-at n k = elim (cases_lt k n) [
  | inl below ↦ get_or-replicate n k 0 0 below
  | inr past ↦ get_or_past (zeros n) k 0 (let e : length (zeros n) ≡ n = length-replicate n (let z : ℕ = 0 in z) in omega (arith, e))
]

pub filling-none : (net : Net) (node exit now : ℕ) (lists : List (List Platoon)) (phases : List ℕ) (served : List Served) → AreServed lists phases served
    → IsFilling net node exit now lists phases served (zeros 4) (zeros net.run.look) 0
filling-none net node exit now lists phases served h = record {
  plan = h.plan;
  left = counts_of lists;
  head = h.head;
  servings = h.servings;
  size = refl;
  few = λ k. omega (arith, zeros-at 4 k);
  counts = λ k lt. omega (arith, zeros-at 4 k, get_or-map (λ (list : List Platoon). length list) lists k [] 0 lt);
  count = length-replicate net.run.look (let z : ℕ = 0 in z);
  value = λ k lt. omega (arith, zeros-at net.run.look k);
  most = λ k. omega (arith, zeros-at net.run.look k);
  clear = λ k le. zeros-at net.run.look k;
}

-- the next serving: there is one for each phase, and its facts
pub record IsAt (net : Net) (node now : ℕ) (plan : List Phase) (lists : List (List Platoon)) (left : List ℕ) (head : Head) (ks : List ℕ) (ss : List Served) (i : ℕ) (d : Served) : Type 0 where
  pub below : i < length ss
  pub next : IsNext net node now lists left head (get_or ks i 0) (get_or ss i d)
  pub phases : drop i ks ≡ get_or ks i 0 ∷ drop (i + 1) ks
  pub served : drop i ss ≡ get_or ss i d ∷ drop (i + 1) ss
  pub rest : AreNextServings plan (cluster_lists lists) (one_less left (get_or ks i 0)) (head_after (get_or ks i 0) (get_or ss i d)) (drop (i + 1) ks) (drop (i + 1) ss)

more-servings : (plan : List Phase) (lists : List (List Cluster)) (left : List ℕ) (head : Head) (k : ℕ) (ks : List ℕ) (ss : List Served) → AreNextServings plan lists left head (k ∷ ks) ss → 0 < length ss
more-servings plan lists left head k ks [] h = absurd h
more-servings plan lists left head k ks (s ∷ ss) h = omega arith

pub serving-at : (net : Net) (node now : ℕ) (plan : List Phase) (lists : List (List Platoon)) (left : List ℕ) (head : Head) (ks : List ℕ) (ss : List Served) (i : ℕ) (d : Served)
    → AreOfNode net node now lists → AreNextServings plan (cluster_lists lists) left head (drop i ks) (drop i ss) → i < length ks → IsAt net node now plan lists left head ks ss i d
serving-at net node now plan lists left head ks ss i d of h lt =
    let front : drop i ks ≡ get_or ks i 0 ∷ drop (i + 1) ks = rw (add-one i) (drop-cons ks i 0 lt) in
    let P : List ℕ → Type 0 = λ qs. AreNextServings plan (cluster_lists lists) left head qs (drop i ss) in
    let one : AreNextServings plan (cluster_lists lists) left head (get_or ks i 0 ∷ drop (i + 1) ks) (drop i ss) = subst P front h in
    let below : i < length ss = omega (arith, more-servings plan (cluster_lists lists) left head (get_or ks i 0) (drop (i + 1) ks) (drop i ss) one, length-drop i ss) in
    let first : drop i ss ≡ get_or ss i d ∷ drop (i + 1) ss = rw (add-one i) (drop-cons ss i d below) in
    let Q : List Served → Type 0 = λ qs. AreNextServings plan (cluster_lists lists) left head (get_or ks i 0 ∷ drop (i + 1) ks) qs in
    let both : AreNextServings plan (cluster_lists lists) left head (get_or ks i 0 ∷ drop (i + 1) ks) (get_or ss i d ∷ drop (i + 1) ss) = subst Q first one in
    record {
      below = below;
      next = next-of net node now plan lists left head (get_or ks i 0) (get_or ss i d) of both.0;
      phases = front;
      served = first;
      rest = both.1;
    }

-- what comes of the parts of a departure, by place and by second
part-moved : (net : Net) (exit travel now first start k : ℕ) (part : Part) → first + now ≡ start + travel → part_coming net exit 0 k first part ≡ part_coming net exit travel (now + k) start part
part-moved net exit travel now first start k part e = elim (cases_lt k first) [
  | inl below ↦
      sym (cond_below k (first + 0) 0 (split_of (turns_at net part.link) (get_or part.amounts (k - (first + 0)) 0) exit) (omega arith))
      ∙ cond_below (now + k) (start + travel) 0 (split_of (turns_at net part.link) (get_or part.amounts (now + k - (start + travel)) 0) exit) (omega arith)
  | inr past ↦
      let same : k - (first + 0) ≡ now + k - (start + travel) = omega arith in
      sym (cond_above k (first + 0) 0 (split_of (turns_at net part.link) (get_or part.amounts (k - (first + 0)) 0) exit) _ (omega arith) refl)
      ∙ ap (λ n. split_of (turns_at net part.link) (get_or part.amounts n 0) exit) same
      ∙ cond_above (now + k) (start + travel) 0 (split_of (turns_at net part.link) (get_or part.amounts (now + k - (start + travel)) 0) exit) _ (omega arith) refl
]

parts-moved : (net : Net) (exit travel now first start k : ℕ) (parts : List Part) → first + now ≡ start + travel
    → sum_by (part_coming net exit 0 k first) parts ≡ sum_by (part_coming net exit travel (now + k) start) parts
parts-moved net exit travel now first start k [] e = refl
parts-moved net exit travel now first start k (p ∷ parts) e =
    omega (
      arith,
      sum_by-cons (part_coming net exit 0 k first) p parts,
      sum_by-cons (part_coming net exit travel (now + k) start) p parts,
      part-moved net exit travel now first start k p e,
      parts-moved net exit travel now first start k parts e,
    )

-- what the parts of a platoon keep
pub record IsFitPlatoon (net : Net) (p : Platoon) : Type 0 where
  pub small : AreSmall p.parts
  pub few : length p.parts ≤ 16
  pub links : All (λ part. part.link < length net.link_names) p.parts

sat-le : (net : Net) (l : ℕ) → IsOutline net → (link_at net l).sat ≤ 5000
sat-le net l h = elim (cases_lt l (length net.links)) [
  | inl below ↦ (All-get_or (IsLink (length net.node_names)) net.links l no_link below h.links).sat.1
  | inr past ↦ let e : link_at net l ≡ no_link = get_or_past net.links l no_link past in rw e (omega arith)
]

pub fit-platoon : (net : Net) (node now k : ℕ) (p : Platoon) → IsNetwork net → node < length net.node_names → k < length (plan_at net node) → IsPlatoon net now (phase_links_at net node k) p → IsFitPlatoon net p
fit-platoon net node now k p h there below q =
    let phases : All (ArePhaseLinks (length net.link_names)) (phases_at net node) =
    All-get_or (λ ps. All (ArePhaseLinks (length net.link_names)) ps) net.phase_links node [] (omega (arith, h.outline.phases_count)) h.outline.phase_links in
    let links : ArePhaseLinks (length net.link_names) (phase_links_at net node k) = All-get_or (ArePhaseLinks (length net.link_names)) (phases_at net node) k [] (omega (arith, h.outline.phase_counts node there)) phases in
    let P : List ℕ → Type 0 = λ ls. All (λ l. l < length net.link_names) ls in
    let numbers : All (λ l. l < length net.link_names) (map (λ (part : Part). part.link) p.parts) = subst P (sym q.order) links.exist in
    let d : Part = record { link = 0; amounts = [] } in
    record {
      small = All-weaker (IsPart net p.cluster.len) (λ part. All (λ amount. amount ≤ 5000) part.amounts)
          (λ part s. All-weaker (λ amount. amount ≤ (link_at net part.link).sat) (λ amount. amount ≤ 5000) (λ amount le. omega (arith, le, sat-le net part.link h.outline)) part.amounts s.amounts) p.parts q.parts;
      few = omega (arith, length-map p.parts (λ (part : Part). part.link), ap length q.order, links.count);
      links = All-from_get_or (λ part. part.link < length net.link_names) p.parts d (λ j lt.
          omega (arith, get_or-map (λ (part : Part). part.link) p.parts j d 0 lt, All-get_or (λ l. l < length net.link_names) (map (λ (part : Part). part.link) p.parts) j 0 (omega (arith, length-map p.parts (λ (part : Part). part.link))) numbers));
    }

-- nothing comes of a part after its last second
part-past : (net : Net) (exit k first len : ℕ) (part : Part) → ((l : ℕ) → sum_by share_of (turns_at net l) ≤ 1000) → first + len ≤ k → length part.amounts ≡ len → part_coming net exit 0 k first part ≡ 0
part-past net exit k first len part shares le count =
    let none : get_or part.amounts (k - first) 0 ≡ 0 = get_or_past part.amounts (k - first) 0 (omega arith) in
    omega (arith, coming-at net exit k first part (omega arith), split-most (turns_at net part.link) (get_or part.amounts (k - first) 0) exit (shares part.link), none)

parts-past : (net : Net) (exit k first len : ℕ) (parts : List Part) → ((l : ℕ) → sum_by share_of (turns_at net l) ≤ 1000) → first + len ≤ k → All (IsPart net len) parts
    → sum_by (part_coming net exit 0 k first) parts ≡ 0
parts-past net exit k first len [] shares le h = refl
parts-past net exit k first len (p ∷ parts) shares le h =
    omega (
      arith,
      sum_by-cons (part_coming net exit 0 k first) p parts,
      part-past net exit k first len p shares le (All-head (IsPart net len) p parts h).count,
      parts-past net exit k first len parts shares le (All-tail (IsPart net len) p parts h),
    )

pub filling-more : (net : Net) (node exit now : ℕ) (lists : List (List Platoon)) (ks : List ℕ) (ss : List Served) (taken amounts more : List ℕ) (i first : ℕ) (d : Served) (platoon : Platoon)
    → AreOfNode net node now lists → (h : IsFilling net node exit now lists ks ss taken amounts i) → i < length ks → length lists ≤ 4
    → platoon ≡ next_platoon lists h.left (get_or ks i 0) → first + now ≡ (get_or ss i d).start + (link_at net exit).travel
    → length more ≡ length amounts → ((k : ℕ) → k < first → get_or more k 0 ≡ get_or amounts k 0)
    → ((k : ℕ) → first ≤ k → k < length amounts → get_or more k 0 ≡ sum_by (part_coming net exit 0 k first) platoon.parts)
    → IsNetwork net → node < length net.node_names → IsFilling net node exit now lists ks ss (set taken (get_or ks i 0) (get_or taken (get_or ks i 0) 0 + 1)) more (i + 1)
filling-more net node exit now lists ks ss taken amounts more i first d platoon of h lt four is e same near far net_is there =
    let travel : ℕ = (link_at net exit).travel in
    let p : ℕ = get_or ks i 0 in
    let at : IsAt net node now h.plan lists h.left h.head ks ss i d = serving-at net node now h.plan lists h.left h.head ks ss i d of h.servings lt in
    let room : get_or ks i 0 < length taken = omega (arith, h.size, at.next.phase) in
    let start : h.head.at ≤ (get_or ss i d).start = at.next.times.later in
    let fit : IsFitPlatoon net (next_platoon lists h.left (get_or ks i 0)) =
    fit-platoon net node now (get_or ks i 0) (next_platoon lists h.left (get_or ks i 0)) net_is there (omega (arith, of.count, at.next.phase)) at.next.platoon in
    let shares : (l : ℕ) → sum_by share_of (turns_at net l) ≤ 1000 = shares-of net net_is in
    let parts_are : platoon.parts ≡ (next_platoon lists h.left (get_or ks i 0)).parts = ap (λ (q : Platoon). q.parts) is in
    let zero_before : (k : ℕ) → first ≤ k → get_or amounts k 0 ≡ 0 = λ k le. h.clear k (omega arith) in
    record {
      plan = h.plan;
      left = one_less h.left (get_or ks i 0);
      head = head_after (get_or ks i 0) (get_or ss i d);
      servings = at.rest;
      size = length-set taken (get_or ks i 0) (get_or taken (get_or ks i 0) 0 + 1) ∙ h.size;
      few = λ k. elim (eqb_tells k (get_or ks i 0)) [
        | inl own ↦ let here : k ≡ get_or ks i 0 = own.1 in rw here (rw (get_or-set_same taken (get_or ks i 0) (get_or taken (get_or ks i 0) 0 + 1) 0 room) (omega (arith, h.few (get_or ks i 0))))
        | inr other ↦ let ne : k ≢ get_or ks i 0 = other.1 in rw (get_or-set_other taken (get_or ks i 0) k (get_or taken (get_or ks i 0) 0 + 1) 0 ne) (omega (arith, h.few k))
      ];
      counts = λ k below. elim (eqb_tells k (get_or ks i 0)) [
        | inl own ↦
            let here : k ≡ get_or ks i 0 = own.1 in
            let some : 1 ≤ get_or h.left (get_or ks i 0) 0 = at.next.some in
            let within : get_or ks i 0 < length h.left = elim (cases_lt (get_or ks i 0) (length h.left)) [
              | inl fine ↦ fine
              | inr past ↦ absurd (let none : get_or h.left (get_or ks i 0) 0 ≡ 0 = get_or_past h.left (get_or ks i 0) 0 past in omega (arith, none))
            ] in
            rw here (rw (get_or-set_same taken (get_or ks i 0) (get_or taken (get_or ks i 0) 0 + 1) 0 room, get_or-set_same h.left (get_or ks i 0) (get_or h.left (get_or ks i 0) 0 - 1) 0 within)
            (omega (arith, h.counts (get_or ks i 0) at.next.phase)))
        | inr other ↦ let ne : k ≢ get_or ks i 0 = other.1 in rw (get_or-set_other taken (get_or ks i 0) k (get_or taken (get_or ks i 0) 0 + 1) 0 ne, get_or-set_other h.left (get_or ks i 0) k (get_or h.left (get_or ks i 0) 0 - 1) 0 ne) (h.counts k below)
      ];
      count = same ∙ h.count;
      value = λ k below.
          let whole : coming_in net exit (departures lists h.left (drop i ks) (drop i ss)) (now + k)
          ≡ departure_coming net exit (link_at net exit).travel (now + k) (record { platoon = next_platoon lists h.left (get_or ks i 0); start = (get_or ss i d).start })
          + coming_in net exit (departures lists (one_less h.left (get_or ks i 0)) (drop (i + 1) ks) (drop (i + 1) ss)) (now + k) =
          ap (λ qs. coming_in net exit (departures lists h.left qs (drop i ss)) (now + k)) at.phases
          ∙ ap (λ qs. coming_in net exit (departures lists h.left (get_or ks i 0 ∷ drop (i + 1) ks) qs) (now + k)) at.served
          ∙ sum_by-cons (departure_coming net exit (link_at net exit).travel (now + k)) (record { platoon = next_platoon lists h.left (get_or ks i 0); start = (get_or ss i d).start })
          (departures lists (one_less h.left (get_or ks i 0)) (drop (i + 1) ks) (drop (i + 1) ss)) in
          let parts : sum_by (part_coming net exit 0 k first) platoon.parts ≡ departure_coming net exit (link_at net exit).travel (now + k) (record { platoon = next_platoon lists h.left (get_or ks i 0); start = (get_or ss i d).start }) =
          parts-moved net exit (link_at net exit).travel now first (get_or ss i d).start k platoon.parts e
          ∙ ap (λ (q : Platoon). sum_by (part_coming net exit (link_at net exit).travel (now + k) (get_or ss i d).start) q.parts) is in
          elim (cases_lt k first) [
            | inl before ↦
                omega (arith, h.value k below, whole, near k before, departure-early net exit (link_at net exit).travel (now + k) (get_or ss i d).start (next_platoon lists h.left (get_or ks i 0)).parts (omega arith))
            | inr behind ↦ omega (arith, h.value k below, whole, far k behind (omega (arith, h.count)), parts, zero_before k behind)
          ];
      most = λ k. elim (cases_lt k first) [
        | inl before ↦ omega (arith, near k before, h.most k)
        | inr behind ↦ elim (cases_lt k (length amounts)) [
          | inr past ↦ omega (arith, get_or_past more k 0 (omega arith))
          | inl inside ↦
              omega (
                arith,
                far k behind inside,
                ap (sum_by (part_coming net exit 0 k first)) parts_are,
                part-small net exit first k (next_platoon lists h.left (get_or ks i 0)).parts (length (next_platoon lists h.left (get_or ks i 0)).parts) fit.small shares behind,
                ap (sum_by (part_coming net exit 0 k first)) (take_all (length (next_platoon lists h.left (get_or ks i 0)).parts) (next_platoon lists h.left (get_or ks i 0)).parts (omega arith)),
                fit.few,
              )
        ]
      ];
      clear = λ k le.
          let behind : first + (next_platoon lists h.left (get_or ks i 0)).cluster.len ≤ k = omega (arith, at.next.times.ends, le, e) in
          elim (cases_lt k (length amounts)) [
            | inr past ↦ get_or_past more k 0 (omega arith)
            | inl inside ↦
                far k (omega arith) inside ∙ ap (sum_by (part_coming net exit 0 k first)) parts_are
                ∙ parts-past net exit k first (next_platoon lists h.left (get_or ks i 0)).cluster.len (next_platoon lists h.left (get_or ks i 0)).parts shares behind at.next.platoon.parts
          ];
    }

pub filling-all : (net : Net) (node exit now : ℕ) (lists : List (List Platoon)) (ks : List ℕ) (ss : List Served) (taken amounts : List ℕ) (i : ℕ)
    → AreOfNode net node now lists → AreServed lists ks ss → IsFilling net node exit now lists ks ss taken amounts i → length ks ≤ i → IsNetwork net
    → AreArriving net exit now (departures lists (counts_of lists) ks ss) amounts
filling-all net node exit now lists ks ss taken amounts i of served h all net_is =
    let none : drop i ks ≡ [] = drop_all i ks all in
    record {
      count = h.count;
      few = omega (arith, h.count, net_is.outline.run.look.1);
      value = λ k lt. let gone : coming_in net exit (departures lists h.left (drop i ks) (drop i ss)) (now + k) ≡ 0 = ap (λ qs. coming_in net exit (departures lists h.left qs (drop i ss)) (now + k)) none in omega (arith, h.value k lt, gone);
      most = h.most;
      early = λ d lt. coming-early net node exit now d served.plan lists (counts_of lists) served.head ks ss of served.servings lt;
    }

-- a network's node has at most four phases
pub phases-few : (net : Net) (node now : ℕ) (lists : List (List Platoon)) → IsNetwork net → node < length net.node_names → AreOfNode net node now lists → length lists ≤ 4
phases-few net node now lists h there of = omega (arith, of.count, (All-get_or IsOwnRing net.plans node [] (omega (arith, h.outline.plan_count)) h.outline.plans).ring.count)

abbrev pub no_served : Served
no_served = record { green = 0; start = 0; finish = 0; cost = 0; kept = false }

-- what stands at a place does not depend on the default
any-default : (lists : List (List Platoon)) (k : ℕ) (r : List Platoon) → k < length lists → get_or lists k r ≡ get_or lists k []
any-default [] k r lt = absurd (omega arith)
any-default (x ∷ lists) zero r lt = refl
any-default (x ∷ lists) (suc k) r lt = any-default lists k r (omega arith)

pub listed : (lists lent : List (List Platoon)) (k : ℕ) (r list : List Platoon) → lent ≡ lists → k < length lists → r ≡ get_or lent k r → list ≡ r → list ≡ platoons_at lists k
listed lists lent k r list e lt is same = same ∙ is ∙ ap (λ ls. get_or ls k r) e ∙ any-default lists k r lt

pub platoon-found : (net : Net) (node exit now : ℕ) (lists : List (List Platoon)) (ks : List ℕ) (ss : List Served) (taken amounts : List ℕ) (i : ℕ) (list : List Platoon) (p : Platoon)
    → AreOfNode net node now lists → (h : IsFilling net node exit now lists ks ss taken amounts i) → i < length ks → list ≡ platoons_at lists (get_or ks i 0)
    → Some p ≡ slice_get list (get_or taken (get_or ks i 0) 0) → p ≡ next_platoon lists h.left (get_or ks i 0)
platoon-found net node exit now lists ks ss taken amounts i list p of h lt e found =
    let at : IsAt net node now h.plan lists h.left h.head ks ss i no_served = serving-at net node now h.plan lists h.left h.head ks ss i no_served of h.servings lt in
    let place : get_or taken (get_or ks i 0) 0 ≡ length (platoons_at lists (get_or ks i 0)) - get_or h.left (get_or ks i 0) 0 = omega (arith, h.counts (get_or ks i 0) at.next.phase) in
    sym (get_or_from_slice_get list (get_or taken (get_or ks i 0) 0) p no_platoon (sym found))
    ∙ ap (λ (l : List Platoon). get_or l (get_or taken (get_or ks i 0) 0) no_platoon) e
    ∙ ap (λ n. get_or (platoons_at lists (get_or ks i 0)) n no_platoon) place

pub platoon-there : (net : Net) (node exit now : ℕ) (lists : List (List Platoon)) (ks : List ℕ) (ss : List Served) (taken amounts : List ℕ) (i : ℕ) (list : List Platoon)
    → AreOfNode net node now lists → (h : IsFilling net node exit now lists ks ss taken amounts i) → i < length ks → list ≡ platoons_at lists (get_or ks i 0)
    → None ≡ slice_get list (get_or taken (get_or ks i 0) 0) → ⊥
platoon-there net node exit now lists ks ss taken amounts i list of h lt e gone =
    let at : IsAt net node now h.plan lists h.left h.head ks ss i no_served = serving-at net node now h.plan lists h.left h.head ks ss i no_served of h.servings lt in
    let inside : get_or taken (get_or ks i 0) 0 < length list = omega (arith, ap length e, h.counts (get_or ks i 0) at.next.phase, at.next.some) in
    let there : slice_get list (get_or taken (get_or ks i 0) 0) ≡ Some (get_or list (get_or taken (get_or ks i 0) 0) no_platoon) = slice_get-get_or list (get_or taken (get_or ks i 0) 0) no_platoon inside in
    let both : None ≡ Some (get_or list (get_or taken (get_or ks i 0) 0) no_platoon) = gone ∙ there in
    cc

pub serving-late : (net : Net) (node exit now : ℕ) (lists : List (List Platoon)) (ks : List ℕ) (ss : List Served) (taken amounts : List ℕ) (i : ℕ)
    → AreOfNode net node now lists → (h : IsFilling net node exit now lists ks ss taken amounts i) → i < length ks → now ≤ (get_or ss i no_served).start
serving-late net node exit now lists ks ss taken amounts i of h lt =
    let at : IsAt net node now h.plan lists h.left h.head ks ss i no_served = serving-at net node now h.plan lists h.left h.head ks ss i no_served of h.servings lt in
    omega (arith, at.next.times.arrived, at.next.platoon.arr)

pub phase-below : (net : Net) (node exit now : ℕ) (lists : List (List Platoon)) (ks : List ℕ) (ss : List Served) (taken amounts : List ℕ) (i : ℕ)
    → AreOfNode net node now lists → (h : IsFilling net node exit now lists ks ss taken amounts i) → i < length ks → get_or ks i 0 < length lists
phase-below net node exit now lists ks ss taken amounts i of h lt =
    let at : IsAt net node now h.plan lists h.left h.head ks ss i no_served = serving-at net node now h.plan lists h.left h.head ks ss i no_served of h.servings lt in
    at.next.phase

pub found-fit : (net : Net) (node exit now : ℕ) (lists : List (List Platoon)) (ks : List ℕ) (ss : List Served) (taken amounts : List ℕ) (i : ℕ) (p : Platoon)
    → AreOfNode net node now lists → (h : IsFilling net node exit now lists ks ss taken amounts i) → i < length ks → IsNetwork net → node < length net.node_names
    → p ≡ next_platoon lists h.left (get_or ks i 0) → IsFitPlatoon net p
found-fit net node exit now lists ks ss taken amounts i p of h lt net_is there e =
    let at : IsAt net node now h.plan lists h.left h.head ks ss i no_served = serving-at net node now h.plan lists h.left h.head ks ss i no_served of h.servings lt in
    let P : Platoon → Type 0 = IsFitPlatoon net in
    subst P (sym e) (fit-platoon net node now (get_or ks i 0) (next_platoon lists h.left (get_or ks i 0)) net_is there (omega (arith, of.count, at.next.phase)) at.next.platoon)

-- where the next one begins, nothing has been added yet
pub clear-after : (net : Net) (node exit now : ℕ) (lists : List (List Platoon)) (ks : List ℕ) (ss : List Served) (taken amounts : List ℕ) (i k travel : ℕ)
    → AreOfNode net node now lists → (h : IsFilling net node exit now lists ks ss taken amounts i) → i < length ks → travel ≡ (link_at net exit).travel
    → (get_or ss i no_served).start + travel - now ≤ k → get_or amounts k 0 ≡ 0
clear-after net node exit now lists ks ss taken amounts i k travel of h lt e le =
    let at : IsAt net node now h.plan lists h.left h.head ks ss i no_served = serving-at net node now h.plan lists h.left h.head ks ss i no_served of h.servings lt in
    h.clear k (omega (arith, at.next.times.later))

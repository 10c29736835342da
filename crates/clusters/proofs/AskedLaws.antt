-- What a network asks of platoons beside the rules, and that it leaves them what planning and forecasting ask.
use Rattle.std.proofs.Common.{◌≡◌, ℕ, zero, suc, ◌+◌, ◌-◌, ◌*◌, ◌<◌, ◌≤◌, ◌==◌, ◌&&◌, if◌then◌else◌, nat_le, Bool, true, false, List, [], ◌∷◌, Option, Some, None, All, length, refl, sym, ap, subst, ◌∙◌, arith}
use Rattle.std.specs.Prelude.{unwrap_or}
use Rattle.std.proofs.Math.Nat.{le-min, min-le_left}
use Rattle.std.proofs.lemmas.Nat.{mul-le}
use Rattle.std.proofs.lemmas.List.Elements.{All-cons, All-head, All-tail}
use Rattle.board_model.specs.declared.boards.Heard.{Heard}
use Rattle.phase_plan.specs.Phases.{phase_at}
use Rattle.phase_plan.specs.declared.Phase.{Phase}
use Rattle.switch_rules.specs.Bounds.{greatest_weight}
use Rattle.switch_rules.specs.Sequences.{cluster_at}
use Rattle.switch_rules.specs.Serving.{IsCluster}
use Rattle.switch_rules.specs.declared.Head.{Head}
use Rattle.net_parts.specs.Limits.{most_seconds}
use Rattle.net_parts.specs.Numbers.{Net}
use Rattle.net_parts.specs.Outline.{phase_links_at, plan_at}
use Rattle.road_net.specs.Network.{IsNetwork}
use Rattle.road_net.specs.declared.senses.Sensed.{Sensed}
use Rattle.clusters.specs.declared.vehicle_groups.Part.{Part}
use Rattle.clusters.specs.declared.vehicle_groups.Platoon.{Platoon}
use Rattle.clusters.specs.Cuts.{filled, first_of}
use Rattle.clusters.specs.Platoons.{ArePlatoons, ArePlatoonsBy, ArePlatoonsOf, load_of, most_of, platoons_at, streams_of, together}
use Rattle.clusters.specs.Sound.{AreOfNode, AreSoundOf, AreSpacedClusters, IsPlatoon, cluster_lists, clusters_of}
use Rattle.clusters.specs.Steps.{ArePlatoonsAsked, IsAge, IsHold, span_with}
use Rattle.clusters.specs.Options.{AreExpected, AreExpectedIn, AsksNothing, aged_load_of, rate_of, with_held_load, with_hold, span_in_green, span_of, first_with_hold}
use Rattle.clusters.specs.Windows.{IsRising}
use Rattle.clusters.proofs.LoadLaws.{aged_load-none}
use Rattle.clusters.proofs.PlatoonLaws.{ArePhases, aged-sound, phases-clusters, phases-node, phases-rising}

-- what is asked leaves the platoons of a phase what planning and forecasting ask
pub asked-sound : (age : Option ℕ) (rate : ℕ) (split : Option Head) (net : Net) (node phase : ℕ) (sensed : Sensed) (heard : List Heard) (list : List Platoon)
    → IsNetwork net → sensed.now ≤ most_seconds → node < length net.node_names → phase < length (plan_at net node) → IsAge age
    → ArePlatoonsAsked age rate split net node phase sensed heard list → AreSoundOf net node phase sensed.now list
asked-sound age rate split net node phase sensed heard list h early there exists ok are =
    aged-sound age net.run.gap rate
    (span_with split (phase_at (plan_at net node) phase).greatest (most_of net node phase) sensed.now (together (streams_of net sensed heard (phase_links_at net node phase)) net.run.look))
    net node phase sensed heard list h early there exists ok are

-- what is cut by this network's numbers of what its streams bring is what is asked
pub asked-made : (age : Option ℕ) (rate : ℕ) (split : Option Head) (net : Net) (node phase : ℕ) (sensed : Sensed) (heard : List Heard) (list : List Platoon) (gap look : ℕ) (span : ℕ → ℕ) (times : Phase) (series : List ℕ) (streams : List Part)
    → gap ≡ net.run.gap → look ≡ net.run.look → times ≡ phase_at (plan_at net node) phase → streams ≡ streams_of net sensed heard (phase_links_at net node phase)
    → series ≡ together streams look → ((x : ℕ) → span x ≡ span_with split times.greatest (times.greatest - times.loss) sensed.now series x)
    → ArePlatoonsBy (aged_load_of age net sensed) gap rate span sensed.now look streams list → ArePlatoonsAsked age rate split net node phase sensed heard list
asked-made age rate split net node phase sensed heard list gap look span times series streams g l t s brings spans are =
    let load : Part → ℕ = aged_load_of age net sensed in
    let own : List Part = streams_of net sensed heard (phase_links_at net node phase) in
    let same : series ≡ together own net.run.look = brings ∙ ap (λ ss. together ss look) s ∙ ap (together own) l in
    let asked : ℕ → ℕ = span_with split (phase_at (plan_at net node) phase).greatest (most_of net node phase) sensed.now (together own net.run.look) in
    let each : (x : ℕ) → span x ≡ asked x = λ x. spans x ∙ ap (λ (p : Phase). span_with split p.greatest (p.greatest - p.loss) sensed.now series x) t
    ∙ ap (λ xs. span_with split (phase_at (plan_at net node) phase).greatest (most_of net node phase) sensed.now xs x) same in
    subst (λ n. ArePlatoonsBy load n rate asked sensed.now net.run.look own list) g
    (subst (λ n. ArePlatoonsBy load gap rate asked sensed.now n own list) l
    (subst (λ ss. ArePlatoonsBy load gap rate asked sensed.now look ss list) s
    (subst (λ f. ArePlatoonsBy load gap rate f sensed.now look streams list) (λ i x. each x i) are)))

-- with no age and no head to split for, the platoons are those of the rules alone
pub asked-plain : (net : Net) (node phase : ℕ) (sensed : Sensed) (heard : List Heard) (list : List Platoon) → ArePlatoonsAsked None 0 None net node phase sensed heard list
    → ArePlatoons (load_of net) net.run.gap (most_of net node phase) sensed.now net.run.look (streams_of net sensed heard (phase_links_at net node phase)) list
asked-plain net node phase sensed heard list are =
    subst
    (λ load. ArePlatoonsBy load net.run.gap 0 (λ first. most_of net node phase) sensed.now net.run.look (streams_of net sensed heard (phase_links_at net node phase)) list)
    (aged_load-none net sensed) are

-- so for all phases of a node
abbrev pub ArePlain : Net → ℕ → Sensed → List Heard → List (List Platoon) → ℕ → Type 0
ArePlain net node sensed heard = ArePhases (λ k. ArePlatoonsAsked None 0 None net node k sensed heard)

pub plain-are : (net : Net) (node : ℕ) (sensed : Sensed) (heard : List Heard) (lists : List (List Platoon)) (i : ℕ) → ArePlain net node sensed heard lists i → i ≡ length (plan_at net node)
    → ArePlatoonsOf net node sensed heard lists
plain-are net node sensed heard lists i h e = record {
  count = omega (arith, h.count, e);
  each = λ k lt. asked-plain net node k sensed heard (platoons_at lists k) (h.each k (omega (arith, h.count)));
}

pub plain-sound : (net : Net) (node : ℕ) (sensed : Sensed) (heard : List Heard) (lists : List (List Platoon)) (i : ℕ) → IsNetwork net → sensed.now ≤ most_seconds → node < length net.node_names
    → ArePlain net node sensed heard lists i → i ≡ length (plan_at net node) → (k : ℕ) → k < length lists → AreSoundOf net node k sensed.now (platoons_at lists k)
plain-sound net node sensed heard lists i h early there are e k lt =
    asked-sound None 0 None net node k sensed heard (platoons_at lists k) h early there (omega (arith, are.count, e)) tt (are.each k (omega (arith, are.count)))

-- with a head where the network asks for it, they may span what those may that are expected
spans-same : (greatest most now : ℕ) (head : Head) (series : List ℕ) (split standing : Bool) (x : ℕ)
    → span_with (if split && standing then Some head else None) greatest most now series x
    ≡ (if split && standing && (x == first_of (filled series)) then span_in_green greatest most head (now + x) else most)
spans-same greatest most now head series true true x = refl
spans-same greatest most now head series true false x = refl
spans-same greatest most now head series false standing x = refl

spans-are : (net : Net) (node : ℕ) (head : Head) (now k : ℕ) (series : List ℕ) (split : Option Head) → split ≡ (if net.run.split && (k == head.phase) then Some head else None)
    → span_with split (phase_at (plan_at net node) k).greatest (most_of net node k) now series ≡ span_of net node head now k series
spans-are net node head now k series split e =
    ap (λ s. span_with s (phase_at (plan_at net node) k).greatest (most_of net node k) now series) e
    ∙ (λ i x. spans-same (phase_at (plan_at net node) k).greatest (most_of net node k) now head series net.run.split (k == head.phase) x i)

-- so they are expected, once the load of the first is held
pub asked-expected : (net : Net) (node k : ℕ) (head : Head) (sensed : Sensed) (heard : List Heard) (age : Option ℕ) (rate : ℕ) (split : Option Head) (plain list : List Platoon)
    → age ≡ net.run.age → rate ≡ rate_of net → split ≡ (if net.run.split && (k == head.phase) then Some head else None) → ArePlatoonsAsked age rate split net node k sensed heard plain
    → list ≡ with_hold net head k plain → AreExpectedIn net node head sensed k (streams_of net sensed heard (phase_links_at net node k)) list
asked-expected net node k head sensed heard age rate split plain list a r s are h =
    let streams : List Part = streams_of net sensed heard (phase_links_at net node k) in
    let series : List ℕ = together streams net.run.look in
    record {
      plain = plain;
      are =
          subst (λ n. ArePlatoonsBy (aged_load_of n net sensed) net.run.gap (rate_of net) (span_of net node head sensed.now k series) sensed.now net.run.look streams plain) a
          (subst (λ n. ArePlatoonsBy (aged_load_of age net sensed) net.run.gap n (span_of net node head sensed.now k series) sensed.now net.run.look streams plain) r
          (subst (λ span. ArePlatoonsBy (aged_load_of age net sensed) net.run.gap rate span sensed.now net.run.look streams plain) (spans-are net node head sensed.now k series split s) are));
      held = h;
    }

-- A load that is held changes nothing else.
held-cluster : (hold : ℕ) (p : Platoon) → 1 ≤ hold → IsCluster p.cluster → IsCluster (with_held_load hold p).cluster
held-cluster hold p some c =
    let once = mul-le 1 p.cluster.load hold p.cluster.load some (omega arith) in
    record {
      size = c.size;
      load = (le-min (omega (arith, c.size)) (omega (arith, once, c.load)), min-le_left (greatest_weight * p.cluster.size) (hold * p.cluster.load));
      arr = c.arr;
      len = c.len;
    }

same-arrival : (hold : ℕ) (p : Platoon) (ps : List Platoon) (k : ℕ) → (cluster_at (clusters_of (with_held_load hold p ∷ ps)) k).arr ≡ (cluster_at (clusters_of (p ∷ ps)) k).arr
same-arrival hold p ps zero = refl
same-arrival hold p ps (suc k) = refl

same-length : (hold : ℕ) (p : Platoon) (ps : List Platoon) (k : ℕ) → (cluster_at (clusters_of (with_held_load hold p ∷ ps)) k).len ≡ (cluster_at (clusters_of (p ∷ ps)) k).len
same-length hold p ps zero = refl
same-length hold p ps (suc k) = refl

held-sound : (net : Net) (node phase now hold : ℕ) (p : Platoon) (ps : List Platoon) → 1 ≤ hold → AreSoundOf net node phase now (p ∷ ps) → AreSoundOf net node phase now (with_held_load hold p ∷ ps)
held-sound net node phase now hold p ps some h =
    let P : Platoon → Type 0 = IsPlatoon net now (phase_links_at net node phase) in
    let first : IsPlatoon net now (phase_links_at net node phase) p = All-head P p ps h.parts in
    record {
      parts = All-cons P (with_held_load hold p) ps (record { arr = first.arr; order = first.order; parts = first.parts; whole = first.whole }) (All-tail P p ps h.parts);
      clusters = record {
        each = All-cons IsCluster (with_held_load hold p).cluster (clusters_of ps) (held-cluster hold p some (All-head IsCluster p.cluster (clusters_of ps) h.clusters.each)) (All-tail IsCluster p.cluster (clusters_of ps) h.clusters.each);
        spaced = λ k lt. rw (same-arrival hold p ps k, same-length hold p ps k, same-arrival hold p ps (k + 1)) (h.clusters.spaced k lt);
      };
      rising = record { few = h.rising.few; rising = h.rising.rising };
    }

first-sound : (net : Net) (node phase now at : ℕ) (hold : Option ℕ) (list : List Platoon) → IsHold hold → AreSoundOf net node phase now list → AreSoundOf net node phase now (first_with_hold hold at list)
first-sound net node phase now at None list ok h = h
first-sound net node phase now at (Some hold) [] ok h = h
first-sound net node phase now at (Some hold) (p ∷ ps) ok h = tested (nat_le p.cluster.arr at)
  where
    tested : (arrived : Bool) → AreSoundOf net node phase now ((if arrived then with_held_load hold p else p) ∷ ps)
    tested true = held-sound net node phase now hold p ps ok.0 h
    tested false = h

held-in-sound : (net : Net) (node phase now : ℕ) (head : Head) (list : List Platoon) → IsHold net.run.hold → AreSoundOf net node phase now list → AreSoundOf net node phase now (with_hold net head phase list)
held-in-sound net node phase now head list ok h = tested (phase == head.phase)
  where
    tested : (standing : Bool) → AreSoundOf net node phase now (if standing then first_with_hold net.run.hold head.at list else list)
    tested true = first-sound net node phase now head.at net.run.hold list ok h
    tested false = h

-- nor how many platoons there are
first-length : (hold : Option ℕ) (at : ℕ) (list : List Platoon) → length (first_with_hold hold at list) ≡ length list
first-length None at list = refl
first-length (Some hold) at [] = refl
first-length (Some hold) at (p ∷ ps) = refl

pub held-length : (net : Net) (head : Head) (k : ℕ) (list : List Platoon) → length (with_hold net head k list) ≡ length list
held-length net head k list = tested (k == head.phase)
  where
    tested : (standing : Bool) → length (if standing then first_with_hold net.run.hold head.at list else list) ≡ length list
    tested true = first-length net.run.hold head.at list
    tested false = refl

-- What is expected of a phase of a network is what planning and forecasting ask, whatever the network asks beside the rules.
pub expected-sound : (net : Net) (node k : ℕ) (head : Head) (sensed : Sensed) (heard : List Heard) (list : List Platoon)
    → IsNetwork net → sensed.now ≤ most_seconds → node < length net.node_names → k < length (plan_at net node)
    → AreExpectedIn net node head sensed k (streams_of net sensed heard (phase_links_at net node k)) list → AreSoundOf net node k sensed.now list
expected-sound net node k head sensed heard list h early there exists e =
    subst (AreSoundOf net node k sensed.now) (sym e.held)
    (held-in-sound net node k sensed.now head e.plain h.outline.run.hold
    (aged-sound net.run.age net.run.gap (rate_of net) (span_of net node head sensed.now k (together (streams_of net sensed heard (phase_links_at net node k)) net.run.look)) net node k sensed heard e.plain h early there exists h.outline.run.age e.are))

-- and so of all its phases
pub expected-each : (net : Net) (node : ℕ) (head : Head) (sensed : Sensed) (heard : List Heard) (lists : List (List Platoon))
    → IsNetwork net → sensed.now ≤ most_seconds → node < length net.node_names → AreExpected net node head sensed heard lists
    → (k : ℕ) → k < length lists → AreSoundOf net node k sensed.now (platoons_at lists k)
expected-each net node head sensed heard lists h early there are k lt = expected-sound net node k head sensed heard (platoons_at lists k) h early there (omega (arith, are.count)) (are.each k lt)

pub expected-node : (net : Net) (node : ℕ) (head : Head) (sensed : Sensed) (heard : List Heard) (lists : List (List Platoon))
    → IsNetwork net → sensed.now ≤ most_seconds → node < length net.node_names → AreExpected net node head sensed heard lists → AreOfNode net node sensed.now lists
expected-node net node head sensed heard lists h early there are = phases-node net node sensed.now lists are.count (expected-each net node head sensed heard lists h early there are)

pub expected-clusters : (net : Net) (node : ℕ) (head : Head) (sensed : Sensed) (heard : List Heard) (lists : List (List Platoon))
    → IsNetwork net → sensed.now ≤ most_seconds → node < length net.node_names → AreExpected net node head sensed heard lists → All AreSpacedClusters (cluster_lists lists)
expected-clusters net node head sensed heard lists h early there are = phases-clusters net node sensed.now lists (expected-each net node head sensed heard lists h early there are)

pub expected-rising : (net : Net) (node : ℕ) (head : Head) (sensed : Sensed) (heard : List Heard) (lists : List (List Platoon))
    → IsNetwork net → sensed.now ≤ most_seconds → node < length net.node_names → AreExpected net node head sensed heard lists → All IsRising lists
expected-rising net node head sensed heard lists h early there are = phases-rising net node sensed.now lists (expected-each net node head sensed heard lists h early there are)

-- what is expected phase by phase
pub expected-are : (net : Net) (node : ℕ) (head : Head) (sensed : Sensed) (heard : List Heard) (lists : List (List Platoon)) (i : ℕ)
    → ArePhases (λ k. AreExpectedIn net node head sensed k (streams_of net sensed heard (phase_links_at net node k))) lists i → i ≡ length (plan_at net node) → AreExpected net node head sensed heard lists
expected-are net node head sensed heard lists i h e = record { count = omega (arith, h.count, e); each = λ k lt. h.each k (omega (arith, h.count)) }

-- Where a network asks for nothing, what is expected is what the rules alone say.
unheld : (standing : Bool) (hold : Option ℕ) (at : ℕ) (list : List Platoon) → hold ≡ None → (if standing then first_with_hold hold at list else list) ≡ list
unheld standing hold at list none = ap (λ h. if standing then first_with_hold h at list else list) none ∙ plain standing
  where
    plain : (b : Bool) → (if b then list else list) ≡ list
    plain true = refl
    plain false = refl

asks-nothing : (net : Net) (node k : ℕ) (head : Head) (sensed : Sensed) (streams : List Part) (list : List Platoon) → AsksNothing net → AreExpectedIn net node head sensed k streams list
    → ArePlatoons (load_of net) net.run.gap (most_of net node k) sensed.now net.run.look streams list
asks-nothing net node k head sensed streams list none e =
    let series : List ℕ = together streams net.run.look in
    let most : ℕ = most_of net node k in
    let R : Option ℕ → Type 0 = λ n. ArePlatoonsBy (aged_load_of net.run.age net sensed) net.run.gap (unwrap_or n 0)
    (span_of net node head sensed.now k (together streams net.run.look)) sensed.now net.run.look streams e.plain in
    let S : Bool → Type 0 = λ b. ArePlatoonsBy (aged_load_of net.run.age net sensed) net.run.gap 0
    (λ x. if b && (k == head.phase) && (x == first_of (filled (together streams net.run.look))) then span_in_green (phase_at (plan_at net node) k).greatest (most_of net node k) head (sensed.now + x) else most_of net node k)
    sensed.now net.run.look streams e.plain in
    let A : Option ℕ → Type 0 = λ n. ArePlatoonsBy (aged_load_of n net sensed) net.run.gap 0 (λ first. most_of net node k) sensed.now net.run.look streams e.plain in
    let L : (Part → ℕ) → Type 0 = λ load. ArePlatoonsBy load net.run.gap 0 (λ first. most_of net node k) sensed.now net.run.look streams e.plain in
    subst (ArePlatoons (load_of net) net.run.gap (most_of net node k) sensed.now net.run.look streams)
    (sym (e.held ∙ unheld (k == head.phase) net.run.hold head.at e.plain none.hold))
    (subst L (aged_load-none net sensed) (subst A none.age (subst S none.split (subst R none.rate e.are))))

pub without-options : (net : Net) (node : ℕ) (head : Head) (sensed : Sensed) (heard : List Heard) (lists : List (List Platoon))
    → AsksNothing net → AreExpected net node head sensed heard lists → ArePlatoonsOf net node sensed heard lists
without-options net node head sensed heard lists none are = record {
  count = are.count;
  each = λ k lt. asks-nothing net node k head sensed (streams_of net sensed heard (phase_links_at net node k)) (platoons_at lists k) none (are.each k lt);
}

-- Where prefixes lead: step by step, and whole sequences to their delay.
use Rattle.std.specs.Prelude.{unwrap_or}
use Rattle.std.proofs.Common.{◌≡◌, ℕ, zero, suc, ◌+◌, ◌-◌, ◌<◌, ◌≤◌, ◌==◌, cond, List, [], ◌∷◌, ◌++◌, length, sum, get_or, All, Option, Some, None, Ok, Err, refl, sym, ap, subst, ◌∙◌, inl, inr, length-set, arith}
use Rattle.std.specs.Option.{option_map, option_and_then}
use Rattle.std.specs.List.{slice_get}
use Rattle.std.proofs.lemmas.Bool.{cases_eq, cases_lt, eqb-true, eq-eqb}
use Rattle.std.proofs.lemmas.List.{get_or-set_same, get_or-set_other, get_or_past, length-map}
use Rattle.std.proofs.lemmas.List.Elements.{All-nil, All-cons}
use Rattle.std.proofs.lemmas.List.Sums.{sum_by-cons, sum_by-set}
use Rattle.std.proofs.lemmas.Option.{slice_get_within, get_or_from_slice_get, cond_some}
use Rattle.switch_rules.specs.Serving.{serving, IsCluster}
use Rattle.switch_rules.specs.Orders.{one_less}
use Rattle.switch_rules.specs.declared.Head.{Head}
use Rattle.switch_rules.specs.declared.Served.{Served}
use Rattle.switch_rules.specs.declared.Cluster.{Cluster}
use Rattle.switch_rules.specs.declared.Unfit.{Unfit}
use Rattle.switch_rules.proofs.Counting.{count-le-sum, sum-one_less, length-one_less}
use Rattle.schedule_meaning.specs.Instances.{Problem, IsInstance, list_at, counts_of}
use Rattle.schedule_meaning.specs.Timing.{next_cluster, timed_from, timed, delay_of, total_cost}
use Rattle.schedule_meaning.proofs.Sequences.{get_or-counts, option-cases, result-cases, timed-begins, timed-fit, next-left, left-phase}
use Rattle.dp_certificate.specs.Prefixes.{Stage, one_more, stage_after, stage_from, first_stage, stage_of}

-- the stage after a fit serving of phase k
abbrev pub behind : Stage → ℕ → Served × Head → Stage
behind s k r = record { counts = one_more s.counts k; head = r.1; delay = s.delay + r.0.cost }

-- a step in its three outcomes: there is no cluster, or its serving is unfit, or fit
pub step-missing : (p : Problem) (s : Stage) (k : ℕ) → slice_get (list_at p.lists k) (get_or s.counts k 0) ≡ None → stage_after p s k ≡ None
step-missing p s k e = rw e refl

pub step-unfit : (p : Problem) (s : Stage) (k : ℕ) (c : Cluster) (why : Unfit) → slice_get (list_at p.lists k) (get_or s.counts k 0) ≡ Some c → serving p.plan s.head k c ≡ Err why → stage_after p s k ≡ None
step-unfit p s k c why e f = rw e (rw f refl)

pub step-fit : (p : Problem) (s : Stage) (k : ℕ) (c : Cluster) (r : Served × Head) → slice_get (list_at p.lists k) (get_or s.counts k 0) ≡ Some c → serving p.plan s.head k c ≡ Ok r → stage_after p s k ≡ Some (behind s k r)
step-fit p s k c r e f = rw e (rw f refl)

pub some-same : {X : Type 0} (x y : X) → Some x ≡ Some y → x ≡ y
some-same {X} x y e = ap (λ (o : Option X). unwrap_or o x) e

-- a step that leads somewhere is a fit serving of the next cluster
pub step-begins : {P : Type 0} (p : Problem) (s t : Stage) (k : ℕ) → stage_after p s k ≡ Some t
    → ((c : Cluster) (r : Served × Head) → slice_get (list_at p.lists k) (get_or s.counts k 0) ≡ Some c → serving p.plan s.head k c ≡ Ok r → behind s k r ≡ t → P) → P
step-begins p s t k e use_it =
    option-cases (slice_get (list_at p.lists k) (get_or s.counts k 0)) (λ none. let gone = step-missing p s k none in absurd (cc)) (λ c ec.
    result-cases (serving p.plan s.head k c)
    (λ r er. use_it c r ec er (some-same (behind s k r) t (sym (step-fit p s k c r ec er) ∙ e)))
    (λ why ew. let gone = step-unfit p s k c why ec ew in absurd (cc)))

-- the steps after a first one
pub from-none : (p : Problem) (s : Stage) (k : ℕ) (ks : List ℕ) → stage_after p s k ≡ None → stage_from p s (k ∷ ks) ≡ None
from-none p s k ks e = ap (option_and_then (λ (t : Stage). stage_from p t ks)) e

pub from-some : (p : Problem) (s t : Stage) (k : ℕ) (ks : List ℕ) → stage_after p s k ≡ Some t → stage_from p s (k ∷ ks) ≡ stage_from p t ks
from-some p s t k ks e = ap (option_and_then (λ (t : Stage). stage_from p t ks)) e

pub from-begins : {P : Type 0} (p : Problem) (s t : Stage) (k : ℕ) (ks : List ℕ) → stage_from p s (k ∷ ks) ≡ Some t → ((next : Stage) → stage_after p s k ≡ Some next → stage_from p next ks ≡ Some t → P) → P
from-begins p s t k ks e use_it =
    option-cases (stage_after p s k)
    (λ none. let gone = from-none p s k ks none in absurd (cc))
    (λ next en. use_it next en (sym (from-some p s next k ks en) ∙ e))

bind-alone : {X : Type 0} (o : Option X) → option_and_then (λ (x : X). Some x) o ≡ o
bind-alone None = refl
bind-alone (Some x) = refl

-- one more phase at the end is one more step
pub stage-push : (p : Problem) (s : Stage) (u : List ℕ) (k : ℕ) → stage_from p s (u ++ k ∷ []) ≡ option_and_then (λ t. stage_after p t k) (stage_from p s u)
stage-push p s [] k = bind-alone (stage_after p s k)
stage-push p s (j ∷ u) k =
    option-cases (stage_after p s j)
    (λ none. from-none p s j (u ++ k ∷ []) none ∙ sym (ap (option_and_then (λ (t : Stage). stage_after p t k)) (from-none p s j u none)))
    (λ next en. from-some p s next j (u ++ k ∷ []) en ∙ stage-push p next u k ∙ sym (ap (option_and_then (λ (t : Stage). stage_after p t k)) (from-some p s next j u en)))

-- a sequence with one more in front ends as it did
last-behind : (x n : ℕ) (u : List ℕ) → (v : List ℕ) × (k : ℕ) × (u ≡ v ++ k ∷ []) × (length v ≡ n) → (v : List ℕ) × (k : ℕ) × (x ∷ u ≡ v ++ k ∷ []) × (length v ≡ suc n)
last-behind x n u (v, k, e, l) = (x ∷ v, k, ap (λ xs. x ∷ xs) e, omega arith)

-- the last of a sequence that has one
pub last-of : (u : List ℕ) (n : ℕ) → length u ≡ n + 1 → (v : List ℕ) × (k : ℕ) × (u ≡ v ++ k ∷ []) × (length v ≡ n)
last-of [] n e = absurd (omega arith)
last-of (x ∷ []) n e = ([], x, refl, omega arith)
last-of (x ∷ y ∷ u) zero e = absurd (omega arith)
last-of (x ∷ y ∷ u) (suc n) e = last-behind x n (y ∷ u) (last-of (y ∷ u) n (omega arith))

-- a phase that has a cluster is one of the plan
pub listed-phase : (p : Problem) (k i : ℕ) (c : Cluster) → slice_get (list_at p.lists k) i ≡ Some c → k < length p.lists
listed-phase p k i c e = elim (cases_lt k (length p.lists)) [
  | inl inside ↦ inside
  | inr past ↦ absurd (omega (arith, slice_get_within (list_at p.lists k) i c e, ap length (get_or_past p.lists k [] past)))
]

-- the phase and the cluster of a step are within their bounds
pub listed-cluster : (p : Problem) (k i : ℕ) (c : Cluster) → IsInstance p → slice_get (list_at p.lists k) i ≡ Some c → IsCluster c
listed-cluster p k i c lawful e = subst IsCluster (get_or_from_slice_get (list_at p.lists k) i c c e) (lawful.clusters k [] (listed-phase p k i c e) i c (slice_get_within (list_at p.lists k) i c e))

-- what is counted with one more of phase k
pub more-same : (counts : List ℕ) (k : ℕ) → k < length counts → get_or (one_more counts k) k 0 ≡ get_or counts k 0 + 1
more-same counts k h = get_or-set_same counts k (get_or counts k 0 + 1) 0 h

pub more-other : (counts : List ℕ) (k j : ℕ) → (j ≡ k → ⊥) → get_or (one_more counts k) j 0 ≡ get_or counts j 0
more-other counts k j other = get_or-set_other counts k j (get_or counts k 0 + 1) 0 other

pub sum-one_more : (counts : List ℕ) (k : ℕ) → k < length counts → sum (one_more counts k) ≡ sum counts + 1
sum-one_more counts k h = omega (arith, sum_by-set (λ x. x) counts k (get_or counts k 0 + 1) 0 h)

pub more-within : (p : Problem) (counts : List ℕ) (k : ℕ) → k < length counts → get_or counts k 0 < length (list_at p.lists k) → ((j : ℕ) → get_or counts j 0 ≤ length (list_at p.lists j)) → (j : ℕ) → get_or (one_more counts k) j 0 ≤ length (list_at p.lists j)
more-within p counts k h room within j = elim (cases_eq j k) [
  | inl same ↦ omega (arith, more-same counts k h, ap (λ i. get_or (one_more counts k) i 0) same, ap (λ i. length (list_at p.lists i)) same)
  | inr other ↦ omega (arith, more-other counts k j other, within j)
]

-- where nothing is served yet
pub none-counted : (k : ℕ) → let n : ℕ = get_or (0 ∷ 0 ∷ 0 ∷ 0 ∷ []) k 0 in n ≡ 0
none-counted zero = refl
none-counted (suc zero) = refl
none-counted (suc (suc zero)) = refl
none-counted (suc (suc (suc zero))) = refl
none-counted (suc (suc (suc (suc k)))) = refl

-- a step that leads somewhere serves a phase of the plan
pub stage-after-phase : (p : Problem) → IsInstance p → (s t : Stage) (k : ℕ) → stage_after p s k ≡ Some t → k < length p.plan
stage-after-phase p lawful s t k e = step-begins p s t k e (λ c r ec er same. omega (arith, listed-phase p k (get_or s.counts k 0) c ec, lawful.lists))

-- and a prefix names phases of the plan alone
pub from-phases : (p : Problem) → IsInstance p → (u : List ℕ) (s t : Stage) → stage_from p s u ≡ Some t → All (λ k. k < length p.plan) u
from-phases p lawful [] s t e = All-nil (λ k. k < length p.plan)
from-phases p lawful (k ∷ u) s t e = from-begins p s t k u e (λ next en rest.
    All-cons (λ k. k < length p.plan) k u (stage-after-phase p lawful s next k en) (from-phases p lawful u next t rest))

pub stage-phases : (p : Problem) → IsInstance p → (u : List ℕ) (s : Stage) → stage_of p u ≡ Some s → All (λ k. k < length p.plan) u
stage-phases p lawful u s e = from-phases p lawful u (first_stage p) s e

-- the delay so far changes nothing but the delay
pub stage-alike : (p : Problem) (s : Stage) (d k : ℕ) (t : Stage) → stage_after p s k ≡ Some t
    → (c : ℕ) × (t.delay ≡ s.delay + c) × (stage_after p (record { counts = s.counts; head = s.head; delay = d }) k ≡ Some (record { counts = t.counts; head = t.head; delay = d + c }))
stage-alike p s d k t e = step-begins p s t k e (λ c r ec er same.
    let other : Stage = record { counts = s.counts; head = s.head; delay = d } in
    (r.0.cost, sym (ap (λ (x : Stage). x.delay) same), step-fit p other k c r ec er ∙ ap (λ (x : Stage). let y : Option Stage = Some (record { counts = x.counts; head = x.head; delay = d + r.0.cost }) in y) same))

-- what is left of each phase and what is served of it make up its list
pub record IsSplit (p : Problem) (left counts : List ℕ) : Type 0 where
  pub lists : length left ≡ length p.lists
  pub places : length counts ≡ 4
  pub both : (k : ℕ) → get_or left k 0 + get_or counts k 0 ≡ length (list_at p.lists k)

pub split-start : (p : Problem) → IsSplit p (counts_of p.lists) (first_stage p).counts
split-start p = record {
  lists = length-map p.lists length;
  places = refl;
  both = λ k. omega (arith, get_or-counts p.lists k, none-counted k);
}

less-same : (left : List ℕ) (k : ℕ) → 0 < get_or left k 0 → get_or (one_less left k) k 0 + 1 ≡ get_or left k 0
less-same left k h = omega (arith, get_or-set_same left k (get_or left k 0 - 1) 0 (left-phase left k h))

less-other : (left : List ℕ) (k j : ℕ) → (j ≡ k → ⊥) → get_or (one_less left k) j 0 ≡ get_or left j 0
less-other left k j other = get_or-set_other left k j (get_or left k 0 - 1) 0 other

-- and go on to do so when one is served
pub split-step : (p : Problem) → IsInstance p → (left counts : List ℕ) (k : ℕ) → IsSplit p left counts → 0 < get_or left k 0 → IsSplit p (one_less left k) (one_more counts k)
split-step p lawful left counts k split some =
    let place : k < length counts = omega (arith, left-phase left k some, split.lists, split.places, lawful.lists, lawful.plan.count.1) in
    record {
      lists = length-one_less left k ∙ split.lists;
      places = length-set counts k (get_or counts k 0 + 1) ∙ split.places;
      both = λ j. elim (cases_eq j k) [
        | inl same ↦
            omega (arith, less-same left k some, more-same counts k place, split.both k, ap (λ i. get_or (one_less left k) i 0) same, ap (λ i. get_or (one_more counts k) i 0) same, ap (λ i. length (list_at p.lists i)) same)
        | inr other ↦ omega (arith, less-other left k j other, more-other counts k j other, split.both j)
      ];
    }

-- both find the same next cluster
same-next : (p : Problem) (left counts : List ℕ) (k : ℕ) → IsSplit p left counts → next_cluster p.lists left k ≡ slice_get (list_at p.lists k) (get_or counts k 0)
same-next p left counts k split = ap (slice_get (list_at p.lists k)) (omega (arith, split.both k))

-- what is timed goes on with a fit serving
timed-more : (p : Problem) (left : List ℕ) (head : Head) (k : ℕ) (ks : List ℕ) (c : Cluster) (r : Served × Head) (rest : List Served × Head) → next_cluster p.lists left k ≡ Some c → serving p.plan head k c ≡ Ok r → timed_from p (one_less left k) r.1 ks ≡ Some rest
    → timed_from p left head (k ∷ ks) ≡ Some (r.0 ∷ rest.0, rest.1)
timed-more p left head k ks c r rest ec er ek = timed-fit p left head k ks c r ec er ∙ ap (option_map (λ (x : List Served × Head). (r.0 ∷ x.0, x.1))) ek

cost-more : (t : List Served × Head) (s : Served) (rest : List Served) (h : Head) → Some (s ∷ rest, h) ≡ Some t → total_cost t.0 ≡ s.cost + total_cost rest
cost-more t s rest h e = sym (ap (λ (o : Option (List Served × Head)). total_cost (unwrap_or o t).0) e) ∙ sum_by-cons (λ (x : Served). x.cost) s rest

-- a sequence leads from a stage to one with so much more delay, and has as many phases as clusters are left
pub record EndsWith (p : Problem) (s : Stage) (u left : List ℕ) (cost : ℕ) : Type 0 where
  pub end : Stage
  pub leads : stage_from p s u ≡ Some end
  pub delay : end.delay ≡ s.delay + cost
  pub whole : length u ≡ sum left
  pub all : (k : ℕ) → get_or end.counts k 0 ≡ length (list_at p.lists k)

-- what is timed leads to a stage
ends-timed : (p : Problem) → IsInstance p → (u left : List ℕ) (s : Stage) (t : List Served × Head) → IsSplit p left s.counts → timed_from p left s.head u ≡ Some t → EndsWith p s u left (total_cost t.0)
ends-timed p lawful [] left s t split e =
    let over = cond_some (sum left == 0) ([], s.head) t e in
    record {
      end = s;
      leads = refl;
      delay = omega (arith, ap (λ (x : List Served × Head). total_cost x.0) over.1);
      whole = omega (arith, eqb-true (sum left) 0 over.0);
      all = λ k. omega (arith, eqb-true (sum left) 0 over.0, count-le-sum left k, split.both k);
    }
ends-timed p lawful (k ∷ u) left s t split e = timed-begins p left s.head k u t e (λ c r rest ec er ek.
    let some : 0 < get_or left k 0 = next-left p.lists left k c ec in
    let later = ends-timed p lawful u (one_less left k) (behind s k r) rest (split-step p lawful left s.counts k split some) ek in
    record {
      end = later.end;
      leads = from-some p s (behind s k r) k u (step-fit p s k c r (sym (same-next p left s.counts k split) ∙ ec) er) ∙ later.leads;
      delay = omega (arith, later.delay, cost-more t r.0 rest.0 rest.1 (sym (timed-more p left s.head k u c r rest ec er ek) ∙ e));
      whole = omega (arith, later.whole, sum-one_less left k some);
      all = later.all;
    })

-- a sequence is timed from a head, and costs what the delay rises from one number to another
pub record TimesTo (p : Problem) (left : List ℕ) (head : Head) (u : List ℕ) (from to : ℕ) : Type 0 where
  pub what : List Served × Head
  pub timed : timed_from p left head u ≡ Some what
  pub delay : to ≡ from + total_cost what.0

times-more : (p : Problem) (left : List ℕ) (head : Head) (k : ℕ) (u : List ℕ) (c : Cluster) (r : Served × Head) (from to : ℕ) → next_cluster p.lists left k ≡ Some c → serving p.plan head k c ≡ Ok r → TimesTo p (one_less left k) r.1 u (from + r.0.cost) to → TimesTo p left head (k ∷ u) from to
times-more p left head k u c r from to ec er later = record {
  what = (r.0 ∷ later.what.0, later.what.1);
  timed = timed-more p left head k u c r later.what ec er later.timed;
  delay = omega (arith, later.delay, sum_by-cons (λ (x : Served). x.cost) r.0 later.what.0);
}

-- what leads to a stage and leaves nothing is timed
timed-ends : (p : Problem) → IsInstance p → (u left : List ℕ) (s end : Stage) → IsSplit p left s.counts → stage_from p s u ≡ Some end → length u ≡ sum left → TimesTo p left s.head u s.delay end.delay
timed-ends p lawful [] left s end split e whole =
    let t : List Served × Head = ([], s.head) in
    record {
      what = t;
      timed = ap (λ b. cond b (Some t) None) (eq-eqb (sum left) 0 (omega arith));
      delay = omega (arith, ap (λ (x : Stage). x.delay) (some-same s end e));
    }
timed-ends p lawful (k ∷ u) left s end split e whole = from-begins p s end k u e (λ next en rest. step-begins p s next k en (λ c r ec er same.
    let some : 0 < get_or left k 0 = omega (arith, split.both k, slice_get_within (list_at p.lists k) (get_or s.counts k 0) c ec) in
    let leads : stage_from p (behind s k r) u ≡ Some end = ap (λ (x : Stage). stage_from p x u) same ∙ rest in
    times-more p left s.head k u c r s.delay end.delay (same-next p left s.counts k split ∙ ec) er
    (timed-ends p lawful u (one_less left k) (behind s k r) end (split-step p lawful left s.counts k split some) leads (omega (arith, sum-one_less left k some)))))

-- a sequence with a delay serves all clusters, and leads to a stage with that delay
pub ends-delay : (p : Problem) → IsInstance p → (u : List ℕ) (d : ℕ) → delay_of p u ≡ Some d → EndsWith p (first_stage p) u (counts_of p.lists) d
ends-delay p lawful u d e =
    option-cases (timed p u)
    (λ none. let gone = ap (option_map (λ (t : List Served × Head). total_cost t.0)) none in absurd (cc))
    (λ t et.
    let cost : total_cost t.0 ≡ d = some-same (total_cost t.0) d (sym (ap (option_map (λ (t : List Served × Head). total_cost t.0)) et) ∙ e) in
    subst (EndsWith p (first_stage p) u (counts_of p.lists)) cost (ends-timed p lawful u (counts_of p.lists) (first_stage p) t (split-start p) et))

pub stage-of-delay : (p : Problem) → IsInstance p → (u : List ℕ) (d : ℕ) → delay_of p u ≡ Some d → (s : Stage) × (stage_of p u ≡ Some s) × (s.delay ≡ d) × (length u ≡ sum (counts_of p.lists))
stage-of-delay p lawful u d e =
    let there = ends-delay p lawful u d e in
    (there.end, there.leads, omega (arith, there.delay), there.whole)

-- a sequence that leads to a stage and serves all clusters has the stage's delay
pub delay-of-stage : (p : Problem) → IsInstance p → (u : List ℕ) (s : Stage) → stage_of p u ≡ Some s → length u ≡ sum (counts_of p.lists) → delay_of p u ≡ Some s.delay
delay-of-stage p lawful u s e whole =
    let there = timed-ends p lawful u (counts_of p.lists) (first_stage p) s (split-start p) e whole in
    ap (option_map (λ (t : List Served × Head). total_cost t.0)) there.timed ∙ ap (λ (n : ℕ). Some n) (omega (arith, there.delay))

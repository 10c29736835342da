-- A completion of a stage costs at least what its clusters that are not yet served cost when each waits until the
-- stage's time.
use Rattle.std.proofs.Common.{◌≡◌, ℕ, zero, suc, ◌+◌, ◌-◌, ◌*◌, ◌<◌, ◌≤◌, ◌&&◌, nat_lt, nat_le, max, Bool, true, false, cond, List, [], ◌∷◌, length, length-set, sum, get_or, drop, take, Some, Result, Ok, Err, refl, sym, ap, subst, ◌∙◌, inl, inr, add-one, drop-cons, arith}
use Rattle.std.specs.List.{range_with_len, slice_get, sum_by}
use Rattle.std.proofs.Math.Nat.{mul-le-mul_left, mul-zero}
use Rattle.std.proofs.Math.Seq.{drop-length}
use Rattle.std.proofs.lemmas.List.{take_all, length-drop, get_or_default, get_or-drop, take-append-drop}
use Rattle.std.proofs.lemmas.Bool.{cases_eq, cond_both}
use Rattle.std.proofs.lemmas.Bool.Decides.{nat_tests}
use Rattle.std.proofs.lemmas.List.Sums.{sum_by-append, sum_by-cons}
use Rattle.std.proofs.lemmas.Option.{slice_get_within, get_or_from_slice_get}
use Rattle.phase_plan.specs.Phases.{phase_at}
use Rattle.phase_plan.specs.declared.Phase.{Phase}
use Rattle.switch_rules.specs.Serving.{serving, served_from, served_anew, start_in_green, earliest_green, goes_on}
use Rattle.switch_rules.specs.declared.Head.{Head}
use Rattle.switch_rules.specs.declared.Served.{Served}
use Rattle.switch_rules.specs.declared.Cluster.{Cluster}
use Rattle.switch_rules.specs.declared.Unfit.{Unfit}
use Rattle.switch_rules.specs.declared.Unfit.TheVariants.{TooLong, TooLate}
use Rattle.schedule_meaning.specs.Instances.{Problem, IsInstance, IsSpaced, cluster_at, list_at, no_cluster}
use Rattle.dp_certificate.specs.Prefixes.{Stage, one_more, stage_after, stage_from}
use Rattle.dp_certificate.specs.Proves.{rest_of, wait_until}
use Rattle.dp_certificate.proofs.Servings.{cond-ok, ok-same}
use Rattle.dp_certificate.proofs.Stages.{behind, some-same, step-begins, from-begins, more-same, more-other, sum-one_more, stage-after-phase}

-- what a serving leads to: the green is free no earlier than at t, is not fresh, and the cluster has waited until t
pub record Leads (t : ℕ) (c : Cluster) (r : Served × Head) : Type 0 where
  pub later : t ≤ r.1.at
  pub stale : r.1.fresh ≡ false
  pub cost : c.load * (t - c.arr) ≤ r.0.cost

-- of all that a serving may be
abbrev pub Leading : ℕ → Cluster → Result (Served × Head) Unfit → Type 0
Leading t c o = (r : Served × Head) → o ≡ Ok r → Leads t c r

served-from-leads : (p : Phase) (k : ℕ) (c : Cluster) (green start : ℕ) (kept : Bool) (t : ℕ) → t ≤ start → Leading t c (served_from p k c green start kept)
served-from-leads p k c green start kept t h r e =
    let x : Served × Head = (record { green = green; start = start; finish = start + c.len; cost = c.load * (start - c.arr); kept = kept }, record { phase = k; since = green; at = start + c.len; fresh = false }) in
    let y : Result (Served × Head) Unfit = Ok x in
    let long = cond-ok (nat_lt (green + p.greatest) (start + c.len)) TooLong (cond (nat_lt p.wait (start - c.arr)) (Err TooLate) y) r e in
    let late = cond-ok (nat_lt p.wait (start - c.arr)) TooLate y r long.1 in
    let leads : Leads t c x = record { later = omega arith; stale = refl; cost = mul-le-mul_left c.load (let less : t - c.arr ≤ start - c.arr = omega arith in less) } in
    subst (Leads t c) (ok-same x r y refl late.1) leads

-- every fit serving starts no earlier than the head's time
pub serving-leads : (plan : List Phase) (head : Head) (k : ℕ) (c : Cluster) → Leading head.at c (serving plan head k c)
serving-leads plan head k c =
    let p = phase_at plan k in
    let earliest = earliest_green plan head k in
    let in_green : head.at ≤ start_in_green p head c = cond_both (head.fresh && nat_le c.arr head.at) (max head.at (head.since + p.loss)) (max c.arr head.at) (λ n. head.at ≤ n) (λ _. omega arith) (λ _. omega arith) in
    cond_both (goes_on p head k c) (served_from p k c head.since (start_in_green p head c) true) (served_anew p k c earliest) (Leading head.at c)
    (λ _. served-from-leads p k c head.since (start_in_green p head c) true head.at in_green)
    (λ _. cond_both (nat_le c.arr earliest) (served_from p k c earliest (earliest + p.loss) false) (served_from p k c c.arr c.arr false) (Leading head.at c)
    (λ _. served-from-leads p k c earliest (earliest + p.loss) false head.at (omega arith))
    (λ late. let arrives : earliest < c.arr = grind (arith, nat_tests, late) in served-from-leads p k c c.arr c.arr false head.at (omega arith)))

-- what is left of phase k, and what it costs until t
abbrev pub left_of : Problem → List ℕ → ℕ → List Cluster
left_of p counts k = drop (get_or counts k 0) (list_at p.lists k)

abbrev pub left_cost : Problem → List ℕ → ℕ → ℕ → ℕ
left_cost p counts t k = sum_by (wait_until t) (left_of p counts k)

-- to wait longer costs no less
waits-longer : (t u : ℕ) → t ≤ u → (cs : List Cluster) → sum_by (wait_until t) cs ≤ sum_by (wait_until u) cs
waits-longer t u h [] = omega arith
waits-longer t u h (c ∷ cs) =
    let here : wait_until t c ≤ wait_until u c = mul-le-mul_left c.load (let less : t - c.arr ≤ u - c.arr = omega arith in less) in
    omega (arith, sum_by-cons (wait_until t) c cs, sum_by-cons (wait_until u) c cs, waits-longer t u h cs)

-- a cluster that stands at an index, with what it costs
first-waits : (t i : ℕ) (cs : List Cluster) (c : Cluster) → slice_get cs i ≡ Some c → sum_by (wait_until t) (drop i cs) ≡ wait_until t c + sum_by (wait_until t) (drop (i + 1) cs)
first-waits t i cs c e =
    ap (sum_by (wait_until t)) (drop-cons cs i c (slice_get_within cs i c e))
    ∙ sum_by-cons (wait_until t) (get_or cs i c) (drop (suc i) cs)
    ∙ ap (λ (x : Cluster). wait_until t x + sum_by (wait_until t) (drop (suc i) cs)) (get_or_from_slice_get cs i c c e)
    ∙ ap (λ j. wait_until t c + sum_by (wait_until t) (drop j cs)) (sym (add-one i))

-- sums over the numbers from a on
none-summed : (f : ℕ → ℕ) → ((k : ℕ) → f k ≡ 0) → (a n : ℕ) → sum_by f (range_with_len a n) ≡ 0
none-summed f h a zero = refl
none-summed f h a (suc n) = sum_by-cons f a (range_with_len (a + 1) n) ∙ omega (arith, h a, none-summed f h (a + 1) n)

no-less : (f g : ℕ → ℕ) (a n : ℕ) → ((k : ℕ) → a ≤ k → f k ≤ g k) → sum_by f (range_with_len a n) ≤ sum_by g (range_with_len a n)
no-less f g a zero h = omega arith
no-less f g a (suc n) h =
    omega (arith, sum_by-cons f a (range_with_len (a + 1) n), sum_by-cons g a (range_with_len (a + 1) n), h a (omega arith), no-less f g (a + 1) n (λ k below. h k (omega arith)))

-- more at one number alone
more-at : (f g : ℕ → ℕ) (j more : ℕ) → f j ≤ more + g j → ((k : ℕ) → (k ≡ j → ⊥) → f k ≤ g k) → (a n : ℕ) → sum_by f (range_with_len a n) ≤ more + sum_by g (range_with_len a n)
more-at f g j more here others a zero = omega arith
more-at f g j more here others a (suc n) = elim (cases_eq a j) [
  | inl same ↦
      omega (
        arith,
        sum_by-cons f a (range_with_len (a + 1) n),
        sum_by-cons g a (range_with_len (a + 1) n),
        no-less f g (a + 1) n (λ k above. others k (λ e. omega arith)),
        here,
        ap f same,
        ap g same,
      )
  | inr other ↦
      omega (arith, sum_by-cons f a (range_with_len (a + 1) n), sum_by-cons g a (range_with_len (a + 1) n), others a other, more-at f g j more here others (a + 1) n)
]

-- the rest at a stage, and after a serving of phase k, which ends no earlier
rest-step : (p : Problem) (counts : List ℕ) (k t u : ℕ) (c : Cluster) → k < length counts → slice_get (list_at p.lists k) (get_or counts k 0) ≡ Some c → t ≤ u → rest_of p counts t ≤ wait_until t c + rest_of p (one_more counts k) u
rest-step p counts k t u c place e h =
    let more : left_cost p counts t k ≤ wait_until t c + left_cost p (one_more counts k) u k =
    omega (
      arith,
      first-waits t (get_or counts k 0) (list_at p.lists k) c e,
      waits-longer t u h (drop (get_or counts k 0 + 1) (list_at p.lists k)),
      ap (λ i. sum_by (wait_until u) (drop i (list_at p.lists k))) (more-same counts k place),
    )
    in
    more-at (left_cost p counts t) (left_cost p (one_more counts k) u) k (wait_until t c) more
    (λ j other. omega (arith, waits-longer t u h (left_of p counts j), ap (λ i. sum_by (wait_until u) (drop i (list_at p.lists j))) (more-other counts k j other)))
    0 (length p.lists)

-- all clusters of each phase are served
abbrev pub IsAllServed : Problem → List ℕ → Type 0
IsAllServed p counts = (k : ℕ) → get_or counts k 0 ≡ length (list_at p.lists k)

-- then nothing is left to wait
pub no-rest : (p : Problem) (counts : List ℕ) (t : ℕ) → IsAllServed p counts → rest_of p counts t ≡ 0
no-rest p counts t all = none-summed (left_cost p counts t) (λ k. ap (sum_by (wait_until t)) (ap (λ i. drop i (list_at p.lists k)) (all k) ∙ drop-length (list_at p.lists k))) 0 (length p.lists)

-- a step: the rest after it with its cost is no less than the rest before it
pub step-rest : (p : Problem) → IsInstance p → (s t : Stage) (k : ℕ) → length s.counts ≡ 4 → stage_after p s k ≡ Some t → s.delay + rest_of p s.counts s.head.at ≤ t.delay + rest_of p t.counts t.head.at
step-rest p lawful s t k places e = step-begins p s t k e (λ c r ec er same.
    let place : k < length s.counts = omega (arith, stage-after-phase p lawful s t k e, lawful.plan.count.1) in
    let leads = serving-leads p.plan s.head k c r er in
    let less : s.delay + rest_of p s.counts s.head.at ≤ (behind s k r).delay + rest_of p (behind s k r).counts (behind s k r).head.at =
    omega (arith, rest-step p s.counts k s.head.at r.1.at c place ec leads.later, leads.cost)
    in
    subst (λ (x : Stage). s.delay + rest_of p s.counts s.head.at ≤ x.delay + rest_of p x.counts x.head.at) same less)

-- a step keeps the number of places, and leads to a green that is not fresh and to one more served
pub step-places : (p : Problem) (s t : Stage) (k : ℕ) → stage_after p s k ≡ Some t → length t.counts ≡ length s.counts
step-places p s t k e = step-begins p s t k e (λ c r ec er same. ap (λ (x : Stage). length x.counts) (sym same) ∙ length-set s.counts k (get_or s.counts k 0 + 1))

pub step-stale : (p : Problem) (s t : Stage) (k : ℕ) → stage_after p s k ≡ Some t → t.head.fresh ≡ false
step-stale p s t k e = step-begins p s t k e (λ c r ec er same. ap (λ (x : Stage). x.head.fresh) (sym same) ∙ (serving-leads p.plan s.head k c r er).stale)

pub step-served : (p : Problem) → IsInstance p → (s t : Stage) (k : ℕ) → length s.counts ≡ 4 → stage_after p s k ≡ Some t → sum t.counts ≡ sum s.counts + 1
step-served p lawful s t k places e = step-begins p s t k e (λ c r ec er same.
    ap (λ (x : Stage). sum x.counts) (sym same) ∙ sum-one_more s.counts k (omega (arith, stage-after-phase p lawful s t k e, lawful.plan.count.1)))

-- a completion of a stage costs no less than its rest
pub rest-below : (p : Problem) → IsInstance p → (u : List ℕ) (s end : Stage) → length s.counts ≡ 4 → stage_from p s u ≡ Some end → IsAllServed p end.counts → s.delay + rest_of p s.counts s.head.at ≤ end.delay
rest-below p lawful [] s end places e all =
    let same : s ≡ end = some-same s end e in
    subst (λ (x : Stage). x.delay + rest_of p x.counts x.head.at ≤ end.delay) (sym same) (omega (arith, no-rest p end.counts end.head.at all))
rest-below p lawful (k ∷ u) s end places e all = from-begins p s end k u e (λ next en rest.
    omega (arith, step-rest p lawful s next k places en, rest-below p lawful u next end (step-places p s next k en ∙ places) rest all))

-- the rest of a list, cut out of it
rest-whole : (n : ℕ) (cs : List Cluster) → take (length cs - n) (drop n cs) ≡ drop n cs
rest-whole n cs = take_all (length cs - n) (drop n cs) (omega (arith, length-drop n cs))

-- a cluster in a spaced list arrives no earlier than those before it
pub arrives-later : (cs : List Cluster) → IsSpaced cs → (i j : ℕ) → i ≤ j → j < length cs → (cluster_at cs i).arr ≤ (cluster_at cs j).arr
arrives-later cs spaced i zero h inside = omega (arith, ap (λ k. (cluster_at cs k).arr) (let e : i ≡ 0 = omega arith in e))
arrives-later cs spaced i (suc j) h inside = elim (cases_eq i (suc j)) [
  | inl same ↦ omega (arith, ap (λ k. (cluster_at cs k).arr) same)
  | inr other ↦
      let next : (cluster_at cs j).arr + (cluster_at cs j).len ≤ (cluster_at cs (suc j)).arr = subst (λ k. (cluster_at cs j).arr + (cluster_at cs j).len ≤ (cluster_at cs k).arr) (add-one j) (spaced j (omega arith)) in
      omega (arith, next, arrives-later cs spaced i j (omega arith) (omega arith))
]

-- what arrives from t on does not wait until t
none-wait : (t : ℕ) (cs : List Cluster) → ((k : ℕ) → k < length cs → t ≤ (cluster_at cs k).arr) → sum_by (wait_until t) cs ≡ 0
none-wait t [] late = refl
none-wait t (c ∷ cs) late =
    let first : t ≤ c.arr = late 0 (omega arith) in
    let none : wait_until t c ≡ 0 = ap (λ n. c.load * n) (let e : t - c.arr ≡ 0 = omega arith in e) ∙ mul-zero c.load in
    omega (arith, none, sum_by-cons (wait_until t) c cs, none-wait t cs (λ k h. late (suc k) (omega arith)))

-- after the first that arrives from t on, none waits until t
pub late-rest : (t i : ℕ) (cs : List Cluster) (d : Cluster) → IsSpaced cs → i < length cs → t ≤ (get_or cs i d).arr → sum_by (wait_until t) cs ≡ sum_by (wait_until t) (take i cs)
late-rest t i cs d spaced inside late =
    let same : cluster_at cs i ≡ get_or cs i d = get_or_default cs i no_cluster d inside in
    let none : sum_by (wait_until t) (drop i cs) ≡ 0 = none-wait t (drop i cs) (λ k h.
    omega (arith, late, ap (λ (c : Cluster). c.arr) same, ap (λ (c : Cluster). c.arr) (get_or-drop i cs k no_cluster), arrives-later cs spaced i (i + k) (omega arith) (omega (arith, h, length-drop i cs)))) in
    sym (ap (sum_by (wait_until t)) (take-append-drop i cs)) ∙ sum_by-append (wait_until t) (take i cs) (drop i cs) ∙ omega (arith, none)

-- the rest of a spaced list is spaced
pub rest-spaced : (n : ℕ) (cs : List Cluster) → IsSpaced cs → IsSpaced (take (length cs - n) (drop n cs))
rest-spaced n cs spaced = subst IsSpaced (sym (rest-whole n cs)) (λ k h.
    let here : n + k + 1 < length cs = omega (arith, h, length-drop n cs) in
    let one : cluster_at (drop n cs) (k + 1) ≡ cluster_at cs (n + k + 1) = get_or-drop n cs (k + 1) no_cluster ∙ ap (cluster_at cs) (let e : n + (k + 1) ≡ n + k + 1 = omega arith in e) in
    omega (arith, spaced (n + k) here, ap (λ (c : Cluster). c.arr + c.len) (get_or-drop n cs k no_cluster), ap (λ (c : Cluster). c.arr) one))

pub few-rest : (cs : List Cluster) (n : ℕ) → length cs ≤ 40 → length (take (length cs - n) (drop n cs)) ≤ 40
few-rest cs n few = omega (arith, ap length (rest-whole n cs), length-drop n cs)

pub whole-rest : (t n : ℕ) (cs : List Cluster) → sum_by (wait_until t) (take (length cs - n) (drop n cs)) ≡ sum_by (wait_until t) (drop n cs)
whole-rest t n cs = ap (sum_by (wait_until t)) (rest-whole n cs)

-- a sum over the numbers below one more
ranges-more : (f : ℕ → ℕ) (a n : ℕ) → sum_by f (range_with_len a (n + 1)) ≡ sum_by f (range_with_len a n) + f (a + n)
ranges-more f a n = rw add-one (more n a)
  where
    more : (n a : ℕ) → sum_by f (range_with_len a (suc n)) ≡ sum_by f (range_with_len a n) + f (a + n)
    more zero a = sum_by-cons f a [] ∙ omega (arith, ap f (let e : a ≡ a + 0 = omega arith in e))
    more (suc n) a =
        sum_by-cons f a (range_with_len (a + 1) (suc n))
        ∙ omega (arith, more n (a + 1), sum_by-cons f a (range_with_len (a + 1) n), ap f (let e : a + 1 + n ≡ a + suc n = omega arith in e))

pub range-more : (f : ℕ → ℕ) (n sofar next : ℕ) → sofar ≡ sum_by f (range_with_len 0 n) → next ≡ f n → sofar + next ≡ sum_by f (range_with_len 0 (n + 1))
range-more f n sofar next e h = omega (arith, ranges-more f 0 n, ap f (let e : 0 + n ≡ n = omega arith in e))

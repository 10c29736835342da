-- What every fit serving keeps, from the definition of a serving alone.
use Rattle.std.proofs.Common.{◌≡◌, ℕ, ◌+◌, ◌-◌, ◌*◌, ◌<◌, ◌≤◌, Bool, true, false, eqb, leb, ltb, ◌&&◌, max, List, length, Ok, refl, sym, ap, subst, arith}
use Rattle.std.proofs.lemmas.Bool.{cond_both, and_parts, eqb-true, leb-true, leb-false, ltb-false, true≢false}
use Rattle.std.proofs.lemmas.Nat.{mul-le}
use Rattle.phase_plan.specs.Phases.{IsPhase, phase_at}
use Rattle.phase_plan.specs.declared.Phase.{Phase}
use Rattle.switch_rules.specs.Bounds.{greatest_load}
use Rattle.switch_rules.specs.Serving.{IsHead, IsCluster, IsServing, IsTimed, start_in_green, goes_on, earliest_green, head_after, served_from, serving}
use Rattle.switch_rules.specs.declared.Head.{Head}
use Rattle.switch_rules.specs.declared.Cluster.{Cluster}
use Rattle.switch_rules.specs.declared.Served.{Served}

-- no load is greater
pub load_within : (c : Cluster) → IsCluster c → c.load ≤ greatest_load
load_within c h = omega (arith, h.size, h.load)

-- a fit serving of a cluster of phase k from a head, and the head after it: its times and bounds, and how its green stands
-- to that of the head, which goes on, or ends before a new one begins
pub record IsFitServing (plan : List Phase) (head : Head) (k : ℕ) (c : Cluster) (s : Served) (next : Head) : Type 0 where
  pub times : IsTimed plan head k c s
  pub bounds : IsServing plan (s, next)
  pub behind : next ≡ head_after k s
  pub stood : s.kept ≡ true → (k ≡ head.phase) × (s.green ≡ head.since)
  pub anew : s.kept ≡ false → earliest_green plan head k ≤ s.green

-- how a green in which a cluster is served stands to the head before it
record IsGreenAfter (plan : List Phase) (head : Head) (k : ℕ) (green : ℕ) (kept : Bool) : Type 0 where
  pub stood : kept ≡ true → (k ≡ head.phase) × (green ≡ head.since)
  pub anew : kept ≡ false → earliest_green plan head k ≤ green

module _ (plan : List Phase) (head : Head) (k : ℕ) (c : Cluster) (s : Served) (next : Head) where
  -- from this start in this green
  from-start : (p : Phase) (green start : ℕ) (kept : Bool) → p ≡ phase_at plan k → k < length plan → IsPhase p → IsCluster c → head.at ≤ start → green ≤ start → c.arr ≤ start → IsGreenAfter plan head k green kept
      → served_from p k c green start kept ≡ Ok (s, next) → IsFitServing plan head k c s next
  from-start p green start kept same below times bounds later in_green arrived stands =
      let served : Served = record { green = green; start = start; finish = start + c.len; cost = c.load * (start - c.arr); kept = kept } in
      cond_both (ltb (green + p.greatest) (start + c.len)) _ _ (λ r. r ≡ Ok (s, next) → IsFitServing plan head k c s next)
      (λ long e. let impossible : IsFitServing plan head k c s next = cc in impossible)
      (λ short. cond_both (ltb p.wait (start - c.arr)) _ _ (λ r. r ≡ Ok (s, next) → IsFitServing plan head k c s next)
      (λ late e. let impossible : IsFitServing plan head k c s next = cc in impossible)
      (λ early e.
      let behind : Head = record { phase = k; since = green; at = start + c.len; fresh = false } in
      let both : (served, behind) ≡ (s, next) = cc in
      let wait : p.wait ≡ (phase_at plan k).wait = ap (λ (q : Phase). q.wait) same in
      let greatest : p.greatest ≡ (phase_at plan k).greatest = ap (λ (q : Phase). q.greatest) same in
      let in_time = ltb-false p.wait (start - c.arr) early in
      let whole = ltb-false (green + p.greatest) (start + c.len) short in
      let facts : IsFitServing plan head k c served behind = record {
        times = record {
          later = later;
          in_green = in_green;
          arrived = arrived;
          waited = omega (arith, in_time, wait);
          ends = refl;
          within = omega (arith, whole, greatest);
        };
        bounds = record {
          head = record { phase = below; begun = omega arith; within = omega (arith, whole, greatest) };
          finish = omega (arith, in_time, bounds.arr, bounds.len, times.wait);
          cost = mul-le c.load (start - c.arr) greatest_load 3600 (load_within c bounds) (omega (arith, in_time, times.wait));
        };
        behind = refl;
        stood = stands.stood;
        anew = stands.anew;
      } in
      subst (λ (q : Served × Head). IsFitServing plan head k c q.0 q.1) both facts))

start_in_green-later : (p : Phase) (head : Head) (c : Cluster) → (head.at ≤ start_in_green p head c) × (c.arr ≤ start_in_green p head c)
start_in_green-later p head c =
    cond_both (head.fresh && leb c.arr head.at) (max head.at (head.since + p.loss)) (max c.arr head.at) (λ start. (head.at ≤ start) × (c.arr ≤ start))
    (λ e. let waits = leb-true c.arr head.at (and_parts head.fresh (leb c.arr head.at) e).1 in (omega arith, omega (arith, waits)))
    (λ e. (omega arith, omega arith))

-- every fit serving of a cluster of a phase of the plan
pub serving-keeps : (plan : List Phase) (head : Head) (k : ℕ) (c : Cluster) (s : Served) (next : Head) → k < length plan → IsPhase (phase_at plan k) → IsHead plan head → IsCluster c
    → serving plan head k c ≡ Ok (s, next) → IsFitServing plan head k c s next
serving-keeps plan head k c s next below times h bounds =
    let p = phase_at plan k in
    let earliest = earliest_green plan head k in
    let start = start_in_green p head c in
    let later = start_in_green-later p head c in
    let anew = λ (green : ℕ) (after : earliest ≤ green). let stands : IsGreenAfter plan head k green false = record { stood = λ e. absurd (true≢false (sym e)); anew = λ e. after } in stands in
    cond_both (goes_on p head k c) _ _ (λ r. r ≡ Ok (s, next) → IsFitServing plan head k c s next)
    (λ on e.
    let same = eqb-true k head.phase (and_parts (eqb k head.phase) (leb (start + c.len) (head.since + p.greatest)) on).0 in
    from-start plan head k c s next p head.since start true refl below times bounds later.0 (omega (arith, later.0, h.begun)) later.1
    (record { stood = λ e. (same, refl); anew = λ e. absurd (true≢false e) }) e)
    (λ off. cond_both (leb c.arr earliest) _ _ (λ r. r ≡ Ok (s, next) → IsFitServing plan head k c s next)
    (λ waits e.
    let early = leb-true c.arr earliest waits in
    from-start plan head k c s next p earliest (earliest + p.loss) false refl below times bounds (omega arith) (omega arith) (omega (arith, early)) (anew earliest (omega arith)) e)
    (λ comes e.
    let behind = leb-false c.arr earliest comes in
    from-start plan head k c s next p c.arr c.arr false refl below times bounds (omega (arith, behind)) (omega arith) (omega arith) (anew c.arr (omega (arith, behind))) e))

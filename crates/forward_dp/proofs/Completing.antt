-- What completes a stage at the least cost, phase by phase.
use Rattle.std.proofs.Common.{◌≡◌, ℕ, zero, suc, ◌+◌, ◌-◌, ◌*◌, ◌^◌, ◌<◌, ◌≤◌, ◌⊎◌, List, [], ◌∷◌, ◌++◌, length, get_or, sum, All, Contains, Option, Some, None, IfSome, refl, sym, ap, subst, ◌∙◌, inl, inr, length-append, arith}
use Rattle.std.proofs.Math.Nat.{mul-le-mul_right}
use Rattle.std.proofs.lemmas.Bool.{cases_eq, cases_lt}
use Rattle.std.proofs.lemmas.List.{get_or_append_left, get_or_default}
use Rattle.std.proofs.lemmas.List.Elements.{All-head, All-tail}
use Rattle.std.proofs.lemmas.Option.{none-some, slice_get_within}
use Rattle.schedule_meaning.specs.Instances.{Problem, IsInstance, counts_of, list_at}
use Rattle.schedule_meaning.proofs.Sequences.{get_or-counts}
use Rattle.dp_certificate.specs.Certificates.{AreRising, IsBefore, digits_of, entry_at, no_entry}
use Rattle.dp_certificate.specs.NextEntry.{stage_of_next}
use Rattle.dp_certificate.specs.Prefixes.{Key, Stage, first_stage, key_of, one_more, stage_after, stage_from, stage_of}
use Rattle.dp_certificate.specs.Proves.{HasEntry, key_of_entry, stage_of_entry}
use Rattle.dp_certificate.specs.Whole.{IsOfPrefix, IsWhole}
use Rattle.dp_certificate.specs.declared.Entry.{Entry}
use Rattle.dp_certificate.proofs.Stages.{from-begins, from-none, from-phases, from-some, some-same, stage-after-phase, stage-alike, stage-push, step-begins}
use Rattle.forward_dp.specs.Completions.{AreCompletions, BeginsBelow, Completes, Follows, IsAfter, IsBestBelow, IsBetter, IsCheapest, IsCompletion, IsFollowed, IsNever, completion_at, cost_of}
use Rattle.forward_dp.specs.Numbers.{order_number}
use Rattle.forward_dp.specs.declared.completions.Completion.{Completion}
use Rattle.forward_dp.specs.declared.completions.Completion.TheVariants.{Never, Complete, By}
use Rattle.forward_dp.proofs.Bounds.{IsStage, from-bounds, stage-after-bounds, stage-bounds, stage-few, sum-le}
use Rattle.forward_dp.proofs.OrderLaws.{order-below, order-cons}
use Rattle.forward_dp.proofs.RowLaws.{entry-stage}

-- a stage with another delay
abbrev pub with_delay : Stage → ℕ → Stage
with_delay s d = record { counts = s.counts; head = s.head; delay = d }

-- the delay so far changes nothing but the delay
from-alike : (p : Problem) (u : List ℕ) (s t : Stage) (d : ℕ) → stage_from p s u ≡ Some t → (c : ℕ) × (t.delay ≡ s.delay + c) × (stage_from p (with_delay s d) u ≡ Some (with_delay t (d + c)))
from-alike p [] s t d e =
    let same : s ≡ t = some-same s t e in
    (0, omega (arith, ap (λ (x : Stage). x.delay) same), ap (λ (x : Stage). let o : Option Stage = Some (with_delay x d) in o) same ∙ ap (λ n. let o : Option Stage = Some (with_delay t n) in o) (let z : d ≡ d + 0 = omega arith in z))
from-alike p (k ∷ u) s t d e = from-begins p s t k u e (λ next en rest.
    let one = stage-alike p s d k next en in
    let more = from-alike p u next t (d + one.0) rest in (
      one.0 + more.0,
      omega (arith, one.1, more.1),
      from-some p (with_delay s d) (with_delay next (d + one.0)) k u one.2 ∙ more.2 ∙ ap (λ n. let o : Option Stage = Some (with_delay t n) in o) (let z : d + one.0 + more.0 ≡ d + (one.0 + more.0) = omega arith in z),
    ))

-- what completes a stage completes it with another delay, at the same cost
completes-alike : (p : Problem) (s : Stage) (d : ℕ) (rest : List ℕ) (cost : ℕ) → Completes p s rest cost → Completes p (with_delay s d) rest cost
completes-alike p s d rest cost c =
    let there = from-alike p rest s c.end d c.leads in
    record { end = with_delay c.end (d + there.0); leads = there.2; delay = omega (arith, there.1, c.delay); all = c.all }

-- the first serving and the others
record AreParted (p : Problem) (t : Stage) (from : ℕ) (ks : List ℕ) (cost : ℕ) : Type 0 where
  step : ℕ
  left : ℕ
  rise : t.delay ≡ from + step
  total : cost ≡ step + left
  others : Completes p t ks left

parted : (p : Problem) (s t : Stage) (k : ℕ) (ks : List ℕ) (cost : ℕ) → stage_after p s k ≡ Some t → Completes p s (k ∷ ks) cost → AreParted p t s.delay ks cost
parted p s t k ks cost e c =
    let leads : stage_from p t ks ≡ Some c.end = sym (from-some p s t k ks e) ∙ c.leads in
    let one = stage-alike p s 0 k t e in
    let more = from-alike p ks t c.end 0 leads in
    record {
      step = one.0;
      left = more.0;
      rise = one.1;
      total = omega (arith, one.1, more.1, c.delay);
      others = record { end = c.end; leads = leads; delay = more.1; all = c.all };
    }

put-together : (p : Problem) (s t : Stage) (k : ℕ) (ks : List ℕ) (step left : ℕ) → stage_after p s k ≡ Some t → t.delay ≡ s.delay + step → Completes p t ks left → Completes p s (k ∷ ks) (step + left)
put-together p s t k ks step left e rise c = record { end = c.end; leads = from-some p s t k ks e ∙ c.leads; delay = omega (arith, c.delay, rise); all = c.all }

-- where a phase has no fit serving nothing begins with it
none-begins : (p : Problem) (s : Stage) (k : ℕ) (ks : List ℕ) (cost : ℕ) → stage_after p s k ≡ None → Completes p s (k ∷ ks) cost → ⊥
none-begins p s k ks cost e c = none-some c.end (sym (from-none p s k ks e) ∙ c.leads)

-- ---- of a stage within its bounds

-- two that complete it have as many phases
as-long : (p : Problem) → IsInstance p → (n : ℕ) (s : Stage) → IsStage p n s → (xs ys : List ℕ) (c d : ℕ) → Completes p s xs c → Completes p s ys d → length xs ≡ length ys
as-long p lawful n s stage xs ys c d first second =
    let a : IsStage p (n + length xs) first.end = from-bounds p lawful xs n (n + length xs) s first.end refl stage first.leads in
    let b : IsStage p (n + length ys) second.end = from-bounds p lawful ys n (n + length ys) s second.end refl stage second.leads in
    let same : (k : ℕ) → get_or first.end.counts k 0 ≡ get_or second.end.counts k 0 = λ k. first.all k ∙ sym (second.all k) in
    omega (arith, a.total, b.total, sum-le first.end.counts second.end.counts (λ k. omega (arith, same k)), sum-le second.end.counts first.end.counts (λ k. omega (arith, same k)))

below-four : (p : Problem) → IsInstance p → (s : Stage) (rest : List ℕ) (cost : ℕ) → Completes p s rest cost → All (λ k. k < 4) rest
below-four p lawful s rest cost c = λ k d h. omega (arith, from-phases p lawful rest s c.end c.leads k d h, lawful.plan.count.1)

-- it costs little
pub completes-few : (p : Problem) → IsInstance p → (n : ℕ) (s : Stage) → IsStage p n s → (rest : List ℕ) (cost : ℕ) → Completes p s rest cost → (cost ≤ 57600000000000) × (n + length rest ≤ 40)
completes-few p lawful n s stage rest cost c =
    let a : IsStage p (n + length rest) c.end = from-bounds p lawful rest n (n + length rest) s c.end refl stage c.leads in
    let few : n + length rest ≤ 40 = omega (arith, stage-few p lawful (n + length rest) c.end a, lawful.few) in
    (omega (arith, a.delay, few, c.delay), few)

-- of two with as many phases the one with the lesser first phase comes first
order-first : (j k : ℕ) (js ks : List ℕ) → j < k → length js ≡ length ks → All (λ i. i < 4) js → order_number (j ∷ js) ≤ order_number (k ∷ ks)
order-first j k js ks less long below =
    let more : (j + 1) * 4 ^ length js ≤ k * 4 ^ length js = mul-le-mul_right (4 ^ length js) (omega arith) in
    let same : k * 4 ^ length js ≡ k * 4 ^ length ks = ap (λ n. k * 4 ^ n) long in
    omega (arith, order-cons j js, order-cons k ks, order-below js below, more, same)

order-same : (k : ℕ) (js ks : List ℕ) → length js ≡ length ks → order_number js ≤ order_number ks → order_number (k ∷ js) ≤ order_number (k ∷ ks)
order-same k js ks long less =
    let same : k * 4 ^ length js ≡ k * 4 ^ length ks = ap (λ n. k * 4 ^ n) long in
    omega (arith, order-cons k js, order-cons k ks, less, same)

-- ---- before any phase

pub begin-complete : (p : Problem) (all : List Completion) (s : Stage) → ((k : ℕ) → get_or s.counts k 0 ≡ length (list_at p.lists k)) → IsBestBelow p all s 0 Complete
begin-complete p all s served = inr (record {
  rest = [];
  cost = 0;
  value = refl;
  follows = refl;
  completes = record { end = s; leads = refl; delay = omega arith; all = served };
  begins = tt;
  least = λ other d c begins. none other d c begins;
})
  where
    none : (other : List ℕ) (d : ℕ) → Completes p s other d → BeginsBelow 0 other → (0 < d) ⊎ ((0 ≡ d) × (order_number [] ≤ order_number other))
    none [] d c begins = elim (cases_eq 0 d) [ inl same ↦ inr (same, omega arith) | inr other ↦ inl (omega arith) ]
    none (k ∷ ks) d c begins = absurd (omega arith)

pub begin-never : (p : Problem) (all : List Completion) (s : Stage) → (((k : ℕ) → get_or s.counts k 0 ≡ length (list_at p.lists k)) → ⊥) → IsBestBelow p all s 0 Never
begin-never p all s left = inl (record { value = refl; none = none })
  where
    none : (other : List ℕ) (d : ℕ) → Completes p s other d → BeginsBelow 0 other → ⊥
    none [] d c begins = left (λ k. ap (λ (t : Stage). get_or t.counts k 0) (some-same s c.end c.leads) ∙ c.all k)
    none (k ∷ ks) d c begins = omega arith

-- ---- one phase more

-- what begins below a number or with it
begins-cases : {P : Type 0} (n : ℕ) (other : List ℕ) → BeginsBelow (n + 1) other → (BeginsBelow n other → P) → ((ks : List ℕ) → other ≡ n ∷ ks → P) → P
begins-cases n [] begins below here = below tt
begins-cases n (k ∷ ks) begins below here = elim (cases_eq k n) [
  | inl same ↦ here ks (ap (λ j. j ∷ ks) same)
  | inr other ↦ below (omega arith)
]

begins-more : (n : ℕ) (rest : List ℕ) → BeginsBelow n rest → BeginsBelow (n + 1) rest
begins-more n [] begins = tt
begins-more n (k ∷ ks) begins = omega arith

-- nothing that begins with the phase is better
keep : (p : Problem) (all : List Completion) (s : Stage) (n : ℕ) (c : Completion) → ((rest : List ℕ) (cost : ℕ) → cost_of c ≡ Some cost → Completes p s rest cost → BeginsBelow n rest → (ks : List ℕ) (d : ℕ) → Completes p s (n ∷ ks) d → (cost < d) ⊎ ((cost ≡ d) × (order_number rest ≤ order_number (n ∷ ks))))
    → (cost_of c ≡ None → (ks : List ℕ) (d : ℕ) → Completes p s (n ∷ ks) d → ⊥) → IsBestBelow p all s n c → IsBestBelow p all s (n + 1) c
keep p all s n c worse none (inl never) = inl (record {
  value = never.value;
  none = λ other d o begins. begins-cases n other begins (λ below. never.none other d o below) (λ ks is. none never.value ks d (subst (λ xs. Completes p s xs d) is o));
})
keep p all s n c worse none (inr best) = inr (record {
  rest = best.rest;
  cost = best.cost;
  value = best.value;
  follows = best.follows;
  completes = best.completes;
  begins = begins-more n best.rest best.begins;
  least = λ other d o begins. begins-cases n other begins (λ below. best.least other d o below) (λ ks is.
      subst (λ xs. (best.cost < d) ⊎ ((best.cost ≡ d) × (order_number best.rest ≤ order_number xs))) (sym is) (worse best.rest best.cost best.value best.completes best.begins ks d (subst (λ xs. Completes p s xs d) is o)));
})

-- the phase has no fit serving
pub keep-unfit : (p : Problem) (all : List Completion) (s : Stage) (n : ℕ) (c : Completion) → stage_after p s n ≡ None → IsBestBelow p all s n c → IsBestBelow p all s (n + 1) c
keep-unfit p all s n c unfit best = keep p all s n c (λ rest cost v o begins ks d other. absurd (none-begins p s n ks d unfit other)) (λ v ks d other. none-begins p s n ks d unfit other) best

-- what completes a stage begins with a phase of the plan
pub begins-all : (p : Problem) → IsInstance p → (s : Stage) (rest : List ℕ) (cost : ℕ) → Completes p s rest cost → BeginsBelow (length p.plan) rest
begins-all p lawful s [] cost c = tt
begins-all p lawful s (k ∷ ks) cost c = from-begins p s c.end k ks c.leads (λ next en rest. stage-after-phase p lawful s next k en)

-- ---- a phase with a fit serving, whose stage has an entry of another delay

module _ (p : Problem) (lawful : IsInstance p) (n : ℕ) (s : Stage) (stage : IsStage p n s) (k : ℕ) (t : Stage) (step : stage_after p s k ≡ Some t) (cost : ℕ) (rise : t.delay ≡ s.delay + cost)
    (all : List Completion) (d : ℕ) (far : ℕ) (inside : far < length all) (rest : Completion) (there : completion_at all far ≡ rest) (best result : Completion) (better : IsBetter best k cost far rest result) where
  after-stage : IsStage p (n + 1) t
  after-stage = stage-after-bounds p lawful n s t k stage step

  -- nothing completes the entry
  step-never : IsNever p (with_delay t d) (length p.plan) rest → IsBestBelow p all s k best → IsBestBelow p all s (k + 1) result
  step-never never so =
      subst (IsBestBelow p all s (k + 1)) (sym (better.never never.value))
      (keep p all s k best (λ r c v o begins ks e other. absurd (none ks e other)) (λ v ks e other. none ks e other) so)
    where
      none : (ks : List ℕ) (e : ℕ) → Completes p s (k ∷ ks) e → ⊥
      none ks e other =
          let parts = parted p s t k ks e step other in
          let alike = completes-alike p t d ks parts.left parts.others in
          never.none ks parts.left alike (begins-all p lawful (with_delay t d) ks parts.left alike)

  module _ (cheap : IsCheapest p all (with_delay t d) (length p.plan) rest) where
    back : (ks : List ℕ) (e : ℕ) → Completes p (with_delay t d) ks e → Completes p t ks e
    back ks e c = completes-alike p (with_delay t d) t.delay ks e c

    whole : Completes p s (k ∷ cheap.rest) (cost + cheap.cost)
    whole = put-together p s t k cheap.rest cost cheap.cost step rise (back cheap.rest cheap.cost cheap.completes)

    -- what begins with the phase is no better
    no-better : (ks : List ℕ) (e : ℕ) → Completes p s (k ∷ ks) e → (cost + cheap.cost < e) ⊎ ((cost + cheap.cost ≡ e) × (order_number (k ∷ cheap.rest) ≤ order_number (k ∷ ks)))
    no-better ks e other =
        let parts = parted p s t k ks e step other in
        let alike = completes-alike p t d ks parts.left parts.others in
        let long : length cheap.rest ≡ length ks = as-long p lawful (n + 1) t after-stage cheap.rest ks cheap.cost parts.left (back cheap.rest cheap.cost cheap.completes) parts.others in
        elim (cheap.least ks parts.left alike (begins-all p lawful (with_delay t d) ks parts.left alike)) [
          | inl less ↦ inl (omega (arith, less, parts.total, parts.rise, rise))
          | inr same ↦ inr (omega (arith, same.0, parts.total, parts.rise, rise), order-same k cheap.rest ks long same.1)
        ]

    -- the phase gives the cheapest
    goes : result ≡ By (cost + cheap.cost) k far → ((other : List ℕ) (e : ℕ) → Completes p s other e → BeginsBelow k other → cost + cheap.cost < e) → IsBestBelow p all s (k + 1) result
    goes is above = subst (IsBestBelow p all s (k + 1)) (sym is) (inr (record {
      rest = k ∷ cheap.rest;
      cost = cost + cheap.cost;
      value = refl;
      follows = (refl, refl, inside, cheap.cost, subst (λ c. Follows all c cheap.rest cheap.cost) (sym there) cheap.follows);
      completes = whole;
      begins = omega arith;
      least = λ other e o begins. begins-cases k other begins (λ below. inl (above other e o below)) (λ ks same.
          subst (λ xs. (cost + cheap.cost < e) ⊎ ((cost + cheap.cost ≡ e) × (order_number (k ∷ cheap.rest) ≤ order_number xs))) (sym same) (no-better ks e (subst (λ xs. Completes p s xs e) same o)));
    }))

    -- what begins below the phase comes first
    earlier : (r : List ℕ) (c : ℕ) → Completes p s r c → BeginsBelow k r → (ks : List ℕ) (e : ℕ) → Completes p s (k ∷ ks) e → order_number r ≤ order_number (k ∷ ks)
    earlier [] c o begins ks e other = (let long = as-long p lawful n s stage [] (k ∷ ks) c e o other in absurd (omega arith))
    earlier (j ∷ js) c o begins ks e other =
        let long : length (j ∷ js) ≡ length (k ∷ ks) = as-long p lawful n s stage (j ∷ js) (k ∷ ks) c e o other in
        order-first j k js ks begins (omega arith) (All-tail (λ i. i < 4) j js (below-four p lawful s (j ∷ js) c o))

    stays : (least : ℕ) → cost_of best ≡ Some least → least ≤ cost + cheap.cost → (r : List ℕ) (c : ℕ) → cost_of best ≡ Some c → Completes p s r c → BeginsBelow k r → (ks : List ℕ) (e : ℕ) → Completes p s (k ∷ ks) e → (c < e) ⊎ ((c ≡ e) × (order_number r ≤ order_number (k ∷ ks)))
    stays least value low r c v o begins ks e other =
        let same : c ≡ least = some-value c least (sym v ∙ value) in
        elim (no-better ks e other) [
          | inl more ↦ inl (omega arith)
          | inr equal ↦ elim (cases_lt c e) [
            | inl less ↦ inl less
            | inr up ↦ inr (omega (arith, equal.0), earlier r c o begins ks e other)
          ]
        ]
      where
        some-value : (a b : ℕ) → Some a ≡ Some b → a ≡ b
        some-value a b e = cc

    step-cheap : IsBestBelow p all s k best → IsBestBelow p all s (k + 1) result
    step-cheap (inl never) = goes (better.first cheap.cost cheap.value never.value) (λ other e o below. absurd (never.none other e o below))
    step-cheap (inr so) = elim (cases_lt (cost + cheap.cost) so.cost) [
      | inl less ↦ goes (better.less cheap.cost so.cost cheap.value so.value less) (λ other e o below. elim (so.least other e o below) [ inl more ↦ omega arith | inr same ↦ omega (arith, same.0) ])
      | inr low ↦
          subst (IsBestBelow p all s (k + 1)) (sym (better.stays cheap.cost so.cost cheap.value so.value low))
          (keep p all s k best (stays so.cost so.value low) (λ v ks e other. absurd (none-some so.cost (sym v ∙ so.value))) (inr so))
    ]

  pub step-best : IsCompletion p all (with_delay t d) rest → IsBestBelow p all s k best → IsBestBelow p all s (k + 1) result
  step-best (inl never) so = step-never never so
  step-best (inr cheap) so = step-cheap cheap so

-- What the best answer of an instance serves.
use Rattle.std.proofs.Common.{◌≡◌, ℕ, ◌+◌, ◌<◌, ◌≤◌, List, [], ◌∷◌, All, length, sum, Some, sym, ap, subst, arith}
use Rattle.std.specs.Option.{option_map}
use Rattle.std.proofs.lemmas.List.Elements.{All-cons, All-nil}
use Rattle.foundation.proofs.OptionLaws.{option-cases}
use Rattle.phase_plan.specs.Phases.{IsRing}
use Rattle.phase_plan.specs.declared.Phase.{Phase}
use Rattle.phase_plan.proofs.RingLaws.{phase-bounds}
use Rattle.switch_rules.specs.Orders.{one_less}
use Rattle.switch_rules.specs.Sequences.{AreNextServings}
use Rattle.switch_rules.specs.Serving.{IsCluster, IsHead, head_after}
use Rattle.switch_rules.specs.declared.Cluster.{Cluster}
use Rattle.switch_rules.specs.declared.Head.{Head}
use Rattle.switch_rules.specs.declared.Served.{Served}
use Rattle.switch_rules.proofs.Counting.{sum-one_less}
use Rattle.switch_rules.proofs.SequenceLaws.{listed-next, next-left, next-within, timed-next}
use Rattle.switch_rules.proofs.ServingLaws.{serving-keeps}
use Rattle.schedule_meaning.specs.Best.{IsBest}
use Rattle.schedule_meaning.specs.Instances.{IsInstance, Problem, counts_of}
use Rattle.schedule_meaning.specs.Timing.{delay_of, timed, total_cost}
use Rattle.schedule_meaning.specs.declared.planners.Answer.{Answer}
use Rattle.schedule_meaning.specs.declared.planners.Answer.TheVariants.{Plan, NoPlan}
use Rattle.intersection_actor.specs.Commits.{AreServedBy, phases_of}
use Rattle.intersection_actor.specs.Steps.{ArriveBy, IsScheduled}

-- each serving takes one cluster of those left
served-few : (plan : List Phase) (lists : List (List Cluster)) (ks left : List ℕ) (head : Head) (ss : List Served) → AreNextServings plan lists left head ks ss → length ks ≤ sum left
served-few plan lists [] left head ss next = omega arith
served-few plan lists (k ∷ ks) left head [] next = absurd next
served-few plan lists (k ∷ ks) left head (s ∷ ss) next =
    let one = next.0 in
    let some = next-left lists left k one.cluster one.next in
    omega (arith, sum-one_less left k some, served-few plan lists ks (one_less left k) (head_after k s) ss next.1)

-- greens begin no later than clusters arrive and may wait
module _ (plan : List Phase) (lists : List (List Cluster)) (p : IsRing plan) (each : length lists ≡ length plan) (bounds : All (All IsCluster) lists) (n : ℕ) (soon : ArriveBy n lists) where
  pub greens-by : (ks left : List ℕ) (head : Head) (ss : List Served) → IsHead plan head → n + 3600 ≤ 100000 → AreNextServings plan lists left head ks ss → All (λ (s : Served). s.green ≤ 100000) ss
  greens-by [] left head [] h few next = All-nil (λ (s : Served). s.green ≤ 100000)
  greens-by [] left head (s ∷ ss) h few next = absurd next
  greens-by (k ∷ ks) left head [] h few next = absurd next
  greens-by (k ∷ ks) left head (s ∷ ss) h few next =
      let one = next.0 in
      let within = next-within IsCluster lists left k one.cluster bounds one.next in
      let by = next-within (λ (c : Cluster). c.arr ≤ n) lists left k one.cluster soon one.next in
      let below : k < length plan = omega (arith, each, within.0) in
      let times = phase-bounds plan k p below in
      let keeps = serving-keeps plan head k one.cluster s (head_after k s) below times h within.1 one.fit in
      let early : s.green ≤ 100000 = omega (arith, keeps.times.in_green, keeps.times.waited, by.1, times.wait, few) in
      All-cons (λ (x : Served). x.green ≤ 100000) s ss early (greens-by ks (one_less left k) (head_after k s) ss keeps.bounds.head few next.1)

-- a feasible sequence is short
pub feasible-short : (p : Problem) (sequence : List ℕ) (delay : ℕ) → IsInstance p → delay_of p sequence ≡ Some delay → length sequence < 4294967296
feasible-short p sequence delay instance_is e =
    option-cases (timed p sequence)
    (λ none. let gone = ap (option_map (λ (t : List Served × Head). total_cost t.0)) none in absurd (cc))
    (λ t et.
    let next = timed-next p.plan p.lists instance_is.plan instance_is.lists instance_is.clusters sequence (counts_of p.lists) p.head t instance_is.head et in
    omega (arith, served-few p.plan p.lists sequence (counts_of p.lists) p.head t.0 next, instance_is.few))

pub best-short : (p : Problem) (answer : Answer) (sequence : List ℕ) (delay : ℕ) → IsInstance p → IsBest p answer → answer ≡ Plan sequence delay → length sequence < 4294967296
best-short p answer sequence delay instance_is best e = feasible-short p sequence delay instance_is (subst (IsBest p) e best).feasible

answer-next : (p : Problem) → IsInstance p → (answer : Answer) (served : List Served) → AreServedBy p answer served → AreNextServings p.plan p.lists (counts_of p.lists) p.head (phases_of answer) served
answer-next p instance_is (Plan sequence delay) served are = listed-next p.plan p.lists instance_is.plan instance_is.lists instance_is.clusters sequence (counts_of p.lists) p.head served instance_is.head are
answer-next p instance_is NoPlan served are = subst (AreNextServings p.plan p.lists (counts_of p.lists) p.head []) (sym are) tt

pub schedule-made : (p : Problem) (answer : Answer) (phases : List ℕ) (served : List Served) → IsInstance p → IsBest p answer → phases ≡ phases_of answer → AreServedBy p answer served
    → IsScheduled p (record { answer = answer; phases = phases; served = served })
schedule-made p answer phases served instance_is best e are = record {
  best = best;
  phases = e;
  served = are;
  next = subst (λ ks. AreNextServings p.plan p.lists (counts_of p.lists) p.head ks served) (sym e) (answer-next p instance_is answer served are);
}

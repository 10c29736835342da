-- No plan of an instance has more than the greatest delay.
use Rattle.std.proofs.Common.{◌≡◌, ℕ, ◌+◌, ◌<◌, ◌≤◌, List, [], ◌∷◌, length, Some, sum, ◌==◌, sym, ap, subst, ◌∙◌, arith}
use Rattle.std.specs.Option.{option_map}
use Rattle.std.proofs.lemmas.Option.{cond_some}
use Rattle.std.proofs.lemmas.List.Sums.{sum_by-cons}
use Rattle.foundation.proofs.OptionLaws.{option-cases}
use Rattle.phase_plan.proofs.RingLaws.{phase-bounds}
use Rattle.switch_rules.specs.Bounds.{greatest_delay}
use Rattle.switch_rules.specs.Orders.{one_less}
use Rattle.switch_rules.specs.Serving.{IsCluster}
use Rattle.switch_rules.specs.declared.Head.{Head}
use Rattle.switch_rules.specs.declared.Served.{Served}
use Rattle.switch_rules.proofs.SequenceLaws.{next-left, next-within, timed-begins, timed-fit}
use Rattle.switch_rules.proofs.ServingLaws.{serving-keeps}
use Rattle.schedule_meaning.specs.Best.{IsLeast}
use Rattle.schedule_meaning.specs.Instances.{Problem, IsInstance, counts_of}
use Rattle.schedule_meaning.specs.Timing.{IsUnderWay, timed, timed_from, total_cost}
use Rattle.schedule_meaning.specs.declared.planners.Answer.{Answer}
use Rattle.schedule_meaning.specs.declared.planners.Answer.TheVariants.{Plan, NoPlan}
use Rattle.schedule_meaning.proofs.Sequences.{under-way-fit, under-way-start}
use Rattle.runs.specs.Tallies.{planned_delay}

same_Some : {X : Type 0} (x y : X) → Some x ≡ Some y → x ≡ y
same_Some x y e = cc

module _ (p : Problem) (lawful : IsInstance p) where
  -- what follows a sequence on its way
  costs : (ks left : List ℕ) (head : Head) (delay : ℕ) (t : List Served × Head) → IsUnderWay p left head delay → timed_from p left head ks ≡ Some t → delay + total_cost t.0 ≤ greatest_delay
  costs [] left head delay t way e =
      let over : ([], head) ≡ t = (cond_some (sum left == 0) ([], head) t e).1 in
      subst (λ (r : List Served × Head). delay + total_cost r.0 ≤ greatest_delay) over (omega (arith, way.delay))
  costs (k ∷ ks) left head delay t way e = timed-begins p.plan p.lists left head k ks t e (λ c s rest ec es er.
      let within = next-within IsCluster p.lists left k c lawful.clusters ec in
      let below : k < length p.plan = omega (arith, lawful.lists, within.0) in
      let keeps = serving-keeps p.plan head k c s.0 s.1 below (phase-bounds p.plan k lawful.plan below) way.head within.1 es in
      let on = under-way-fit p left head delay k s way (next-left p.lists left k c ec) keeps.bounds in
      let later = costs ks (one_less left k) s.1 (delay + s.0.cost) rest on er in
      let whole : List Served × Head = (s.0 ∷ rest.0, rest.1) in
      let both : Some t ≡ Some whole = sym e ∙ timed-fit p.plan p.lists left head k ks c s ec es ∙ ap (option_map (λ (r : List Served × Head). (s.0 ∷ r.0, r.1))) er in
      let same : t ≡ whole = same_Some t whole both in
      subst (λ (r : List Served × Head). delay + total_cost r.0 ≤ greatest_delay) (sym same) (omega (arith, later, sum_by-cons (λ (s : Served). s.cost) s.0 rest.0)))

  -- the delay of a plan
  pub delay-le : (answer : Answer) → IsLeast p answer → planned_delay answer ≤ greatest_delay
  delay-le NoPlan least = omega arith
  delay-le (Plan sequence delay) least =
      option-cases (timed p sequence)
      (λ none. let gone = ap (option_map (λ (t : List Served × Head). total_cost t.0)) none in absurd (let e = least.0 in cc))
      (λ t et.
      let both : Some (total_cost t.0) ≡ Some delay = sym (ap (option_map (λ (r : List Served × Head). total_cost r.0)) et) ∙ least.0 in
      let same : total_cost t.0 ≡ delay = same_Some (total_cost t.0) delay both in
      omega (arith, costs sequence (counts_of p.lists) p.head 0 t (under-way-start p lawful) et, same))

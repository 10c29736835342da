use Rattle.std.proofs.Common.{◌≡◌, ◌+◌, ◌-◌, ◌<◌, [], ◌∷◌, ◌++◌, Some, Ok, length, vec_len, get_or, set, sum, sym, ap, subst, ◌∙◌, arith}
use Rattle.std.specs.List.{flat_map, range_with_len}
use Rattle.switch_rules.specs.Serving.{serving, IsServing}
use Rattle.switch_rules.specs.Orders.{one_less, orders}
use Rattle.switch_rules.proofs.Counting.{sum-one_less}
use Rattle.schedule_meaning.specs.Timing.{IsUnderWay, next_cluster}
use Rattle.schedule_meaning.specs.Choice.{best_after}
use Rattle.schedule_meaning.proofs.Sequences.{under-way-fit, result-cases}
use Rattle.schedule_meaning.proofs.Choosing.{beginning_with, Reaches, orders-begin, reaches-fit, reaches-unfit, step-none, step-unfit, step-fit, raised-again, popped}
use Rattle.schedule_meaning.proofs.planners.+walk_on.Goals as goal
use Rattle.schedule_meaning.proofs.planners.+walk_on.Goals.{in-Ok+in_ok-push+in_ok-walk_on, in_default}

pub loop-phase-preserved-then-left-phase-eq0 : goal.loop-phase-preserved-then-left-phase-eq0
loop-phase-preserved-then-left-phase-eq0 g t c = record {
  left = c.loop-phase.invariant.left;
  sequence = c.loop-phase.invariant.sequence;
  best = step-none c.args.i.now c.args.sequence.now.items c.args.left.now c.args.best.now c.loop-phase.best c.loop-phase.phase c.loop-phase.invariant.best
      (ap (λ left. get_or left c.loop-phase.phase 0) (sym c.loop-phase.invariant.left) ∙ c.if-left-phase-eq0.true);
}

pub walk_on-requires : goal.walk_on-requires
walk_on-requires g t c κs outlives =
    let p = c.args.i.now in
    let left = c.args.left.now in
    let k = c.loop-phase.phase in
    let same = c.loop-phase.invariant.left in
    let some : 0 < get_or left k 0 = subst (λ l. 0 < get_or l k 0) same (omega arith) in
    let plan = c.plan-in-loop-phase.ensures.value in
    let next = subst (λ l. next_cluster p.lists l k ≡ Some c.next_cluster-cluster.result.now) same c.next_cluster-cluster.ensures.value in
    let fit : serving p.plan c.args.head k c.next_cluster-cluster.result.now ≡ Ok (c.in-Ok.served, c.in-Ok.next) =
    sym (c.in-Ok.ensures.value ∙ ap (λ plan. serving plan c.args.head k c.next_cluster-cluster.result.now) plan) in
    let lower : set c.loop-phase.left k (get_or c.loop-phase.left k 0 - 1) ≡ one_less left k = ap (λ l. one_less l k) same in
    let pushed : c.push.new.self.items ≡ c.args.sequence.now.items ++ k ∷ [] = c.in_ok-push.ensures.items ∙ ap (λ xs. xs ++ k ∷ []) c.loop-phase.invariant.sequence in
    let way = subst (λ l. IsUnderWay p l c.in-Ok.next (c.args.delay + c.in-Ok.served.cost)) (sym lower)
    (under-way-fit p left c.args.head c.args.delay k (c.in-Ok.served, c.in-Ok.next) c.requires.way some (subst (λ plan. IsServing plan (c.in-Ok.served, c.in-Ok.next)) plan c.in-Ok.ensures.bounds)) in
    let reached = subst (λ l. Reaches p c.push.new.self.items l c.in-Ok.next (c.args.delay + c.in-Ok.served.cost)) (sym lower)
    (subst (λ prefix. Reaches p prefix (one_less left k) c.in-Ok.next (c.args.delay + c.in-Ok.served.cost)) (sym pushed)
    (reaches-fit p c.args.sequence.now.items left c.args.head c.args.delay k c.next_cluster-cluster.result.now (c.in-Ok.served, c.in-Ok.next) c.requires.reached next fit)) in
    (omega (arith, ap sum lower, sum-one_less left k some), (outlives, (way, reached)))

pub loop-phase-preserved : goal.loop-phase-preserved
loop-phase-preserved g t c =
    let p = c.args.i.now in
    let left = c.args.left.now in
    let prefix = c.args.sequence.now.items in
    let k = c.loop-phase.phase in
    let same = c.loop-phase.invariant.left in
    let some : 0 < get_or left k 0 = subst (λ l. 0 < get_or l k 0) same (omega arith) in
    let plan = c.plan-in-loop-phase.ensures.value in
    let next = subst (λ l. next_cluster p.lists l k ≡ Some c.next_cluster-cluster.result.now) same c.next_cluster-cluster.ensures.value in
    elim c.match-serve.branch [
      | in-Ok+in_ok-push+in_ok-walk_on w ↦
          let lower : set c.loop-phase.left k (get_or c.loop-phase.left k 0 - 1) ≡ one_less left k = ap (λ l. one_less l k) same in
          let pushed : w.push.new.self.items ≡ prefix ++ k ∷ [] = w.in_ok-push.ensures.items ∙ ap (λ xs. xs ++ k ∷ []) c.loop-phase.invariant.sequence in
          let behind : c.match-serve.best ≡ best_after p (prefix ++ k ∷ []) c.loop-phase.best (orders (one_less left k)) =
          w.best-is ∙ w.in_ok-walk_on.ensures.best ∙ ap (λ xs. best_after p xs c.loop-phase.best (orders (set c.loop-phase.left k (get_or c.loop-phase.left k 0 - 1)))) pushed
          ∙ ap (λ l. best_after p (prefix ++ k ∷ []) c.loop-phase.best (orders l)) lower in
          record {
            left = w.left-is ∙ ap (λ l. set l k (get_or l k 0 + 1)) w.in_ok-walk_on.ensures.left ∙ raised-again c.loop-phase.left k (omega arith) ∙ same;
            sequence = rw w.sequence-is (w.pop.ensures.rest ∙ popped prefix w.walk_on.new.sequence.items k (vec_len w.walk_on.new.sequence) (w.in_ok-walk_on.ensures.sequence ∙ pushed) (omega arith));
            best = step-fit p prefix left c.args.best.now c.loop-phase.best c.match-serve.best k c.loop-phase.invariant.best some behind;
          }
      | in_default w ↦ record {
        left = w.left-is ∙ same;
        sequence = rw w.sequence-is c.loop-phase.invariant.sequence;
        best = result-cases (serving p.plan c.args.head k c.next_cluster-cluster.result.now)
            (λ s es. absurd (w.in_default.not-Ok s (c.serve.ensures.value ∙ ap (λ plan. serving plan c.args.head k c.next_cluster-cluster.result.now) plan ∙ es)))
            (λ why ew. w.best-is ∙ step-unfit p prefix left c.args.best.now c.loop-phase.best k c.loop-phase.invariant.best some
            (reaches-unfit p prefix left c.args.head c.args.delay k c.next_cluster-cluster.result.now why c.requires.reached next ew));
      }
    ]

pub returns-clause-best : goal.returns-clause-best
returns-clause-best g t c =
    let left = c.args.left.now in
    c.loop-phase.invariant.best
    ∙ ap (λ n. best_after c.args.i.now c.args.sequence.now.items c.args.best.now (flat_map (beginning_with left) (range_with_len 0 n)))
    (let e : c.loop-phase.phase ≡ length left = omega (arith, c.requires.way.lists, c.count-phase-end.ensures.count, c.plan.ensures.instance.lists, ap length c.plan.ensures.value) in e)
    ∙ ap (best_after c.args.i.now c.args.sequence.now.items c.args.best.now) (sym (orders-begin left (omega arith)))

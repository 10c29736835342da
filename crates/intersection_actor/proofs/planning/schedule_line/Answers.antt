use Rattle.intersection_actor.proofs.planning.schedule_line.Goals as goal

pub next_line-requires-clause-head : goal.next_line-requires-clause-head
next_line-requires-clause-head g c = rw (c.plan-plan.ensures.value, c.head-head.ensures.value) c.plan-plan.ensures.instance.head

pub next_line-requires-clause-served : goal.next_line-requires-clause-served
next_line-requires-clause-served g c = rw (c.plan-plan.ensures.value, c.head-head.ensures.value) (c.requires.law c.in_ok-schedule.schedule c.in_ok-schedule.ensures).served

pub next_line-requires-clause-greens : goal.next_line-requires-clause-greens
next_line-requires-clause-greens g c = (c.requires.law c.in_ok-schedule.schedule c.in_ok-schedule.ensures).greens

pub returns : goal.returns
returns g c = record {
  schedule = c.in_ok-schedule.ensures;
  value = rw (← c.plan-plan.ensures.value, ← c.head-head.ensures.value) c.in_ok-next.ensures.value;
  next = rw (← c.plan-plan.ensures.value, ← c.head-head.ensures.value) c.in_ok-next.ensures.next;
}

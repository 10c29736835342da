use Rattle.spillback_world.specs.Steps.{HaveDischarged}
use Rattle.spillback_world.proofs.discharges.discharge.Given as goal

-- the links so far have discharged
abbrev pub invariant-loop-l : goal.invariant-loop-l
invariant-loop-l v = HaveDischarged v.site.net.now v.site.store.now v.site.rates.now v.l v.initial.leaving v.initial.queues v.initial.entering v.initial.held v.leaving v.queues v.entering v.held

use Rattle.std.proofs.Common.{List, arith, subst, sym}
use Rattle.intersection_actor.specs.declared.records.PlanRecord.{PlanRecord}
use Rattle.net_core.specs.States.{AreBetween}
use Rattle.net_core.proofs.Opened.{all-closed}
use Rattle.net_core.proofs.Room.{room-for}
use Rattle.net_core.proofs.keeping.close_round.Goals as goal

pub end_round-requires-clause-playing : goal.end_round-requires-clause-playing
end_round-requires-clause-playing c = (c.args.kept.now.history.items, c.args.kept.now.plans.items, c.requires.playing.in_round)

pub end_round-requires-clause-done : goal.end_round-requires-clause-done
end_round-requires-clause-done c = all-closed c.args.parts.now.actors.all.items (let count = c.requires.playing.busy in omega (arith, count, c.requires.none))

pub end_round-requires-clause-capacity : goal.end_round-requires-clause-capacity
end_round-requires-clause-capacity c = room-for c.args.net.now c.args.arrivals.now c.args.kept.now.history.items c.args.kept.now.plans c.args.parts.now c.requires.playing.in_round c.requires.playing.capacity

pub returns-clause-rests : goal.returns-clause-rests
returns-clause-rests c = record {
  between = subst (λ (plans : List PlanRecord). AreBetween c.args.net.now c.args.arrivals.now c.args.kept.now.history.items plans c.end_round.new.parts) (sym c.end_round.ensures.plans)
      (c.end_round.ensures.between c.args.kept.now.history.items c.args.kept.now.plans.items c.requires.playing.in_round);
  capacity = omega (arith, c.requires.playing.capacity, c.end_round.ensures.capacity);
}

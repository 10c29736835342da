use Rattle.std.proofs.Common.{ap, ◌∙◌, arith}
use Rattle.snap_boards.proofs.Closes.{all_events, one-log, all-are, emptied}
use Rattle.snap_boards.proofs.boards.into_logs.Goals as goal

pub loop-slot-preserved : goal.loop-slot-preserved
loop-slot-preserved g c = let old = c.loop-slot.invariant in let p = c.in-Some.ensures in let i = c.in-Ok.ensures in let room = old.1 in let less = p.len in let more = i.len in let kept = i.capacity in (
  ap (all_events c.pop.new.self.items) i.items ∙ one-log c.loop-slot.slots.items c.pop.new.self.items c.in-Some.slot c.end.result c.loop-slot.logs.items p.items c.end.ensures ∙ old.0,
  (omega arith),
)

pub returns : goal.returns
returns g c = all-are c.loop-slot.slots.items c.args.slots.items c.loop-slot.logs.items (emptied c.loop-slot.slots.items (let none = c.in_default.ensures.cases in let ok = c.loop-slot.slots.ok in omega (arith, none.0, ok.0))) c.loop-slot.invariant.0

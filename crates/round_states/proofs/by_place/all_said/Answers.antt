use Rattle.std.proofs.Common.{refl, arith}
use Rattle.round_states.proofs.ByPlaceLaws.{content-all, content-more, content-none}
use Rattle.round_states.proofs.by_place.all_said.Goals as goal

pub loop-entry-init : goal.loop-entry-init
loop-entry-init g c = content-none g.K.RecordKind.value_of c.args.places _ c.in_ok-all.ensures

pub loop-entry-preserved : goal.loop-entry-preserved
loop-entry-preserved g c = content-more g.K.RecordKind.value_of c.args.entries.now c.args.places c.loop-entry.entry-index _ _ c.loop-entry-test.true refl c.loop-entry.all.items c.keep.new.all.items c.value.result c.value.ensures c.in_ok-keep.ensures c.loop-entry.invariant

pub returns : goal.returns
returns g c = content-all g.K.RecordKind.value_of c.args.entries.now c.args.places c.loop-entry.entry-index c.loop-entry.all.items (omega arith) c.loop-entry.invariant

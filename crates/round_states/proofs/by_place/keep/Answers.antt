use Rattle.std.proofs.Common.{arith}
use Rattle.round_states.proofs.ByPlaceLaws.{content-kept}
use Rattle.round_states.proofs.by_place.keep.Goals as goal

pub returns : goal.returns
returns g c = content-kept c.args.all.now.items c.args.place c.index_mut.result.now c.push.new.self c.in-Some.value c.args.content (omega arith) c.index_mut.ensures.value c.in_ok-push.ensures.items c.in-Some.is

use Rattle.std.proofs.Common.{length, subst, sym, ◌∙◌, arith}
use Rattle.std.proofs.lemmas.Iterator.Adapters.{YieldsList-from_vec}
use Rattle.std.proofs.lemmas.Iterator.Consumers.{YieldsList-turn}
use Rattle.control_flow.specs.Greens.{IsInOrder}
use Rattle.audit.proofs.lines.timelines.Goals as goal

pub from_rows-requires : goal.from_rows-requires
from_rows-requires c =
    let made = c.into_iter-rows-iterator.ensures.into_iter_gives in
    let turn = YieldsList-turn (YieldsList-from_vec {s = c.into_iter-rows-iterator.result} c.args.lines.items made.0 (omega (arith, made.1, c.args.lines.ok.0))) c.loop-rows.yielded c.loop-rows.rows-iterator c.loop-rows.yielded_by c.next.result c.next.new.self c.in-Some.rows c.in-Some.is c.next.ensures.steps in
    subst IsInOrder (sym (c.into_vec.ensures ∙ turn.1)) (c.requires (length c.loop-rows.yielded) c.in-Some.rows turn.0)

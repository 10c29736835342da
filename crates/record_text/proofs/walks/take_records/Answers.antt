use Rattle.std.proofs.Common.{IfOk, subst, sym}
use Rattle.record_text.specs.Walks.{AreCounted, AreTakenIf}
use Rattle.record_text.proofs.walks.take_records.Goals as goal

pub walk-requires-clause-few : goal.walk-requires-clause-few
walk-requires-clause-few g c = subst (AreCounted (g.T.RecordTaker.has_taken c.args.net.now)) (sym c.open-reader.ensures.left) c.requires.few

pub returns-clause-taken : goal.returns-clause-taken
returns-clause-taken g c =
    subst (λ rs. IfOk c.walk.result (AreTakenIf g.T.RecordTaker.header (g.T.RecordTaker.has_taken c.args.net.now) rs c.walk.new.taker)) c.open-reader.ensures.left c.walk.ensures.taken

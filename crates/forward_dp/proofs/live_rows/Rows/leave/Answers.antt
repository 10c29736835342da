use Rattle.std.proofs.Common.{refl}
use Rattle.forward_dp.specs.Tables.{HasEntries}
use Rattle.forward_dp.proofs.Parting.{left}
use Rattle.forward_dp.proofs.live_rows.Rows.leave.Goals as goal

pub returns-clause-left : goal.returns-clause-left
returns-clause-left c gone held =
    left (HasEntries c.take.new.self) c.args.ends gone c.as_slice.result.now c.args.self.now _ (c.in_ok-take.ensures.taken gone held) c.as_slice.ensures.value c.if-not-ends.false c.turn.ensures.gone c.turn.ensures.earlier c.turn.ensures.latest refl

use Rattle.std.proofs.Common.{get_or, arith}
use Rattle.forward_dp.specs.Tables.{HasEntries}
use Rattle.forward_dp.proofs.Parting.{turned}
use Rattle.forward_dp.proofs.live_rows.Rows.enter.Goals as goal

pub returns-clause-entered : goal.returns-clause-entered
returns-clause-entered c gone held =
    turned (HasEntries c.take.new.self) (get_or c.args.counts.now 0 0) (get_or c.args.next.now 0 0) gone c.as_slice.result.now c.args.self.now c.turn.new.self (c.in_ok-take.ensures.taken gone held) c.as_slice.ensures.value
    (omega (arith, c.if-next-counts.false)) c.turn.ensures.gone c.turn.ensures.earlier c.turn.ensures.latest c.turn.ensures.apart

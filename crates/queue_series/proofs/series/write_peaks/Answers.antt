use Rattle.std.proofs.Common.{length, arith}
use Rattle.world_records.proofs.WrittenLaws.{adds-next, adds-numbers}
use Rattle.queue_series.specs.Series.{peak_record}
use Rattle.queue_series.specs.LinkStates.{peak_of}
use Rattle.queue_series.proofs.series.write_peaks.Goals as goal

pub loop-link-preserved : goal.loop-link-preserved
loop-link-preserved c = adds-next (peak_record c.args.net.now (peak_of c.args.link_states.now)) c.loop-link.link c.args.out.now c.loop-link.out c.write_peak.new.out c.loop-link.invariant c.in_ok-write_peak.ensures

pub returns : goal.returns
returns c = adds-numbers (peak_record c.args.net.now (peak_of c.args.link_states.now)) c.loop-link.link (length c.args.net.now.link_names) c.args.out.now c.loop-link.out (omega arith) c.loop-link.invariant

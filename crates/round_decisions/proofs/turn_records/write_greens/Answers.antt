use Rattle.std.proofs.Common.{rules, arith}
use Rattle.round_states.specs.StateRecords.{green_record}
use Rattle.world_records.proofs.WrittenLaws.{adds-all, adds-more}
use Rattle.round_decisions.proofs.turn_records.write_greens.Goals as goal

pub loop-green-preserved : goal.loop-green-preserved
loop-green-preserved c = adds-more (green_record c.args.net.now c.args.node) c.args.greens.now c.loop-green.green-index _ c.args.out.now c.loop-green.out c.write_green.new.out (omega arith) (search rules) c.loop-green.invariant c.in_ok-write_green.ensures

pub returns : goal.returns
returns c = adds-all (green_record c.args.net.now c.args.node) c.args.greens.now c.loop-green.green-index c.args.out.now c.loop-green.out (omega arith) c.loop-green.invariant

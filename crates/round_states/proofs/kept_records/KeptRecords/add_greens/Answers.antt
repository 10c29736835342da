use Rattle.std.proofs.Common.{rules, arith}
use Rattle.round_states.specs.StateRecords.{green_record}
use Rattle.round_states.proofs.KeptLaws.{keeps-all, keeps-more, keeps-none}
use Rattle.round_states.proofs.kept_records.KeptRecords.add_greens.Goals as goal

pub loop-green-init : goal.loop-green-init
loop-green-init c = keeps-none c.args.net.now c.args.self.now

pub loop-green-preserved : goal.loop-green-preserved
loop-green-preserved c = keeps-more c.args.net.now (green_record c.args.net.now c.args.node) c.args.greens.now c.loop-green.green-index _ c.args.self.now c.loop-green.self c.add_green.new.self (omega arith) (search rules) c.loop-green.invariant c.in_ok-add_green.ensures

pub returns : goal.returns
returns c = keeps-all c.args.net.now (green_record c.args.net.now c.args.node) c.args.greens.now c.loop-green.green-index c.args.self.now c.loop-green.self (omega arith) c.loop-green.invariant

use Rattle.std.proofs.Common.{rules, arith}
use Rattle.round_states.specs.StateRecords.{row_record}
use Rattle.round_states.proofs.KeptLaws.{keeps-all, keeps-more, keeps-none}
use Rattle.round_states.proofs.kept_records.KeptRecords.add_rows.Goals as goal

pub loop-row-init : goal.loop-row-init
loop-row-init c = keeps-none c.args.net.now c.args.self.now

pub loop-row-preserved : goal.loop-row-preserved
loop-row-preserved c = keeps-more c.args.net.now (row_record c.args.net.now c.args.link) c.args.rows.now c.loop-row.row-index _ c.args.self.now c.loop-row.self c.add_row.new.self (omega arith) (search rules) c.loop-row.invariant c.in_ok-add_row.ensures

pub returns : goal.returns
returns c = keeps-all c.args.net.now (row_record c.args.net.now c.args.link) c.args.rows.now c.loop-row.row-index c.args.self.now c.loop-row.self (omega arith) c.loop-row.invariant

use Rattle.std.proofs.Common.{rules, arith}
use Rattle.round_states.specs.StateRecords.{row_record}
use Rattle.world_records.proofs.WrittenLaws.{adds-all, adds-more}
use Rattle.round_decisions.proofs.board_records.write_rows.Goals as goal

pub loop-row-preserved : goal.loop-row-preserved
loop-row-preserved c = adds-more (row_record c.args.net.now c.args.link) c.args.rows.now c.loop-row.row-index _ c.args.out.now c.loop-row.out c.write_row.new.out (omega arith) (search rules) c.loop-row.invariant c.in_ok-write_row.ensures

pub returns : goal.returns
returns c = adds-all (row_record c.args.net.now c.args.link) c.args.rows.now c.loop-row.row-index c.args.out.now c.loop-row.out (omega arith) c.loop-row.invariant

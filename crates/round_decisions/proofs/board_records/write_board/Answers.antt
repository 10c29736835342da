use Rattle.std.proofs.Common.{List, [], ◌∷◌, OnOk, map, subst}
use Rattle.board_model.specs.declared.forecasts.Row.{Row}
use Rattle.round_states.specs.StateRecords.{row_record, version_record}
use Rattle.round_decisions.proofs.DecisionTextLaws.{adds-last}
use Rattle.round_decisions.proofs.board_records.write_board.Goals as goal
use Rattle.world_records.specs.Written.{Adds}

pub returns : goal.returns
returns c =
    adds-last c.write_rows.result c.args.out.now c.write_version.new.out c.write_rows.new.out (version_record c.args.net.now c.args.link c.args.board.now.version ∷ []) (map (row_record c.args.net.now c.args.link) c.args.board.now.forecast)
    c.in_ok-write_version.ensures (subst (λ (l : List Row). OnOk c.write_rows.result (Adds c.write_version.new.out c.write_rows.new.out (map (row_record c.args.net.now c.args.link) l))) c.rows.ensures.value c.write_rows.ensures)

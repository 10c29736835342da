use Rattle.std.proofs.Common.{List, [], ◌∷◌, OnOk, map, subst}
use Rattle.std.proofs.lemmas.Result.{on_ok_weaker}
use Rattle.board_model.specs.declared.forecasts.Row.{Row}
use Rattle.round_states.specs.NextTexts.{Keeps}
use Rattle.round_states.specs.StateRecords.{row_record, version_record}
use Rattle.round_states.proofs.KeptLaws.{keeps-then}
use Rattle.round_states.proofs.kept_records.KeptRecords.add_board.Goals as goal

pub returns : goal.returns
returns c =
    on_ok_weaker c.add_rows.result (λ rows. keeps-then c.args.net.now c.args.self.now c.add_version.new.self c.add_rows.new.self (version_record c.args.net.now c.args.link c.args.board.now.version ∷ []) _ c.in_ok-add_version.ensures rows)
    (subst (λ (l : List Row). OnOk c.add_rows.result (Keeps c.args.net.now c.add_version.new.self c.add_rows.new.self (map (row_record c.args.net.now c.args.link) l))) c.rows.ensures.value c.add_rows.ensures)

use Rattle.std.proofs.Common.{sym}
use Rattle.round_states.proofs.LineLaws.{end-last}
use Rattle.round_states.proofs.lines.end_of.Goals as goal

pub returns-in-Some : goal.returns-in-Some
returns-in-Some c = sym (end-last c.args.rows.now c.in-Some.row.now (sym c.in-Some.ensures.value))

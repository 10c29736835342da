use Rattle.std.proofs.Common.{◌∙◌}
use Rattle.forward_dp.proofs.Wholes.{made-parts}
use Rattle.forward_dp.proofs.certifying.answer_of_table.Goals as goal

pub answer_of_rows-requires : goal.answer_of_rows-requires
answer_of_rows-requires g c = record { limit = c.args.limit; gone = c.in_ok-table.ensures.whole.0; delay = c.requires.delay; made = c.in_ok-table.ensures.whole.2 }

pub returns-clause-parts : goal.returns-clause-parts
returns-clause-parts g c =
    made-parts c.args.i.now c.args.limit c.in_ok-table.ensures.whole.0 c.table.new.rows c.answer_of_rows.new.past c.answer_of_rows.result c.answer_of_rows.ensures.instance c.requires.delay c.in_ok-table.ensures.whole.2
    (c.answer_of_rows.ensures.taken _ c.in_ok-table.ensures.whole.1) (c.answer_of_rows.ensures.keeps_entries ∙ c.table.ensures.keeps_entries ∙ c.requires.keeps_entries) c.answer_of_rows.ensures.best

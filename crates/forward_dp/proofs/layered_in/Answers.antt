use Rattle.schedule_meaning.proofs.Choosing.{best-least}
use Rattle.forward_dp.proofs.layered_in.Goals as goal

pub best_answer-requires : goal.best_answer-requires
best_answer-requires g c = record { limit = c.args.limit; gone = c.in_ok-table.ensures.whole.0; delay = c.requires; made = c.in_ok-table.ensures.whole.2 }

pub returns-clause-least : goal.returns-clause-least
returns-clause-least g c = best-least c.args.i.now c.in_ok-answer.answer c.in_ok-answer.ensures.best

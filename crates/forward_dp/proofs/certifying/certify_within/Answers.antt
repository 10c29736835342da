use Rattle.std.proofs.Common.{arith}
use Rattle.forward_dp.proofs.Wholes.{best-short, certified, lawful}
use Rattle.forward_dp.proofs.certifying.certify_within.Goals as goal

pub of_lawful-requires-clause-lawful : goal.of_lawful-requires-clause-lawful
of_lawful-requires-clause-lawful g c = lawful c.args.i.now c.in_ok-instance.instance c.args.limit c.answer_of_table.new.past.entries.items c.in_ok-answer.answer c.in_ok-answer.ensures.parts c.in_ok-instance.ensures

pub of_lawful-requires-clause-few : goal.of_lawful-requires-clause-few
of_lawful-requires-clause-few g c = omega (arith, c.in_ok-answer.ensures.parts.few)

pub of_lawful-requires-clause-short : goal.of_lawful-requires-clause-short
of_lawful-requires-clause-short g c = best-short c.args.i.now c.in_ok-answer.answer c.in_ok-answer.ensures.parts.lawful c.in_ok-answer.ensures.parts.best

pub returns-clause-table : goal.returns-clause-table
returns-clause-table g c = (certified c.args.i.now c.in_ok-instance.instance c.args.limit c.answer_of_table.new.past.entries.items c.in_ok-answer.answer c.of_lawful.result c.in_ok-answer.ensures.parts c.in_ok-instance.ensures c.of_lawful.ensures).table

pub returns-clause-best : goal.returns-clause-best
returns-clause-best g c = (certified c.args.i.now c.in_ok-instance.instance c.args.limit c.answer_of_table.new.past.entries.items c.in_ok-answer.answer c.of_lawful.result c.in_ok-answer.ensures.parts c.in_ok-instance.ensures c.of_lawful.ensures).best

pub returns-clause-proves : goal.returns-clause-proves
returns-clause-proves g c = (certified c.args.i.now c.in_ok-instance.instance c.args.limit c.answer_of_table.new.past.entries.items c.in_ok-answer.answer c.of_lawful.result c.in_ok-answer.ensures.parts c.in_ok-instance.ensures c.of_lawful.ensures).proves

pub returns-clause-few : goal.returns-clause-few
returns-clause-few g c = (certified c.args.i.now c.in_ok-instance.instance c.args.limit c.answer_of_table.new.past.entries.items c.in_ok-answer.answer c.of_lawful.result c.in_ok-answer.ensures.parts c.in_ok-instance.ensures c.of_lawful.ensures).few

use Rattle.std.proofs.Common.{rules}
use Rattle.schedule_meaning.proofs.TextLaws.{short-texts}
use Rattle.schedule_meaning.proofs.texts.write_instance.Goals as goal

pub returns-clause-is_text : goal.returns-clause-is_text
returns-clause-is_text c = search rules

pub returns-clause-short : goal.returns-clause-short
returns-clause-short c = short-texts (λ text. text.items) c.args.i.now c.write_form.result (returns-clause-is_text c) c.plan-plan.ensures.instance.few

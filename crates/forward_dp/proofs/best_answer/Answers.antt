use Rattle.std.proofs.Common.{ap, sym, ◌∙◌}
use Rattle.schedule_meaning.specs.declared.planners.Answer.{Answer}
use Rattle.schedule_meaning.specs.declared.planners.Answer.TheVariants.{Plan}
use Rattle.forward_dp.proofs.Wholes.{last-cell, none-best, some-best}
use Rattle.forward_dp.proofs.best_answer.Goals as goal

pub returns-in_default-clause-best : goal.returns-in_default-clause-best
returns-in_default-clause-best c =
    none-best c.args.i.now c.requires.limit _ c.requires.delay
    (last-cell c.args.i.now c.places-places.ensures.instance c.args.rows.now c.as_slice-latest.result.now c.list_lengths-last.result c.cell-start.result.0 c.cell-start.result.1 c.requires c.as_slice-latest.ensures.value c.list_lengths-last.ensures c.cell-start.ensures.start c.cell-start.ensures.end) c.in_default.ensures.none

pub returns-clause-best : goal.returns-clause-best
returns-clause-best c =
    some-best c.args.i.now c.requires.limit c.places-places.ensures.instance _ c.in-Some.best (Plan c.from_vec.result c.in-Some.best.entry.delay) c.requires.delay
    (last-cell c.args.i.now c.places-places.ensures.instance c.args.rows.now c.as_slice-latest.result.now c.list_lengths-last.result c.cell-start.result.0 c.cell-start.result.1 c.requires c.as_slice-latest.ensures.value c.list_lengths-last.ensures c.cell-start.ensures.start c.cell-start.ensures.end)
    c.in-Some.ensures.among c.in-Some.ensures.best
    (λ s long below is. ap (λ xs. let a : Answer = Plan xs c.in-Some.best.entry.delay in a) (c.from_vec.ensures ∙ c.in_ok-sequence.ensures s (long ∙ sym c.places-places.ensures.value) below (is ∙ sym c.value.ensures)))

use Rattle.std.proofs.Common.{◌∙◌, ◌≡◌, Some, None, subst, sym, ap}
use Rattle.schedule_meaning.specs.Best.{IsBest}
use Rattle.schedule_meaning.specs.declared.planners.Answer.TheVariants.{Plan, NoPlan}
use Rattle.schedule_meaning.proofs.Choosing.{best-least}
use Rattle.forward_dp.specs.Completions.{Follows, IsFollowed}
use Rattle.forward_dp.proofs.CompletedEntries.{followed, no-answer, none-value, some-answer}
use Rattle.forward_dp.proofs.completions.answer_of.Goals as goal

pub returns-in_default-clause-best : goal.returns-in_default-clause-best
returns-in_default-clause-best g c = no-answer c.args.i.now c.as_slice.result.now c.first_of-first.result c.first_of-first.ensures.instance (none-value c.cost.result _ c.in_default.not-Some c.cost.ensures) c.first_of-first.ensures.completion

pub returns-in_default-clause-least : goal.returns-in_default-clause-least
returns-in_default-clause-least g c =
    best-least c.args.i.now NoPlan (no-answer c.args.i.now c.as_slice.result.now c.first_of-first.result c.first_of-first.ensures.instance (none-value c.cost.result _ c.in_default.not-Some c.cost.ensures) c.first_of-first.ensures.completion)

pub follow-requires : goal.follow-requires
follow-requires g c =
    subst (λ xs. IsFollowed xs c.first_of-first.result 40) (c.as_slice.ensures.value ∙ sym c.as_slice-2.ensures.value)
    (followed c.args.i.now c.as_slice.result.now c.first_of-first.result c.in-Some.delay c.first_of-first.ensures.instance (sym c.cost.ensures ∙ c.in-Some.is) c.first_of-first.ensures.completion)

pub returns-clause-best : goal.returns-clause-best
returns-clause-best g c =
    let follows : Follows c.as_slice.result.now c.first_of-first.result c.in_ok-sequence.sequence.items c.in_ok-sequence.ensures.0 = subst (λ xs. Follows xs c.first_of-first.result c.in_ok-sequence.sequence.items c.in_ok-sequence.ensures.0) (c.as_slice-2.ensures.value ∙ sym c.as_slice.ensures.value) c.in_ok-sequence.ensures.1 in
    subst (λ xs. IsBest c.args.i.now (Plan xs c.in-Some.delay)) (sym c.from_vec.ensures)
    (some-answer c.args.i.now c.as_slice.result.now c.first_of-first.result c.in-Some.delay c.in_ok-sequence.sequence.items c.in_ok-sequence.ensures.0 c.first_of-first.ensures.instance (sym c.cost.ensures ∙ c.in-Some.is) follows c.first_of-first.ensures.completion)

pub returns-clause-least : goal.returns-clause-least
returns-clause-least g c = best-least c.args.i.now (Plan c.from_vec.result c.in-Some.delay) (returns-clause-best g c)

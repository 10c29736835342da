use Rattle.std.proofs.Common.{◌≡◌, ◌-◌, ◌∷◌, [], ◌++◌, take, bit_and, ◌*◌, ◌/◌, ◌^◌, ap, ◌∙◌, arith}
use Rattle.std.proofs.lemmas.List.{take_all}
use Rattle.forward_dp.proofs.Digits.{read-on}
use Rattle.forward_dp.proofs.answers.sequence_of.Goals as goal

pub loop-place-init : goal.loop-place-init
loop-place-init c s long below e = c.in_ok-sequence.ensures.items ∙ ap (λ n. take n s) (let none : 0 ≡ c.args.places - c.args.places = omega arith in none)

pub loop-place-preserved : goal.loop-place-preserved
loop-place-preserved c s long below e =
    let place = c.loop-place.place in
    c.in_ok-push.ensures.items
    ∙ ap (λ items. items ++ bit_and (c.args.order / 2 ^ (2 * (place - 1))) 3 ∷ []) (c.loop-place.invariant s long below e)
    ∙ read-on s c.args.order c.args.places place long below e (omega arith) (omega arith)

pub returns : goal.returns
returns c s long below e =
    c.loop-place.invariant s long below e
    ∙ take_all (c.args.places - c.loop-place.place) s (omega arith)

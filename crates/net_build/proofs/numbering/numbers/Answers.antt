use Rattle.std.proofs.Common.{◌∙◌, ap, Err}
use Rattle.std.proofs.lemmas.Result.{err_from_is_err_and}
use Rattle.net_parts.specs.Numbers.{number_of}
use Rattle.foundation.proofs.EachLaws.{each-more}
use Rattle.std.proofs.Common.{Contains}
use Rattle.net_build.proofs.FirstFaults.{IsUnknownAt-weaker}
use Rattle.foundation.proofs.ListLaws.{All-not}
use Rattle.net_build.proofs.numbering.numbers.Goals as goal

pub returns-in_err-number : goal.returns-in_err-number
returns-in_err-number c =
    let p = err_from_is_err_and c.from_residual.result c.from_residual.ensures.1 in
    rw (p.1 ∙ ap Err p.2) (IsUnknownAt-weaker _ _ c.in_err-number.field-0.0
    (λ place why. (why.0, All-not (Contains c.args.names.now) c.args.texts.now c.loop-text.text-index c.text-item.result c.loop-text-test.true c.text-item.is why.1))
    c.in_err-number.ensures)

pub loop-text-preserved : goal.loop-text-preserved
loop-text-preserved c =
    rw c.in_ok-push.ensures.items (each-more (number_of c.args.names.now) c.args.texts.now c.loop-text.text-index c.text-item.result c.loop-text.numbers.items c.in_ok-number.number c.loop-text-test.true c.text-item.is c.loop-text.invariant c.in_ok-number.ensures)

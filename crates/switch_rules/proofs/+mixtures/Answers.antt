use Rattle.std.proofs.Common.{◌≡◌, ◌+◌, ◌*◌, ◌≤◌, min, sym, ap, ◌∙◌, arith}
use Rattle.switch_rules.specs.Orders.{choose, mixtures}
use Rattle.switch_rules.proofs.Counting.{min-mul, choose-some}
use Rattle.switch_rules.proofs.+mixtures.Goals as goal

pub returns-clause-ways : goal.returns-clause-ways
returns-clause-ways t c =
    let first = c.in-Some.first.now in
    let others = c.in-Some.others.now in
    let chosen = c.choices.ensures.value ∙ ap (λ s. choose (first + s) first) c.mixtures-ways.ensures.total in
    let some : 1 ≤ c.choices.result = omega (arith, c.choices.ensures.value, choose-some (first + c.mixtures-ways.result.1) first (omega arith)) in
    let cut : c.min.result ≡ min 50001 (c.mixtures-ways.result.0 * c.choices.result) = omega (arith, c.min.ensures, c.from.ensures) in
    cut
    ∙ ap (λ k. min 50001 (k * c.choices.result)) c.mixtures-ways.ensures.ways
    ∙ min-mul 50001 (mixtures others) c.choices.result some
    ∙ ap (λ k. min 50001 (k * mixtures others)) chosen
    ∙ ap (λ counts. min 50001 (mixtures counts)) (sym c.in-Some.ensures.cases.0)

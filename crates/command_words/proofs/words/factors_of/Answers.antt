use Rattle.std.proofs.Common.{◌≡◌, sym, subst, ◌∙◌, true, arith}
use Rattle.std.proofs.lemmas.Fmt.{decimal_injective}
use Rattle.command_words.specs.Factors.{AreFactors}
use Rattle.command_words.proofs.words.factors_of.Goals as goal

pub returns-else-are_factors-clause-none : goal.returns-else-are_factors-clause-none
returns-else-are_factors-clause-none c f l s are is_first is_last is_step =
    let a = c.in_ok-first.first in
    let b = c.in_ok-last.last in
    let d = c.in_ok-step.step in
    let first : f ≡ a = decimal_injective f a (omega (arith, are.ordered, are.most)) (omega (arith, c.in_ok-first.ensures.some.2)) (sym is_first ∙ c.in_ok-first.ensures.some.0) in
    let last : l ≡ b = decimal_injective l b (omega (arith, are.most)) (omega (arith, c.in_ok-last.ensures.some.2)) (sym is_last ∙ c.in_ok-last.ensures.some.0) in
    let step : s ≡ d = decimal_injective s d (omega (arith, are.bits)) (omega (arith, c.in_ok-step.ensures.some.2)) (sym is_step ∙ c.in_ok-step.ensures.some.0) in
    let same : AreFactors a b d = subst (λ n. AreFactors a b n) step (subst (λ n. AreFactors a n s) last (subst (λ n. AreFactors n l s) first are)) in
    let yes : c.are_factors.result ≡ true = c.are_factors.ensures.1 same in
    let no = c.if-are_factors.false in
    absurd (cc)

use Rattle.std.proofs.Common.{◌≡◌, sym, ◌∙◌, arith}
use Rattle.std.proofs.lemmas.Fmt.{decimal_injective}
use Rattle.text_lines.proofs.number_words.number_u32.Goals as goal

pub returns-else-number-lt4294967296-clause-none : goal.returns-else-number-lt4294967296-clause-none
returns-else-number-lt4294967296-clause-none c n lt spelled =
    let same : c.in_ok-number.number ≡ n = decimal_injective c.in_ok-number.number n (omega arith) (omega arith) (sym c.in_ok-number.ensures.some ∙ spelled) in
    absurd (omega (arith, same, c.if-number-lt4294967296.false))

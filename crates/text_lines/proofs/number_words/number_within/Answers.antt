use Rattle.std.proofs.Common.{◌≡◌, sym, ◌∙◌, arith}
use Rattle.std.proofs.lemmas.Fmt.{decimal_injective}
use Rattle.text_lines.proofs.number_words.number_within.Goals as goal
use Rattle.text_lines.proofs.number_words.number_within.Goals.{else-least-number-via-then-least-number+else-number-most, else-least-number-via-else-least-number}

pub returns-else-least-number-clause-none : goal.returns-else-least-number-clause-none
returns-else-least-number-clause-none c = λ n low high spelled.
    let same : c.in_ok-number.number ≡ n = decimal_injective c.in_ok-number.number n (omega arith) (omega arith) (sym c.in_ok-number.ensures.some ∙ spelled) in
    elim c.else-least-number.branch [
      | else-least-number-via-then-least-number+else-number-most w ↦ absurd (omega arith)
      | else-least-number-via-else-least-number w ↦ absurd (omega arith)
    ]

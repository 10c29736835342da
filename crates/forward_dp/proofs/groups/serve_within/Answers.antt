use Rattle.std.proofs.Common.{Option, sym, subst, ◌∙◌}
use Rattle.std.specs.Prelude.{IfSome}
use Rattle.std.proofs.lemmas.Bool.{false≢true}
use Rattle.dp_certificate.specs.Prefixes.{Stage}
use Rattle.dp_certificate.specs.Limits.{IsWithin}
use Rattle.forward_dp.proofs.groups.serve_within.Goals as goal

pub returns-else-is_within-clause-left : goal.returns-else-is_within-clause-left
returns-else-is_within-clause-left g c = subst (λ (o : Option Stage). IfSome o (λ s. ¬ IsWithin c.args.i.now c.args.limit s)) c.in_ok-served.ensures.value
    (λ within. false≢true (sym c.if-is_within.false ∙ c.is_within.ensures.value.1 within))

pub returns-then-is_within-clause-within : goal.returns-then-is_within-clause-within
returns-then-is_within-clause-within g c = c.is_within.ensures.value.0 c.if-is_within.true

pub returns-then-is_within-clause-leads : goal.returns-then-is_within-clause-leads
returns-then-is_within-clause-leads g c = c.in_ok-served.ensures.value

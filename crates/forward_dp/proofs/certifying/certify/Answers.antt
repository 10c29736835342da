use Rattle.std.specs.Prelude.{None}
use Rattle.std.proofs.lemmas.Result.{IfOk-weaker}
use Rattle.dp_certificate.specs.Limits.{IsLimited}
use Rattle.dp_certificate.specs.Whole.{IsWhole}
use Rattle.forward_dp.proofs.Wholes.{keys-within, limited-whole}
use Rattle.forward_dp.proofs.certifying.certify.Goals as goal

pub returns-clause-whole : goal.returns-clause-whole
returns-clause-whole g c = IfOk-weaker c.certify_within.result (λ c2. IsLimited c.args.i.now None c2.entries) (λ c2. IsWhole c.args.i.now c2.entries) (λ c2. limited-whole c.args.i.now c2.entries) c.certify_within.ensures.table

pub returns-clause-servings : goal.returns-clause-servings
returns-clause-servings g c keys all = c.certify_within.ensures.servings keys (keys-within c.args.i.now keys all)

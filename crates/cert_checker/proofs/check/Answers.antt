use Rattle.std.proofs.Common.{refl}
use Rattle.cert_checker.proofs.Law.{proves-best, proves-least}
use Rattle.cert_checker.proofs.check.Goals as goal

pub returns-clause-least : goal.returns-clause-least
returns-clause-least g c = λ _. proves-least c.args.c.now c.first_cheaper.ensures.certificate (record {
  planned = c.in_default.ensures.none;
  root = c.if-not-has_root.ensures.0 refl;
  closed = c.in_default-first_open.ensures.none;
  ended = c.in_default-first_cheaper.ensures.none;
})

pub returns-clause-best : goal.returns-clause-best
returns-clause-best g c = λ _ a best. proves-best c.args.c.now c.first_cheaper.ensures.certificate (record {
  planned = c.in_default.ensures.none;
  root = c.if-not-has_root.ensures.0 refl;
  closed = c.in_default-first_open.ensures.none;
  ended = c.in_default-first_cheaper.ensures.none;
}) a best

use Rattle.std.proofs.Common.{refl, arith, rules}
use Rattle.audit.proofs.SheetReaderLaws.{come-none}
use Rattle.audit.proofs.sheet_reader.SheetReader.new.Goals as goal

pub returns-clause-come : goal.returns-clause-come
returns-clause-come c = come-none c.args.net.now _ (omega (arith, c.loop.invariant.count)) (λ k h. c.loop.invariant.empty k) (search rules) refl

use Rattle.std.proofs.Common.{sym, refl, ap, ◌∙◌, sum, min}
use Rattle.switch_rules.proofs.Counting.{length-orders_of}
use Rattle.switch_rules.proofs.ways.Goals as goal

pub returns : goal.returns
returns c = c.mixtures-ways.ensures.ways ∙ ap (min 50001) (sym (length-orders_of (sum c.args.counts.now) c.args.counts.now refl))

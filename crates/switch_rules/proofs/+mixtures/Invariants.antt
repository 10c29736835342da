use Rattle.std.proofs.Common.{length}
use Rattle.switch_rules.proofs.+mixtures.Given as goal

abbrev pub decreases-mixtures : goal.decreases-mixtures
decreases-mixtures l = length l.counts.now

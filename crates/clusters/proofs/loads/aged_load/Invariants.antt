use Rattle.std.specs.Prelude.{Some}
use Rattle.clusters.specs.Options.{amount_load}
use Rattle.clusters.proofs.LoadLaws.{IsCounted}
use Rattle.clusters.proofs.loads.aged_load.Given as goal

abbrev pub invariant-loop-amount : goal.invariant-loop-amount
invariant-loop-amount l = IsCounted (amount_load (Some l.age) l.weight l.stood) l.amounts l.amount-index l.load

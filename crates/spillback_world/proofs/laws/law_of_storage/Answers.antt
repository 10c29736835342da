use Rattle.arrivals.specs.Amounts.{arriving_of}
use Rattle.spillback_world.proofs.Course.{spilled-all, spilled-whole, within-all}
use Rattle.spillback_world.proofs.Sources.{sources-of}
use Rattle.spillback_world.proofs.laws.law_of_storage.Goals as goal

pub returns : goal.returns
returns c = λ net arrivals store shown n network are. record {
  within = within-all net network (arriving_of arrivals) store shown n;
  whole = spilled-whole net network (arriving_of arrivals) store shown (sources-of net arrivals are) n;
  all = spilled-all net network (arriving_of arrivals) store shown (sources-of net arrivals are) n;
}

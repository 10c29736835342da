use Rattle.std.proofs.Common.{refl, ap, ◌∙◌}
use Rattle.arrivals.specs.Amounts.{arriving_of}
use Rattle.net_simulator.specs.Flow.{passed_in}
use Rattle.net_simulator.proofs.Passing.{few-of}
use Rattle.spillback_world.specs.StoredTotals.{outside_all}
use Rattle.spillback_world.proofs.AmpleTotals.{ample-totals}
use Rattle.spillback_world.proofs.Sources.{none-outside, sources-of}
use Rattle.spillback_world.proofs.Whole.{ample}
use Rattle.spillback_world.proofs.laws.law_of_ample_storage.Goals as goal

pub returns : goal.returns
returns c = λ net arrivals shown n network are.
    let few = few-of net network arrivals are in
    let same = ample net network (arriving_of arrivals) few shown (λ l. 2000000000) (λ e inside. refl) n in
    record {
      past = ap passed_in same;
      none = ap (λ h. outside_all net (arriving_of arrivals) (passed_in h) n) same ∙ none-outside net network (arriving_of arrivals) few shown n;
      totals = ample-totals net network (arriving_of arrivals) few (sources-of net arrivals are) shown n (λ l. 2000000000) (λ e inside. refl);
    }

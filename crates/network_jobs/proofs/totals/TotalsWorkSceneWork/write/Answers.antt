use Rattle.std.proofs.Common.{length, ap, ◌∙◌}
use Rattle.arrivals.specs.Amounts.{arriving_of}
use Rattle.network_jobs.proofs.Planned.{all_counted, all_links}
use Rattle.network_jobs.proofs.totals.TotalsWorkSceneWork.write.Goals as goal

pub counted_text-requires : goal.counted_text-requires
counted_text-requires c = ap length c.as_slice.ensures ∙ all_links c.args.net.now (arriving_of c.args.arrivals.now) c.in_ok-left.left _ c.in_ok-left.ensures

pub returns : goal.returns
returns c = all_counted (λ text. text.items) c.args.net.now (arriving_of c.args.arrivals.now) c.in_ok-left.left _ c.as_slice.result.now c.as_slice.ensures c.counted_text.result c.in_ok-left.ensures c.counted_text.ensures

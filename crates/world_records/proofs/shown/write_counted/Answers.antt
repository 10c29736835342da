use Rattle.std.proofs.lemmas.Result.{on_ok_weaker}
use Rattle.world_records.proofs.ShownLaws.{counted-parts}
use Rattle.world_records.proofs.shown.write_counted.Goals as goal

pub returns-clause-records : goal.returns-clause-records
returns-clause-records c =
    on_ok_weaker c.write_totals.result
    (λ last. counted-parts c.args.net.now c.args.links.now c.args.totals c.args.out.now c.write_links.new.out c.write_totals.new.out c.in_ok-write_links.ensures.records last)
    c.write_totals.ensures

pub returns-clause-counts : goal.returns-clause-counts
returns-clause-counts c = on_ok_weaker c.write_totals.result (λ last. c.in_ok-write_links.ensures.counts) c.write_totals.ensures

use Rattle.std.proofs.Common.{ℕ, ◌<◌, All, length, subst}
use Rattle.std.proofs.lemmas.Result.{on_ok_weaker}
use Rattle.world_records.specs.Told.{IsToldGreen, told_line}
use Rattle.world_records.proofs.ShownLaws.{shown-parts}
use Rattle.world_records.proofs.shown.write_shown.Goals as goal

pub returns-clause-records : goal.returns-clause-records
returns-clause-records c =
    on_ok_weaker c.write_counted.result
    (λ counted. shown-parts c.args.net.now c.args.lines.now c.args.links.now c.args.totals c.end_of_run.result c.args.out.now c.write_greens.new.out c.write_counted.new.out c.end_of_run.ensures.value c.in_ok-write_greens.ensures.records counted)
    c.write_counted.ensures.records

pub returns-clause-told : goal.returns-clause-told
returns-clause-told c =
    on_ok_weaker c.write_counted.result
    (λ counted. subst (λ (end : ℕ). (node : ℕ) → node < length c.args.net.now.node_names → All IsToldGreen (told_line c.args.net.now c.args.lines.now end node)) c.end_of_run.ensures.value c.in_ok-write_greens.ensures.told)
    c.write_counted.ensures.counts

use Rattle.std.proofs.Common.{length}
use Rattle.clusters.specs.Steps.{span_at}
use Rattle.clusters.specs.Options.{aged_load_of}
use Rattle.clusters.proofs.GatherLaws.{gathering-none, gathering-more, gathering-all}
use Rattle.clusters.proofs.cuts.gather_platoons.Goals as goal

pub loop-first-init : goal.loop-first-init
loop-first-init c =
    rw c.in_ok-platoons.ensures.items
    (gathering-none (aged_load_of c.args.age c.args.net.now c.args.sensed.now) c.args.cutting.gap c.args.cutting.rate (span_at c.args.cutting.first c.args.cutting.most) c.args.sensed.now.now c.args.series.now c.args.streams.now)

pub loop-first-preserved : goal.loop-first-preserved
loop-first-preserved c =
    gathering-more (aged_load_of c.args.age c.args.net.now c.args.sensed.now) c.args.cutting.gap c.args.cutting.rate (span_at c.args.cutting.first c.args.cutting.most) c.args.sensed.now.now c.args.series.now c.args.streams.now c.loop-first.platoons.items c.push.new.self.items c.loop-first.from c.in-Some.first c.run_end-end.result c.span_at-most.result c.in_ok-platoon.field-0
    c.loop-first.invariant c.in-Some.ensures.some c.span_at-most.ensures c.run_end-end.ensures.run c.run_end-end.ensures.closed c.in_ok-platoon.ensures c.in_ok-push.ensures.items

pub returns : goal.returns
returns c =
    gathering-all (aged_load_of c.args.age c.args.net.now c.args.sensed.now) c.args.cutting.gap c.args.cutting.rate (span_at c.args.cutting.first c.args.cutting.most) c.args.sensed.now.now (length c.args.series.now) c.args.series.now c.args.streams.now c.loop-first.platoons.items c.loop-first.from
    c.loop-first.invariant c.in_default.ensures.none c.requires.series

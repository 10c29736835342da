use Rattle.std.proofs.Common.{◌<◌, ◌≡◌, ℕ, length, slice_index, ◌∙◌, arith}
use Rattle.arrivals.specs.Amounts.{arriving_of}
use Rattle.net_simulator.specs.Sums.{end_of_run}
use Rattle.net_simulator.specs.Worlds.{line_in, signs_by}
use Rattle.net_simulator.proofs.Passing.{few-of}
use Rattle.spillback_world.proofs.AmpleTotals.{ample-totals}
use Rattle.spillback_world.proofs.Played.{counted}
use Rattle.spillback_world.proofs.Sources.{sources-of}
use Rattle.spillback_world.proofs.lines.spill_lines.Goals as goal

pub advance-requires-clause-stands : goal.advance-requires-clause-stands
advance-requires-clause-stands c = c.in_ok-world.ensures.stands (arriving_of c.args.arrivals.now) (slice_index c.args.store.now) (signs_by (line_in c.args.lines.now.all.now))

pub returns-clause-value : goal.returns-clause-value
returns-clause-value c = counted c.args.net.now c.args.arrivals.now (slice_index c.args.store.now) (signs_by (line_in c.args.lines.now.all.now)) _ _ _ c.totals.ensures.value (omega (arith, c.advance.ensures.second, c.in_ok-world.ensures.second, c.end_of_run-seconds.ensures.value)) c.advance.ensures.stands

pub returns-clause-ample : goal.returns-clause-ample
returns-clause-ample c wide =
    let net = c.args.net.now in
    let arrivals = c.args.arrivals.now in
    let shown = signs_by (line_in c.args.lines.now.all.now) in
    let network = c.law_of_network.ensures in
    let all : (e : ℕ) → e < length net.link_names → slice_index c.args.store.now e ≡ 2000000000 = λ e inside. wide e 0 (omega (arith, inside, c.requires.store)) in
    counted net arrivals (slice_index c.args.store.now) shown _ _ _ c.totals.ensures.value (omega (arith, c.advance.ensures.second, c.in_ok-world.ensures.second, c.end_of_run-seconds.ensures.value)) c.advance.ensures.stands
    ∙ ample-totals net network (arriving_of arrivals) (few-of net network arrivals c.requires.arrivals) (sources-of net arrivals c.requires.arrivals) shown (end_of_run net) (slice_index c.args.store.now) all

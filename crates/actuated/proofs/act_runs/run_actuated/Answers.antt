use Rattle.std.proofs.Common.{◌∙◌}
use Rattle.arrivals.specs.Amounts.{arriving_of}
use Rattle.actuated.proofs.RunLaws.{ended, none-played}
use Rattle.actuated.proofs.act_runs.run_actuated.Goals as goal

pub play_rounds-requires-clause-first : goal.play_rounds-requires-clause-first
play_rounds-requires-clause-first c =
    none-played c.args.net.now (arriving_of c.args.arrivals.now) c.in_ok-lines.lines.items c.in_ok-world.world c.in_ok-lines.ensures c.in_ok-world.ensures.second
    (λ shown. c.in_ok-world.ensures.stands (arriving_of c.args.arrivals.now) shown)

pub returns-clause-run : goal.returns-clause-run
returns-clause-run c =
    (ended c.args.net.now c.law_of_network.ensures (arriving_of c.args.arrivals.now) c.play_rounds.new.world (record { timelines = c.from_vec.result; links = c.from_vec-2.result; totals = c.totals.result }) c.in_ok-lines-2.lines.items
    c.from_vec.ensures c.in_ok-lines-2.ensures (c.from_vec-2.ensures ∙ c.in_ok-links.ensures) c.totals.ensures.value).is_run

pub returns-clause-shape : goal.returns-clause-shape
returns-clause-shape c =
    (ended c.args.net.now c.law_of_network.ensures (arriving_of c.args.arrivals.now) c.play_rounds.new.world (record { timelines = c.from_vec.result; links = c.from_vec-2.result; totals = c.totals.result }) c.in_ok-lines-2.lines.items
    c.from_vec.ensures c.in_ok-lines-2.ensures (c.from_vec-2.ensures ∙ c.in_ok-links.ensures) c.totals.ensures.value).shape

pub returns-clause-safe : goal.returns-clause-safe
returns-clause-safe c =
    (ended c.args.net.now c.law_of_network.ensures (arriving_of c.args.arrivals.now) c.play_rounds.new.world (record { timelines = c.from_vec.result; links = c.from_vec-2.result; totals = c.totals.result }) c.in_ok-lines-2.lines.items
    c.from_vec.ensures c.in_ok-lines-2.ensures (c.from_vec-2.ensures ∙ c.in_ok-links.ensures) c.totals.ensures.value).safe

pub returns-clause-signs : goal.returns-clause-signs
returns-clause-signs c =
    (ended c.args.net.now c.law_of_network.ensures (arriving_of c.args.arrivals.now) c.play_rounds.new.world (record { timelines = c.from_vec.result; links = c.from_vec-2.result; totals = c.totals.result }) c.in_ok-lines-2.lines.items
    c.from_vec.ensures c.in_ok-lines-2.ensures (c.from_vec-2.ensures ∙ c.in_ok-links.ensures) c.totals.ensures.value).signs

pub returns-clause-waits : goal.returns-clause-waits
returns-clause-waits c =
    (ended c.args.net.now c.law_of_network.ensures (arriving_of c.args.arrivals.now) c.play_rounds.new.world (record { timelines = c.from_vec.result; links = c.from_vec-2.result; totals = c.totals.result }) c.in_ok-lines-2.lines.items
    c.from_vec.ensures c.in_ok-lines-2.ensures (c.from_vec-2.ensures ∙ c.in_ok-links.ensures) c.totals.ensures.value).waits

pub returns-clause-clean : goal.returns-clause-clean
returns-clause-clean c =
    (ended c.args.net.now c.law_of_network.ensures (arriving_of c.args.arrivals.now) c.play_rounds.new.world (record { timelines = c.from_vec.result; links = c.from_vec-2.result; totals = c.totals.result }) c.in_ok-lines-2.lines.items
    c.from_vec.ensures c.in_ok-lines-2.ensures (c.from_vec-2.ensures ∙ c.in_ok-links.ensures) c.totals.ensures.value).clean

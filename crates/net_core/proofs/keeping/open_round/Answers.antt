use Rattle.std.proofs.Common.{◌≤◌, ap, length, ◌∙◌, arith}
use Rattle.net_core.specs.States.{busy_count}
use Rattle.net_parts.specs.Limits.{most_nodes}
use Rattle.net_core.proofs.keeping.open_round.Goals as goal

pub begin_round-requires-clause-resting : goal.begin_round-requires-clause-resting
begin_round-requires-clause-resting g c = (c.args.kept.now.history.items, c.args.kept.now.plans.items, c.requires.rests.between)

pub returns-clause-playing : goal.returns-clause-playing
returns-clause-playing g c = record {
  in_round = c.in_ok-begin_round.ensures.in_round c.args.kept.now.history.items c.args.kept.now.plans.items c.requires.rests.between;
  capacity = c.requires.rests.capacity;
  busy = c.busy_count-kept.ensures ∙ ap busy_count c.as_slice.ensures.value;
}

pub busy_count-kept-requires : goal.busy_count-kept-requires
busy_count-kept-requires g c =
    let i = c.in_ok-begin_round.ensures.in_round c.args.kept.now.history.items c.args.kept.now.plans.items c.requires.rests.between in
    let few : length c.args.net.now.node_names ≤ most_nodes = (let most = c.law_of_network.ensures.outline.node_count.1 in omega arith) in
    omega (arith, few, i.all, ap length c.as_slice.ensures.value)

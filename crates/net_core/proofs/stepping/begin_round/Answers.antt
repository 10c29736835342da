use Rattle.std.proofs.Common.{refl, arith, ◌∙◌}
use Rattle.net_core.proofs.Rounds.{begins-all, begins-none}
use Rattle.net_core.proofs.stepping.begin_round.Goals as goal

pub loop-node-init : goal.loop-node-init
loop-node-init g c =
    let p = c.args.parts.now in
    record {
      begins = λ h plans b. begins-none c.args.net.now c.nodes-node-end.ensures.network c.args.arrivals.now h p.round p.boards.items p.world plans p.actors.all.items c.requires.round b;
      round = refl;
    }

pub begin_node-requires-clause-begins : goal.begin_node-requires-clause-begins
begin_node-requires-clause-begins g c =
    let (h, plans, b) = c.requires.resting in
    (h, plans, c.loop-node.invariant.begins h plans b)

pub loop-node-preserved : goal.loop-node-preserved
loop-node-preserved g c = record {
  begins = λ h plans b. c.in_ok-begin_node.ensures.begins h plans (c.loop-node.invariant.begins h plans b);
  round = c.in_ok-begin_node.ensures.round ∙ c.loop-node.invariant.round;
}

pub returns-clause-in_round : goal.returns-clause-in_round
returns-clause-in_round g c = λ h plans b.
    let p = c.loop-node.parts in
    begins-all c.args.net.now c.nodes-node-end.ensures.network c.args.arrivals.now h p.round p.boards.items p.world plans p.actors.all.items c.loop-node.node (omega arith) (c.loop-node.invariant.begins h plans b)

use Rattle.std.proofs.Common.{◌≡◌, Some, rules}
use Rattle.net_parts.specs.declared.roads.Turn.{Turn}
use Rattle.road_net.specs.Joins.{link_at}
use Rattle.std.proofs.lemmas.List.Elements.{All-more}
use Rattle.foundation.proofs.ListLaws.{All-end}
use Rattle.road_net.proofs.joins.turns_leave.Goals as goal

pub loop-turn-preserved : goal.loop-turn-preserved
loop-turn-preserved c = All-more (λ (t : Turn). (link_at c.args.links.now t.exit).from ≡ Some c.args.node) c.args.turns.now c.loop-turn.turn-index (record { exit = 0; share = 0 }) c.loop-turn-test.true c.loop-turn.invariant (search rules)

pub returns : goal.returns
returns c = let all = All-end (λ (t : Turn). (link_at c.args.links.now t.exit).from ≡ Some c.args.node) c.args.turns.now c.loop-turn.turn-index c.loop-turn-test.false c.loop-turn.invariant in (λ _. all, λ _. search rules)

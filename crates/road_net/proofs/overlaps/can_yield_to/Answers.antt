use Rattle.std.proofs.Common.{rules}
use Rattle.std.proofs.lemmas.List.Elements.{All-more}
use Rattle.foundation.proofs.ListLaws.{All-end}
use Rattle.net_parts.specs.Parts.{net_of}
use Rattle.road_net.specs.Joins.{GivesWay}
use Rattle.road_net.proofs.overlaps.can_yield_to.Goals as goal

pub loop-other-preserved : goal.loop-other-preserved
loop-other-preserved c = All-more (GivesWay (net_of c.args.parts.now) c.args.l) c.args.others.now c.loop-other.other-index 0 c.loop-other-test.true c.loop-other.invariant (search rules)

pub returns : goal.returns
returns c = let all = All-end (GivesWay (net_of c.args.parts.now) c.args.l) c.args.others.now c.loop-other.other-index c.loop-other-test.false c.loop-other.invariant in (λ _. all, λ _. search rules)

use Rattle.round_decisions.proofs.OriginLaws.{decision-moved, turn-moved}
use Rattle.round_decisions.proofs.laws.law_of_origins.Goals as goal

pub returns : goal.returns
returns c = record {
  all = λ rounds state moved d other is at one two. decision-moved c.args.net.now c.law_of_network.ensures rounds state moved is at d other one two;
  one = λ rounds node state moved d other is at below one two. turn-moved c.args.net.now c.law_of_network.ensures rounds state moved at node below is d other one two;
}

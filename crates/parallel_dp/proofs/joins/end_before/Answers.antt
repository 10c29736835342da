use Rattle.parallel_dp.proofs.Joining.{ends-before}
use Rattle.parallel_dp.proofs.joins.end_before.Goals as goal

pub returns : goal.returns
returns c = ends-before c.args.entries.now c.args.place c.args.key.now c.place_of.result c.requires.rising c.requires.inside c.requires.before c.place_of.ensures

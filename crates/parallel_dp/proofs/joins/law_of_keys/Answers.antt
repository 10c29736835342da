use Rattle.parallel_dp.proofs.Rising.{same-key-unless-before}
use Rattle.parallel_dp.proofs.joins.law_of_keys.Goals as goal

pub returns : goal.returns
returns c not_less not_more = same-key-unless-before c.args.first.now c.args.second.now (search) (search) not_less not_more

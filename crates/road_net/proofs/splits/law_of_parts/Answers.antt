use Rattle.road_net.proofs.Shares.{parts-whole}
use Rattle.road_net.proofs.splits.law_of_parts.Goals as goal

pub returns : goal.returns
returns c = parts-whole

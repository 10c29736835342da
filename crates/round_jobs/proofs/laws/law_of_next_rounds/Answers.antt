use Rattle.round_jobs.proofs.NextLaws.{decided-whole, refused-whole}
use Rattle.round_jobs.proofs.laws.law_of_next_rounds.Goals as goal

pub returns : goal.returns
returns c = record {
  decided = λ told text whole bytes are within fits is. decided-whole c.args.net.now told text whole are within fits bytes is;
  refused = λ told text whole why are within fits is. refused-whole c.args.net.now told text whole are within fits why is;
}

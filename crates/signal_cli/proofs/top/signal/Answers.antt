use Rattle.command_words.proofs.Calls.{one_call}
use Rattle.signal_cli.proofs.top.signal.Goals as goal

pub returns-in-Some-clause-outcome : goal.returns-in-Some-clause-outcome
returns-in-Some-clause-outcome g c call is = rw (one_call _ call _ is c.in-Some.ensures.some) c.run.ensures

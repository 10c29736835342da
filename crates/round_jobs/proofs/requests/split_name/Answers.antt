use Rattle.round_jobs.proofs.GatherLaws.{only-name, other-names}
use Rattle.round_jobs.proofs.requests.split_name.Goals as goal

pub returns-in-Some-clause-names : goal.returns-in-Some-clause-names
returns-in-Some-clause-names c = other-names c.args.names.now c.in-Some.place c.in-Some.ensures.some

pub returns-in-None-clause-names : goal.returns-in-None-clause-names
returns-in-None-clause-names c = only-name c.args.names.now c.in-None.ensures.none

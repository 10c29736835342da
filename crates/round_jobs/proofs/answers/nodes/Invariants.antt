use Rattle.std.proofs.Common.{[], ◌+◌, length}
use Rattle.std.specs.Option.{option_map_or}
use Rattle.round_jobs.specs.Gathering.{HasDecided}
use Rattle.round_jobs.specs.Requests.{names_in}
use Rattle.round_jobs.proofs.answers.nodes.Given as goal

abbrev pub invariant-loop-left : goal.invariant-loop-left
invariant-loop-left l = HasDecided l.net l.text (names_in l.fn.names) (option_map_or (λ others. names_in others.now) l.left []) l.all.items

abbrev pub decreases-loop-left : goal.decreases-loop-left
decreases-loop-left l = option_map_or (λ others. length others.now + 1) l.left 0

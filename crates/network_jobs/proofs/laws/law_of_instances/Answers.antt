use Rattle.std.proofs.Common.{◌∙◌}
use Rattle.schedule_meaning.proofs.Choosing.{best-least}
use Rattle.network_jobs.proofs.laws.law_of_instances.Goals as goal

pub returns-clause-whole : goal.returns-clause-whole
returns-clause-whole c net arr hist node file round said bytes certificate p text reads written =
    (written.0, written.5, text.agrees written.0 (written.1 ∙ text.only p reads) (best-least written.0.problem written.0.answer written.3))

pub returns-clause-bounded : goal.returns-clause-bounded
returns-clause-bounded c net arr hist node file round said bytes certificate p text reads written =
    (written.0, written.5, text.agrees written.0 (written.1 ∙ text.only p reads) (best-least written.0.problem written.0.answer written.3))

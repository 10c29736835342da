use Rattle.std.proofs.Common.{sym, subst}
use Rattle.histories.specs.Histories.{IsLawful}
use Rattle.histories.specs.Progress.{Course, HasCome}
use Rattle.histories.specs.contracts.progress.Progress.{the_view}
use Rattle.histories.proofs.HowFar.{come-all, come-over, tells}
use Rattle.histories.proofs.progress.Progress.is_over.Goals as goal

pub returns : goal.returns
returns c = λ net h come.
    let p : Course = the_view c.self.inside in
    let here : HasCome net h p = subst (HasCome net h) (sym c.self.view_is) come in
    tells c.self.inside.done c.self.inside.rounds (IsLawful net h) (come-all net h p here) (come-over net h p here)

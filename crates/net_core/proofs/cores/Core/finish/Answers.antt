use Rattle.std.proofs.Common.{◌≡◌, false, sym, ap, ◌∙◌, subst}
use Rattle.arrivals.specs.Amounts.{arriving_of}
use Rattle.histories.specs.Histories.{IsLawful}
use Rattle.runs.specs.Promises.{IsKeptRun}
use Rattle.net_core.specs.Cores.{Course}
use Rattle.net_core.proofs.Over.{over-room, over-run}
use Rattle.net_core.proofs.cores.Core.finish.Goals as goal

pub record_of-requires-clause-plans : goal.record_of-requires-clause-plans
record_of-requires-clause-plans c =
    let own = c.self.inside in
    let fresh : own.spent ≡ false = ap (λ (x : Course). x.spent) c.self.view_is ∙ c.requires.fresh in
    let lawful : IsLawful own.net.now own.kept.history.items = subst (λ (x : Course). IsLawful x.net x.steps) (sym c.self.view_is) c.requires.lawful in
    over-room own.net.now c.law_of_network.ensures own.arrivals.now own.kept.history.items own.kept.plans.items own.parts (c.self.invariant.sound.going fresh).going lawful own.kept.plans

pub returns : goal.returns
returns c =
    let own = c.self.inside in
    let run_record = c.record_of.result in
    let fresh : own.spent ≡ false = ap (λ (x : Course). x.spent) c.self.view_is ∙ c.requires.fresh in
    let lawful : IsLawful own.net.now own.kept.history.items = subst (λ (x : Course). IsLawful x.net x.steps) (sym c.self.view_is) c.requires.lawful in
    let run = over-run own.net.now c.law_of_network.ensures own.arrivals.now own.kept.history.items own.kept.plans.items own.parts (c.self.invariant.sound.going fresh).going lawful run_record c.record_of.ensures in
    let kept = c.law_of_runs.ensures.kept (arriving_of own.arrivals.now) own.kept.history.items run_record lawful run in
    subst (λ (x : Course). IsKeptRun x.net (arriving_of x.arrivals) x.steps run_record) c.self.view_is (record { run = run; kept = kept })

use Rattle.std.proofs.Common.{subst}
use Rattle.std.specs.Prelude.{IfOk, OnOk}
use Rattle.arrivals.specs.Amounts.{arriving_of}
use Rattle.link_boards.specs.Passes.{calls_in}
use Rattle.node_rounds.specs.Calls.{IsRunOfCalls, MergeToLawful}
use Rattle.network_jobs.proofs.Telling.{told}
use Rattle.network_jobs.proofs.rounds.play.Goals as goal

pub returns : goal.returns
returns g c =
    let arriving = arriving_of c.args.arrivals.now in
    let played = c.run_with_passes-run in
    let calls = calls_in played.result.1.items in
    let logs = c.in_ok-logs in
    told c.args.net.now arriving c.in_ok-boards.boards.links played.result.1.items logs.logs.items c.in_ok-run.run' logs.ensures
    (subst (λ r. OnOk r (MergeToLawful c.args.net.now calls)) c.in_ok-run.was played.ensures.lawful)
    (subst (λ r. IfOk r (IsRunOfCalls c.args.net.now arriving calls)) c.in_ok-run.was played.ensures.run)

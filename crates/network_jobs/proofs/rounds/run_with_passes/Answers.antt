use Rattle.std.proofs.Common.{◌≡◌, ◌++◌, ◌∙◌, List, length, take, drop, sym, subst}
use Rattle.std.specs.Prelude.{IfOk, OnOk}
use Rattle.arrivals.specs.Amounts.{arriving_of}
use Rattle.link_boards.specs.Passes.{PassView, calls_in}
use Rattle.node_rounds.specs.Calls.{IsRunOfCalls, MergeToLawful}
use Rattle.node_rounds.proofs.Slices.{put-back}
use Rattle.network_jobs.proofs.rounds.run_with_passes.Goals as goal

pub returns-clause-lawful : goal.returns-clause-lawful
returns-clause-lawful g c =
    let played = c.run_rounds_snap-run.new.passes in
    let dealt = c.args.passes in
    let back : take dealt.len (played ++ drop (length played) dealt.items) ≡ played = put-back dealt.len played dealt.items dealt.ok.0 (c.run_rounds_snap-run.ensures.passes.count ∙ sym c.requires.all.count) in
    subst (λ (passes : List PassView). OnOk c.run_rounds_snap-run.result (MergeToLawful c.args.net.now (calls_in passes))) (sym back) c.run_rounds_snap-run.ensures.lawful

pub returns-clause-run : goal.returns-clause-run
returns-clause-run g c =
    let played = c.run_rounds_snap-run.new.passes in
    let dealt = c.args.passes in
    let back : take dealt.len (played ++ drop (length played) dealt.items) ≡ played = put-back dealt.len played dealt.items dealt.ok.0 (c.run_rounds_snap-run.ensures.passes.count ∙ sym c.requires.all.count) in
    subst (λ (passes : List PassView). IfOk c.run_rounds_snap-run.result (IsRunOfCalls c.args.net.now (arriving_of c.args.arrivals.now) (calls_in passes))) (sym back) c.run_rounds_snap-run.ensures.run

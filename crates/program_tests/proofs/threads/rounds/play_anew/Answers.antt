use Rattle.std.proofs.Common.{arith}
use Rattle.node_rounds.proofs.FreshPasses.{calls-count}
use Rattle.program_tests.proofs.threads.rounds.play_anew.Goals as goal

pub new-requires-clause-passes : goal.new-requires-clause-passes
new-requires-clause-passes g c =
    let few = c.law_of_network.ensures.outline.node_count in
    let count = calls-count c.args.net.now c.as_slice.result.now c.in_ok-calls.calls.items c.as_slice.ensures.value c.in_ok-calls.ensures.value in (omega arith, omega arith)

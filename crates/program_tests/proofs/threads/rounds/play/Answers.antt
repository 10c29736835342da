use Rattle.std.proofs.Common.{◌≡◌, [], length, subst, sym, ap, ◌∙◌}
use Rattle.std.specs.Prelude.{All}
use Rattle.link_boards.specs.Passes.{PassView}
use Rattle.node_rounds.specs.Calls.{HaveCallsLeft, node_calls}
use Rattle.node_rounds.proofs.FreshPasses.{fresh-count, fresh-left, fresh-none, node-count}
use Rattle.program_tests.proofs.threads.rounds.play.Goals as goal

pub run_rounds-requires-clause-nodes : goal.run_rounds-requires-clause-nodes
run_rounds-requires-clause-nodes g c κs within =
    ap length c.requires.passes ∙ fresh-count c.args.boards.now.id (node_calls c.args.net.now) ∙ node-count c.args.net.now

pub run_rounds-requires-clause-fresh : goal.run_rounds-requires-clause-fresh
run_rounds-requires-clause-fresh g c κs within =
    subst (All (λ (p : PassView). p.calls ≡ [])) (sym c.requires.passes) (fresh-none c.args.boards.now.id (node_calls c.args.net.now))

pub run_rounds-requires-clause-left : goal.run_rounds-requires-clause-left
run_rounds-requires-clause-left g c κs within =
    subst (HaveCallsLeft c.args.net.now) (sym c.requires.passes) (fresh-left c.args.net.now c.args.boards.now.id)

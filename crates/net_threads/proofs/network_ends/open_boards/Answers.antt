use Rattle.std.proofs.Common.{◌≡◌, ℕ, List, [], Option, length, subst, sym, ap, ◌∙◌, arith}
use Rattle.std.specs.Prelude.{All}
use Rattle.link_boards.specs.Passes.{PassView, fresh_passes}
use Rattle.net_threads.proofs.EndLaws.{ends-count}
use Rattle.node_rounds.specs.Calls.{HaveCallsLeft}
use Rattle.node_rounds.proofs.FreshPasses.{calls-count, fresh-count, fresh-left, fresh-none}
use Rattle.snap_boards.specs.declared.ends.Ends.{Ends}
use Rattle.snap_boards.specs.Boards.{AreAllEnds}
use Rattle.net_threads.proofs.network_ends.open_boards.Goals as goal

pub new-requires-clause-links : goal.new-requires-clause-links
new-requires-clause-links g c =
    let network = c.law_of_network.ensures in let few = network.outline.link_count in
    let count = ends-count c.args.net.now c.as_slice.result.now c.in_ok-ends.ends.items network c.as_slice.ensures.value c.in_ok-ends.ensures.ends in (omega arith, omega arith)

pub new-requires-clause-passes : goal.new-requires-clause-passes
new-requires-clause-passes g c =
    let few = c.law_of_network.ensures.outline.node_count in
    let count = calls-count c.args.net.now c.as_slice-2.result.now c.in_ok-calls.calls.items c.as_slice-2.ensures.value c.in_ok-calls.ensures.value in (omega arith, omega arith)

pub new-requires-clause-ends : goal.new-requires-clause-ends
new-requires-clause-ends g c =
    let count = calls-count c.args.net.now c.as_slice-2.result.now c.in_ok-calls.calls.items c.as_slice-2.ensures.value c.in_ok-calls.ensures.value in
    subst (λ (z : ℕ × List (Option Ends)). AreAllEnds z.0 z.1) (λ i. (sym count i, sym c.as_slice.ensures.value i)) c.in_ok-ends.ensures.nodes

pub returns-clause-links : goal.returns-clause-links
returns-clause-links g c =
    c.in_ok-boards.ensures.boards.0 ∙ ends-count c.args.net.now c.as_slice.result.now c.in_ok-ends.ends.items c.law_of_network.ensures c.as_slice.ensures.value c.in_ok-ends.ensures.ends

pub returns-clause-nodes : goal.returns-clause-nodes
returns-clause-nodes g c =
    ap length c.in_ok-boards.ensures.passes ∙ fresh-count c.in_ok-boards.boards.id c.as_slice-2.result.now ∙ calls-count c.args.net.now c.as_slice-2.result.now c.in_ok-calls.calls.items c.as_slice-2.ensures.value c.in_ok-calls.ensures.value

pub returns-clause-fresh : goal.returns-clause-fresh
returns-clause-fresh g c =
    subst (All (λ (p : PassView). p.calls ≡ [])) (sym c.in_ok-boards.ensures.passes) (fresh-none c.in_ok-boards.boards.id c.as_slice-2.result.now)

pub returns-clause-left : goal.returns-clause-left
returns-clause-left g c =
    let passes = c.in_ok-boards.ensures.passes ∙ ap (fresh_passes c.in_ok-boards.boards.id) (c.as_slice-2.ensures.value ∙ c.in_ok-calls.ensures.value) in
    subst (HaveCallsLeft c.args.net.now) (sym passes) (fresh-left c.args.net.now c.in_ok-boards.boards.id)

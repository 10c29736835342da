use Rattle.std.proofs.Common.{◌≡◌, ◌≤◌, ◌*◌, length, map, ap, sym, ◌∙◌, subst, arith}
use Rattle.std.specs.List.{range_with_len, sum}
use Rattle.board_model.specs.Boards.{most_versions}
use Rattle.histories.specs.Steps.{board_steps}
use Rattle.node_rounds.specs.Calls.{node_calls}
use Rattle.node_rounds.proofs.CallSums.{calls-few, calls-more}
use Rattle.node_rounds.proofs.calls.node_calls.Goals as goal

pub loop-node-preserved : goal.loop-node-preserved
loop-node-preserved c = calls-more c.args.net.now c.loop-node.node c.run-rounds.result.rounds c.step_count.result c.loop-node.calls.items c.push.new.self.items c.in_ok-push.ensures.items c.loop-node.invariant (ap (λ r. r.rounds) c.run-rounds.ensures.value) c.step_count.ensures.value

pub returns-clause-few : goal.returns-clause-few
returns-clause-few c =
    let net = c.args.net.now in
    let end : c.loop-node.node ≡ length net.node_names = (let past = c.loop-node-test.false in let most = c.loop-node.auto.node-end in let count = c.nodes-nodes.ensures.value in omega arith) in
    let all : c.loop-node.calls.items ≡ node_calls net = c.loop-node.invariant ∙ ap (λ n. map (λ node. net.run.rounds * length (board_steps net node)) (range_with_len 0 n)) end in
    subst (λ calls. sum calls ≤ most_versions) (sym all) (calls-few net c.law_of_network.ensures)

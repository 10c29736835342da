use Rattle.clusters.proofs.TakingLaws.{fronts-plannable, fronts-node, window-made}
use Rattle.clusters.proofs.windows.window.Goals as goal

pub returns-clause-window : goal.returns-clause-window
returns-clause-window c =
    rw c.from_vec.ensures
    (window-made c.args.lists.items c.longest_front.new.counts c.fronts-lists.result.items c.count_waiting-waiting.result c.fronts-lists.ensures
    (rw c.as_slice.ensures.value at c.longest_front.ensures)
    (rw c.as_slice-2.ensures.value at c.count_waiting-waiting.ensures))

pub returns-clause-clusters : goal.returns-clause-clusters
returns-clause-clusters c = λ all.
    rw c.from_vec.ensures
    (fronts-plannable c.args.lists.items c.longest_front.new.counts c.fronts-lists.result.items c.fronts-lists.ensures (rw c.as_slice.ensures.value at c.longest_front.ensures) all)

pub returns-clause-node : goal.returns-clause-node
returns-clause-node c = λ net node now all.
    rw c.from_vec.ensures (fronts-node net node now c.args.lists.items c.longest_front.new.counts c.fronts-lists.result.items c.fronts-lists.ensures all)

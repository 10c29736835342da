use Rattle.std.proofs.Common.{OnOk, refl, subst}
use Rattle.node_rounds.specs.Nodes.{HasPlayedOn, IsSamePass}
use Rattle.net_threads.specs.declared.node_tasks.Node.{Node}
use Rattle.net_threads.proofs.node_tasks.NodeTaskTask.run.Goals as goal

pub returns : goal.returns
returns g c =
    let new = c.go_on-ended.new.node in
    let set = c.args.self.setting in
    record {
      same = record { net = refl; boards = refl; pass = subst (λ (n : Node _ _ _). IsSamePass n.pass new.pass) c.deref_mut.ensures.value c.go_on-ended.ensures.same };
      played = subst (λ (n : Node _ _ _). OnOk c.go_on-ended.result (HasPlayedOn set.net.now set.round set.boards.now n.actor new.actor n.pass new.pass)) c.deref_mut.ensures.value c.go_on-ended.ensures.played;
    }

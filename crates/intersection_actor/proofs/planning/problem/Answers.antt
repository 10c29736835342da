use Rattle.std.proofs.Common.{◌≡◌, ◌∙◌, ap}
use Rattle.intersection_actor.proofs.PlanLaws.{lists-short}
use Rattle.clusters.specs.Sound.{cluster_lists}
use Rattle.intersection_actor.proofs.planning.problem.Goals as goal

pub new-requires : goal.new-requires
new-requires c =
    let same : c.in_ok-lists.lists.items ≡ cluster_lists c.args.window.now.lists = c.in_ok-lists.ensures ∙ ap cluster_lists c.as_slice.ensures in
    rw same (lists-short (cluster_lists c.args.window.now.lists) c.requires.plannable.few)

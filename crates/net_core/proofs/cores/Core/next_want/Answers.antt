use Rattle.std.proofs.Common.{◌≡◌, ◌<◌, false, length, subst, sym, ap, ◌∙◌}
use Rattle.net_core.specs.Cores.{Course, IsWanted}
use Rattle.net_core.proofs.Turns.{next-wanted}
use Rattle.net_core.proofs.cores.Core.next_want.Goals as goal

pub returns : goal.returns
returns c =
    let fresh : c.self.inside.spent ≡ false = ap (λ (course : Course). course.spent) c.self.view_is ∙ c.requires.spent in
    let below : c.args.node < length c.self.inside.net.now.node_names = subst (λ (course : Course). c.args.node < length course.net.node_names) (sym c.self.view_is) c.requires.node in
    subst (λ (course : Course). IsWanted course.net course.steps c.args.node c.want.result) c.self.view_is
    (subst (IsWanted c.self.inside.net.now c.self.inside.kept.history.items c.args.node) (sym c.want.ensures)
    (next-wanted c.self.inside.net.now c.law_of_network.ensures c.self.inside.arrivals.now c.self.inside.parts c.self.inside.kept c.self.inside.spent c.self.invariant.sound fresh c.args.node c.index.result.now below c.index.ensures))

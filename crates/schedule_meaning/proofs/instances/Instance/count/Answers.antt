use Rattle.std.proofs.Common.{◌^◌, ◌<◌, length, All, sym, subst}
use Rattle.schedule_meaning.proofs.Sequences.{short-lists}
use Rattle.schedule_meaning.proofs.instances.Instance.count.Goals as goal

pub count_clusters-requires-clause-short : goal.count_clusters-requires-clause-short
count_clusters-requires-clause-short c =
    subst (All (λ list. length list < 2 ^ 32)) (sym c.as_slice.ensures) (short-lists c.self.inside.lists c.self.invariant.few)

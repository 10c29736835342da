use Rattle.std.proofs.Common.{◌<◌, ◌∙◌, length, refl, sym}
use Rattle.std.proofs.lemmas.Bool.{false≢true}
use Rattle.net_parts.specs.Parts.{net_of}
use Rattle.road_net.proofs.joins.check_conflicts.Goals as goal

pub returns-then-not-can_conflict : goal.returns-then-not-can_conflict
returns-then-not-can_conflict c =
    let is = c.as_slice-conflicts.ensures.value in
    let inside : c.loop-a.a-index < length c.args.parts.now.conflicts.items = rw is at c.loop-a-test.true in (
      c.loop-a.a-index,
      rw is refl,
      record {
        below = inside;
        before = c.loop-a.invariant;
        here = λ ok. false≢true (sym c.if-not-can_conflict.true ∙ c.can_conflict.ensures.1 (rw is ok));
      },
    )

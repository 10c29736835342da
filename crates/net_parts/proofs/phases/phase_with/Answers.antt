use Rattle.std.proofs.Common.{[], sym}
use Rattle.std.proofs.lemmas.List.{get_or_default}
use Rattle.net_parts.specs.Numbers.{has_link}
use Rattle.foundation.proofs.PositionLaws.{position-first}
use Rattle.net_parts.proofs.phases.phase_with.Goals as goal

pub returns-then-contains : goal.returns-then-contains
returns-then-contains c =
    sym (position-first (has_link c.args.link) c.args.phases.now [] c.loop-index.index c.loop-index-test.true c.loop-index.invariant
    (rw (get_or_default c.args.phases.now c.loop-index.index [] c.index-phases-index.result c.loop-index-test.true, ← c.index-phases-index.is, ← c.as_slice.ensures, ← c.contains.ensures.value) c.if-contains.true))

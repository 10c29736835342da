use Rattle.std.proofs.Common.{◌∙◌, ap, Err}
use Rattle.std.proofs.lemmas.Result.{err_from_is_err_and}
use Rattle.net_parts.specs.Numbers.{turn_of}
use Rattle.foundation.proofs.EachLaws.{each-more, each-good}
use Rattle.net_build.proofs.FirstFaults.{IsUnknownAt-weaker}
use Rattle.foundation.proofs.FirstLaws.{FromOne-here}
use Rattle.net_parts.specs.declared.faults.Place.{Place}
use Rattle.net_parts.specs.FirstFaults.{IsKnownTurn}
use Rattle.net_parts.proofs.Known.{turn-known}
use Rattle.net_build.proofs.numbering.turns.Goals as goal

pub returns-in_err-turn : goal.returns-in_err-turn
returns-in_err-turn c =
    let p = err_from_is_err_and c.from_residual.result c.from_residual.ensures.1 in
    let names = c.args.names.now in
    let earlier = each-good (turn_of names) (IsKnownTurn names) (turn-known names) _ c.loop-index.numbered.items c.loop-index.invariant in
    rw (p.1 ∙ ap Err p.2) (IsUnknownAt-weaker _ _ c.in_err-turn.field-0.0
    (λ place why.
    let same = why.0 ∙ c.place.ensures in (
      ap (λ (q : Place). q.part) same,
      ap (λ (q : Place). q.item) same,
      FromOne-here (IsKnownTurn names) (λ t. IsKnownTurn names t → ⊥) c.args.turns.now c.loop-index.index c.index-turns-index.result place.sub (ap (λ (q : Place). q.sub) same) c.loop-index-test.true c.index-turns-index.is earlier why.1,
    ))
    c.in_err-turn.ensures)

pub loop-index-preserved : goal.loop-index-preserved
loop-index-preserved c =
    rw c.in_ok-push.ensures.items (each-more (turn_of c.args.names.now) c.args.turns.now c.loop-index.index c.index-turns-index.result c.loop-index.numbered.items c.in_ok-turn.turn c.loop-index-test.true c.index-turns-index.is c.loop-index.invariant c.in_ok-turn.ensures)

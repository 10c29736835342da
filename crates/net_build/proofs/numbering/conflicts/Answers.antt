use Rattle.std.proofs.Common.{◌∙◌, ap, Err}
use Rattle.std.proofs.lemmas.Result.{err_from_is_err_and}
use Rattle.net_parts.specs.Numbers.{conflict_of}
use Rattle.foundation.proofs.EachLaws.{each-more}
use Rattle.net_build.proofs.FirstFaults.{IsUnknownAt-weaker}
use Rattle.foundation.proofs.FirstLaws.{FromOne-here}
use Rattle.net_parts.specs.declared.faults.Place.{Place}
use Rattle.net_parts.specs.FirstFaults.{IsKnownConflict}
use Rattle.net_parts.proofs.Known.{conflicts-known}
use Rattle.net_build.proofs.numbering.conflicts.Goals as goal

pub returns-in_err-pair : goal.returns-in_err-pair
returns-in_err-pair c =
    let p = err_from_is_err_and c.from_residual.result c.from_residual.ensures.1 in
    let names = c.args.names.now in
    let earlier = conflicts-known names _ c.loop-index.pairs.items c.loop-index.invariant in
    rw (p.1 ∙ ap Err p.2) (IsUnknownAt-weaker _ _ c.in_err-pair.field-0.0
    (λ place why.
    let same = why.0 ∙ c.place-place.ensures in (
      ap (λ (q : Place). q.part) same,
      ap (λ (q : Place). q.sub) same,
      FromOne-here (IsKnownConflict names) (λ x. IsKnownConflict names x → ⊥) c.args.conflicts.now c.loop-index.index c.index-conflicts-index.result place.item (ap (λ (q : Place). q.item) same) c.loop-index-test.true c.index-conflicts-index.is earlier why.1,
    ))
    c.in_err-pair.ensures)

pub loop-index-preserved : goal.loop-index-preserved
loop-index-preserved c =
    rw c.in_ok-push.ensures.items (each-more (conflict_of c.args.names.now) c.args.conflicts.now c.loop-index.index c.index-conflicts-index.result c.loop-index.pairs.items c.in_ok-pair.pair c.loop-index-test.true c.index-conflicts-index.is c.loop-index.invariant c.in_ok-pair.ensures)

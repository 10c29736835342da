use Rattle.std.proofs.Common.{◌∙◌, ap, sym, Err, Some}
use Rattle.std.proofs.lemmas.Result.{err_from_is_err_and}
use Rattle.foundation.specs.Options.{each}
use Rattle.net_parts.specs.declared.drafts.DraftPhase.{DraftPhase}
use Rattle.net_parts.specs.Numbers.{number_of}
use Rattle.foundation.proofs.EachLaws.{each-more, each-end}
use Rattle.net_build.proofs.FirstFaults.{IsUnknownAt-weaker}
use Rattle.net_build.proofs.Greens.{phase-whole}
use Rattle.foundation.proofs.FirstLaws.{FromOne-here}
use Rattle.net_parts.specs.declared.faults.Place.{Place}
use Rattle.net_parts.specs.FirstFaults.{IsKnownPhase}
use Rattle.net_parts.proofs.Known.{phases-known}
use Rattle.net_build.proofs.numbering.links_of_phases.Goals as goal

pub returns-in_err-links : goal.returns-in_err-links
returns-in_err-links c =
    let p = err_from_is_err_and c.from_residual.result c.from_residual.ensures.1 in
    let names = c.args.names.now in
    let earlier = phases-known names _ c.loop-index.serves.items c.loop-index.further.items c.loop-index.invariant.serves c.loop-index.invariant.also in
    rw (p.1 ∙ ap Err p.2) (IsUnknownAt-weaker _ _ c.in_err-links.field-0.0
    (λ place why.
    let same = why.0 ∙ c.place-place.ensures in (
      ap (λ (q : Place). q.part) same,
      ap (λ (q : Place). q.item) same,
      FromOne-here (IsKnownPhase names) (λ p. IsKnownPhase names p → ⊥) c.args.phases.now c.loop-index.index c.index-phases-index.result place.sub (ap (λ (q : Place). q.sub) same) c.loop-index-test.true c.index-phases-index.is earlier (λ known. (rw c.as_slice.ensures at why.1) known.links),
    ))
    c.in_err-links.ensures)

pub returns-in_err-also : goal.returns-in_err-also
returns-in_err-also c =
    let p = err_from_is_err_and c.from_residual-in_err-also.result c.from_residual-in_err-also.ensures.1 in
    let names = c.args.names.now in
    let earlier = phases-known names _ c.loop-index.serves.items c.loop-index.further.items c.loop-index.invariant.serves c.loop-index.invariant.also in
    rw (p.1 ∙ ap Err p.2) (IsUnknownAt-weaker _ _ c.in_err-also.field-0.0
    (λ place why.
    let same = why.0 ∙ c.place-place.ensures in (
      ap (λ (q : Place). q.part) same,
      ap (λ (q : Place). q.item) same,
      FromOne-here (IsKnownPhase names) (λ p. IsKnownPhase names p → ⊥) c.args.phases.now c.loop-index.index c.index-phases-index.result place.sub (ap (λ (q : Place). q.sub) same) c.loop-index-test.true c.index-phases-index.is earlier (λ known. (rw c.as_slice-in-loop-index.ensures at why.1) known.also),
    ))
    c.in_err-also.ensures)

pub loop-index-preserved : goal.loop-index-preserved
loop-index-preserved c =
    record {
      serves = rw c.in_ok-push.ensures.items (each-more (λ (p : DraftPhase). each (number_of c.args.names.now) p.links) c.args.phases.now c.loop-index.index c.index-phases-index.result c.loop-index.serves.items c.from_vec.result c.loop-index-test.true c.index-phases-index.is c.loop-index.invariant.serves ((rw c.as_slice.ensures at c.in_ok-links.ensures) ∙ ap Some (sym c.from_vec.ensures)));
      also = rw c.in_ok-push-2.ensures.items (each-more (λ (p : DraftPhase). each (number_of c.args.names.now) p.also) c.args.phases.now c.loop-index.index c.index-phases-index.result c.loop-index.further.items c.from_vec-in-loop-index.result c.loop-index-test.true c.index-phases-index.is c.loop-index.invariant.also ((rw c.as_slice-in-loop-index.ensures at c.in_ok-also.ensures) ∙ ap Some (sym c.from_vec-in-loop-index.ensures)));
    }

pub returns : goal.returns
returns c =
    let names = c.args.names.now in
    let phases = c.args.phases.now in
    phase-whole names phases _ _ (each-end (λ (p : DraftPhase). each (number_of names) p.links) phases c.loop-index.index c.loop-index.serves.items c.loop-index-test.false c.loop-index.invariant.serves)
    (each-end (λ (p : DraftPhase). each (number_of names) p.also) phases c.loop-index.index c.loop-index.further.items c.loop-index-test.false c.loop-index.invariant.also)

use Rattle.std.proofs.Common.{◌≡◌, ◌+◌, ◌-◌, ◌∙◌, ◌≤◌, [], All, Contains, List, get_or, length, refl, subst, sym, arith}
use Rattle.std.proofs.lemmas.List.Elements.{Contains-get_or}
use Rattle.schedule_meaning.specs.Best.{IsBest}
use Rattle.schedule_meaning.specs.Instances.{Problem, IsInstance}
use Rattle.dp_certificate.specs.declared.Entry.{Entry}
use Rattle.schedule_meaning.specs.declared.planners.Answer.TheVariants.{Plan}
use Rattle.parallel_dp.specs.Pieces.{IsLayer}
use Rattle.parallel_dp.specs.Ways.{AreLayers, IsLeastDelay, servings_of}
use Rattle.parallel_dp.proofs.LayerLaws.{list-at}
use Rattle.parallel_dp.proofs.WayLaws.{best-first, least-here, no-plan, none-holds, start-here, start-inside}
use Rattle.parallel_dp.proofs.ways.answer_of_layers.Goals as goal

module _ (p : Problem) (lawful : IsInstance p) (layers : List (List Entry)) (d last : List Entry) (are : AreLayers p (servings_of p + 1) layers) (is : last ≡ get_or layers (length layers - 1) d) where
  last-layer : IsLayer p (servings_of p) last
  last-layer = subst (λ n. IsLayer p n last) (omega (arith, are.long)) (list-at (IsLayer p) (servings_of p + 1) layers (length layers - 1) d last are (omega (arith, are.long)) is)

  least-last : (best : Entry) → Contains last best → All (λ e. best.delay ≤ e.delay) last → IsLeastDelay p best.delay
  least-last best among low = least-here p lawful best.delay last best last-layer among refl low

pub returns-in_default : goal.returns-in_default
returns-in_default g c =
    no-plan c.args.i.now c.requires.lawful c.as_slice.result.now
    (last-layer c.args.i.now c.requires.lawful c.args.layers.now _ c.as_slice.result.now c.requires.layers (c.as_slice.ensures ∙ c.index-layers-layers.is))
    (none-holds c.cheapest.result (c.as_slice.result.now ≡ []) c.in_default.not-Some c.cheapest.ensures.none)

pub all_ways-requires-clause-delay : goal.all_ways-requires-clause-delay
all_ways-requires-clause-delay g c =
    least-last c.args.i.now c.requires.lawful c.args.layers.now _ c.as_slice.result.now c.requires.layers (c.as_slice.ensures ∙ c.index-layers-layers.is) c.in-Some.best c.in-Some.ensures.among c.in-Some.ensures.least

pub bounds-as_slice-0 : goal.bounds-as_slice-0
bounds-as_slice-0 g c =
    let p = c.args.i.now in
    let is : IsLayer p 0 c.as_slice-2.result.now = list-at (IsLayer p) (servings_of p + 1) c.args.layers.now 0 _ _ c.requires.layers (omega arith) (c.as_slice-2.ensures ∙ c.index-layers-0.is) in
    omega (arith, start-inside p c.requires.lawful c.as_slice-2.result.now is)

pub follow-requires-clause-start : goal.follow-requires-clause-start
follow-requires-clause-start g c =
    let p = c.args.i.now in
    let is : IsLayer p 0 c.as_slice-2.result.now = list-at (IsLayer p) (servings_of p + 1) c.args.layers.now 0 _ _ c.requires.layers (omega arith) (c.as_slice-2.ensures ∙ c.index-layers-0.is) in
    start-here p c.requires.lawful c.as_slice-2.result.now _ is (Contains-get_or c.as_slice-2.result.now 0 _ (start-inside p c.requires.lawful c.as_slice-2.result.now is))

pub follow-requires-clause-delay : goal.follow-requires-clause-delay
follow-requires-clause-delay g c =
    least-last c.args.i.now c.requires.lawful c.args.layers.now _ c.as_slice.result.now c.requires.layers (c.as_slice.ensures ∙ c.index-layers-layers.is) c.in-Some.best c.in-Some.ensures.among c.in-Some.ensures.least

pub returns : goal.returns
returns g c =
    subst (λ xs. IsBest c.args.i.now (Plan xs c.in-Some.best.delay)) (sym c.from_vec.ensures)
    (best-first c.args.i.now c.requires.lawful c.in_ok-sequence.sequence.items c.in-Some.best.delay
    (least-last c.args.i.now c.requires.lawful c.args.layers.now _ c.as_slice.result.now c.requires.layers (c.as_slice.ensures ∙ c.index-layers-layers.is) c.in-Some.best c.in-Some.ensures.among c.in-Some.ensures.least)
    c.in_ok-sequence.ensures)

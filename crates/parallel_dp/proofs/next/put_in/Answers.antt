use Rattle.std.proofs.Common.{◌∙◌, [], ◌∷◌, refl, subst, sym}
use Rattle.std.proofs.lemmas.List.{get_or_default}
use Rattle.dp_certificate.specs.Certificates.{no_entry}
use Rattle.dp_certificate.specs.Places.{IsPlace}
use Rattle.parallel_dp.specs.Next.{HasKeyAt, HasNoKeyAt}
use Rattle.parallel_dp.specs.Pieces.{IsJoinOf}
use Rattle.parallel_dp.proofs.NextLaws.{put_new, put_there}
use Rattle.parallel_dp.proofs.next.put_in.Goals as goal

pub returns-then-has_key_at : goal.returns-then-has_key_at
returns-then-has_key_at c =
    let there = subst (λ xs. HasKeyAt xs c.args.entry c.place_of-place.result) c.as_slice-2.ensures.value (c.if-has_key_at.ensures.some refl) in
    put_there c.args.entries.now.items c.args.entry c.cheaper.result _ c.place_of-place.result c.requires there
    (c.index.ensures ∙ get_or_default c.args.entries.now.items c.place_of-place.result _ no_entry there.inside) c.cheaper.ensures.either c.cheaper.ensures.first c.cheaper.ensures.second

pub returns : goal.returns
returns c =
    subst (IsJoinOf c.args.entries.now.items (c.args.entry ∷ [])) (sym c.in_ok-insert.ensures.items)
    (put_new c.args.entries.now.items c.args.entry c.place_of-place.result c.requires
    (subst (λ xs. IsPlace xs c.args.entry c.place_of-place.result) c.as_slice.ensures.value c.place_of-place.ensures)
    (subst (λ xs. HasNoKeyAt xs c.args.entry c.place_of-place.result) c.as_slice-2.ensures.value (c.if-has_key_at.ensures.none refl)))

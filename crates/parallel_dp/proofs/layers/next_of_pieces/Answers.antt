use Rattle.std.specs.List.{range_with_len}
use Rattle.std.proofs.Common.{All, ◌≡◌, ◌+◌, ◌-◌, ◌*◌, ◌/◌, ◌≤◌, ◌∙◌, ap, length, arith}
use Rattle.dp_certificate.specs.Certificates.{IsEntry}
use Rattle.rayon.specs.Numbers.{nat_range}
use Rattle.rayon.proofs.ToStd.{nat_range-All}
use Rattle.parallel_dp.proofs.LayerLaws.{pieces-enough, pieces-made, place-within}
use Rattle.parallel_dp.proofs.layers.next_of_pieces.Goals as goal

pub collect-requires-clause-ready : goal.collect-requires-clause-ready
collect-requires-clause-ready g c κs o =
    let ends = c.into_par_iter.ensures in
    let inside = nat_range-All (λ k. (k * c.args.width ≤ length c.args.layer.now) × All (IsEntry c.args.i.now) c.args.layer.now) 0 (length c.args.layer.now / c.args.width + 1)
    (λ k low high. (place-within k c.args.width (length c.args.layer.now) high, c.requires.entries)) in
    rw (c.map.ensures.base, c.map.ensures.f, c.with_min_len.ensures.base, ends.0, ends.1) (λ k d lt. (inside k d lt, λ y p. tt))

pub returns : goal.returns
returns g c =
    let ends = c.into_par_iter.ensures in
    let n = length c.args.layer.now / c.args.width + 1 in
    let whole : n - 0 ≡ n = omega arith in
    let h = c.in_ok-collect.ensures in
    let chain = rw (c.map.ensures.base, c.map.ensures.f, c.with_min_len.ensures.base) at h.1 in
    let places = chain.1 ∙ (λ i. nat_range (ends.0 i) (ends.1 i)) ∙ ap (range_with_len 0) whole in
    pieces-made (λ v. v.items) c.args.i.now c.args.layer.now c.args.width n chain.0 h.0 c.in_ok-collect.field-0 (pieces-enough c.args.width (length c.args.layer.now) c.requires.width.0) places chain.2 h.2

use Rattle.std.proofs.Common.{◌≡◌, ◌+◌, ◌-◌, ◌<◌, ◌≤◌, ◌∷◌, ◌++◌, length, drop, ap, sym, ◌∙◌, arith}
use Rattle.std.specs.Fmt.{decimal}
use Rattle.std.specs.List.{flat_map}
use Rattle.certificate_form.specs.CertificateText.{after_space}
use Rattle.text_lines.proofs.LineLaws.{digits-byte, numbers-more, spaced-length}
use Rattle.certificate_form.proofs.writing.put_counts.Goals as goal

pub put_spaced-requires : goal.put_spaced-requires
put_spaced-requires c =
    let short : length (decimal c.from.result) ≤ 3 = digits-byte c.from.result (omega (arith, c.from.ensures, c.type_inv.counts (c.loop-place.place - 1))) in
    omega (arith, c.loop-place.invariant.room, short, c.requires.few, c.requires.room)

pub loop-place-preserved : goal.loop-place-preserved
loop-place-preserved c =
    let counts = c.args.counts.now in
    let i = c.loop-place.place - 1 in
    let short : length (decimal c.from.result) ≤ 3 = digits-byte c.from.result (omega (arith, c.from.ensures, c.type_inv.counts (c.loop-place.place - 1))) in
    let inside : i < length counts = omega arith in
    let same : i + 1 ≡ c.loop-place.place = omega arith in
    record {
      text = numbers-more counts i c.loop-place.line c.put_spaced.new.self c.args.line.now inside (c.put_spaced.ensures ∙ ap (λ n. 32 ∷ (decimal n ++ c.loop-place.line)) c.from.ensures)
          (c.loop-place.invariant.text ∙ ap (λ n. flat_map after_space (drop n counts) ++ c.args.line.now) (sym same));
      room = omega (arith, spaced-length c.loop-place.line c.put_spaced.new.self c.from.result 3 c.put_spaced.ensures short, c.loop-place.invariant.room);
    }

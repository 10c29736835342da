use Rattle.std.proofs.Common.{◌≡◌, ◌+◌, ◌-◌, ◌<◌, ◌≤◌, ◌++◌, length, get_or, drop, ap, sym, ◌∙◌, arith}
use Rattle.std.specs.Fmt.{decimal}
use Rattle.std.specs.List.{flat_map}
use Rattle.text_lines.specs.Numbers.{after_space}
use Rattle.text_lines.proofs.LineLaws.{digits-long, numbers-more, spaced-length}
use Rattle.text_lines.proofs.lines.put_numbers.Goals as goal

pub put_spaced-requires : goal.put_spaced-requires
put_spaced-requires c =
    let i = c.loop-place.place - 1 in
    omega (arith, c.loop-place.invariant.room, digits-long (get_or c.args.numbers.now i 0) (omega (arith, c.type_inv.numbers i)))

pub loop-place-preserved : goal.loop-place-preserved
loop-place-preserved c =
    let numbers = c.args.numbers.now in
    let i = c.loop-place.place - 1 in
    let short : length (decimal (get_or numbers i 0)) ≤ 20 = digits-long (get_or numbers i 0) (omega (arith, c.type_inv.numbers i)) in
    let inside : i < length numbers = omega arith in
    let same : i + 1 ≡ c.loop-place.place = omega arith in
    record {
      text = numbers-more numbers i c.loop-place.filled c.put_spaced.new.self c.args.filled.now inside c.put_spaced.ensures
          (c.loop-place.invariant.text ∙ ap (λ n. flat_map after_space (drop n numbers) ++ c.args.filled.now) (sym same));
      room = omega (arith, spaced-length c.loop-place.filled c.put_spaced.new.self (get_or numbers i 0) 20 c.put_spaced.ensures short, c.loop-place.invariant.room);
    }

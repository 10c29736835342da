use Rattle.std.proofs.Common.{◌≡◌, ◌∷◌, length, map, ap, arith, rules}
use Rattle.std.specs.Fmt.{decimal}
use Rattle.text_lines.specs.Lines.{line}
use Rattle.text_lines.proofs.LineLaws.{written_line}
use Rattle.text_lines.proofs.lines.push_line.Goals as goal

pub put_numbers-requires : goal.put_numbers-requires
put_numbers-requires c = omega (arith, ap length c.put_byte.ensures, ap length c.new-filled.ensures)

pub put_word-requires : goal.put_word-requires
put_word-requires c = omega (arith, ap length c.put_byte.ensures, ap length c.new-filled.ensures, c.put_numbers.ensures.room)

pub returns : goal.returns
returns c =
    let before = c.args.text.now.items in
    let numbers = c.args.numbers.now in
    let word = c.args.word.now in
    let made : c.as_bytes.result.now ≡ line (word ∷ map decimal numbers) = cc (c.as_bytes.ensures, c.put_word.ensures, c.put_numbers.ensures.text, c.put_byte.ensures, c.new-filled.ensures, written_line word numbers) in
    rw (← made) (search rules)

use Rattle.std.proofs.Common.{◌≡◌, ◌^◌, ◌++◌, ◌∷◌, [], length, sym, arith}
use Rattle.std.proofs.lemmas.List.{length_push}
use Rattle.text_lines.specs.Fields.{field_at}
use Rattle.text_lines.specs.Many.{many_at}
use Rattle.text_lines.proofs.ManyLaws.{many_go_on, many_end}
use Rattle.certificate_form.proofs.lines.spaced_numbers.Goals as goal

pub loop-number-preserved : goal.loop-number-preserved
loop-number-preserved c =
    let front = c.loop-number.numbers.items in
    let bytes = c.args.bytes.now in
    let pushed : c.push.new.self.items ≡ front ++ c.in-Some.number ∷ [] = c.in_ok-push.ensures.items in
    let shorter = c.in-Some.ensures.shorter in
    let few = c.loop-number.invariant.few in
    record {
      read = rw (pushed, length_push front c.in-Some.number) (many_go_on (field_at (2 ^ 8) 32) front (length bytes) c.loop-number.rest.now c.in-Some.number c.in-Some.after.now (many_at (field_at (2 ^ 8) 32) (length bytes) bytes) (omega arith) (sym c.in-Some.ensures.exact) c.loop-number.invariant.read);
      few = rw (pushed, length_push front c.in-Some.number) (omega arith);
    }

pub returns-clause-exact : goal.returns-clause-exact
returns-clause-exact c = many_end (field_at (2 ^ 8) 32) c.loop-number.numbers.items _ c.loop-number.rest.now _ (sym c.in_default.ensures.exact) c.loop-number.invariant.read

use Rattle.std.proofs.Common.{◌≡◌, ◌<◌, ◌++◌, ◌∷◌, [], length, Some, None, ap, arith}
use Rattle.std.proofs.lemmas.List.{length_push, length-drop}
use Rattle.certificate_form.specs.Lines.{entry_line_at}
use Rattle.text_lines.specs.Many.{many_at}
use Rattle.certificate_form.proofs.EntryLaws.{line_none, line_read, rest_from}
use Rattle.text_lines.proofs.ManyLaws.{many_go_on, many_end}
use Rattle.certificate_form.proofs.lines.entry_lines.Goals as goal
use Rattle.certificate_form.proofs.lines.entry_lines.Goals.{in-Some+in_default-entry_after_front, in_default}

pub loop-front-preserved : goal.loop-front-preserved
loop-front-preserved c =
    let front = c.loop-front.entries.items in
    let bytes = c.args.bytes.now in
    let rest = c.loop-front.rest.now in
    let entry = c.in-Some-entry_after_front.entry in
    let after = c.in-Some-entry_after_front.after.now in
    let pushed : c.push.new.self.items ≡ front ++ entry ∷ [] = c.in_ok-push.ensures.items in
    let read : entry_line_at c.args.phases rest ≡ Some (entry, after) = line_read c.args.phases rest c.in-Some.front c.in-Some.end (Some (entry, after)) c.in-Some.ensures.exact c.in-Some-entry_after_front.ensures.exact in
    let shorter : length after < length rest = omega (arith, c.in-Some-entry_after_front.ensures.shorter, ap length (rest_from c.in-Some.end rest), length-drop c.in-Some.end rest) in
    let few = c.loop-front.invariant.few in
    record {
      read = rw (pushed, length_push front entry) (many_go_on (entry_line_at c.args.phases) front (length bytes) rest entry after (many_at (entry_line_at c.args.phases) (length bytes) bytes) (omega arith) read c.loop-front.invariant.read);
      few = rw (pushed, length_push front entry) (omega arith);
      last = c.in-Some.ensures.again;
    }

pub returns-clause-stop : goal.returns-clause-stop
returns-clause-stop c = elim c.match-next_front.branch [
  | in-Some+in_default-entry_after_front w ↦ line_read c.args.phases c.loop-front.rest.now w.in-Some.front w.in-Some.end None w.in-Some.ensures.exact w.in_default-entry_after_front.ensures.exact
  | in_default w ↦ line_none c.args.phases c.loop-front.rest.now w.in_default.ensures.exact
]

pub returns-clause-exact : goal.returns-clause-exact
returns-clause-exact c =
    let none : entry_line_at c.args.phases c.loop-front.rest.now ≡ None = elim c.match-next_front.branch [
      | in-Some+in_default-entry_after_front w ↦ line_read c.args.phases c.loop-front.rest.now w.in-Some.front w.in-Some.end None w.in-Some.ensures.exact w.in_default-entry_after_front.ensures.exact
      | in_default w ↦ line_none c.args.phases c.loop-front.rest.now w.in_default.ensures.exact
    ] in
    many_end (entry_line_at c.args.phases) c.loop-front.entries.items _ c.loop-front.rest.now _ none c.loop-front.invariant.read

use Rattle.std.proofs.Common.{◌≡◌, ◌++◌, ◌∷◌, [], rules}
use Rattle.std.specs.Prelude.{codes}
use Rattle.std.specs.Fmt.{decimal}
use Rattle.std.specs.List.{flat_map}
use Rattle.schedule_meaning.specs.declared.planners.Answer.TheVariants.{Plan}
use Rattle.certificate_form.specs.CertificateText.{after_space, answer_line}
use Rattle.certificate_form.proofs.WritingLaws.{plan_behind}
use Rattle.certificate_form.proofs.writing.write_plan.Goals as goal

pub returns-clause-text : goal.returns-clause-text
returns-clause-text c =
    let before = c.args.text.now.items in
    let a : c.extend_from_slice.new.self.items ≡ before ++ codes "answer " = c.in_ok-extend_from_slice.ensures.items in
    let b : c.push_number.new.text.items ≡ c.extend_from_slice.new.self.items ++ decimal c.args.delay = c.in_ok-push_number.ensures in
    let d : c.push_numbers.new.text.items ≡ c.push_number.new.text.items ++ flat_map after_space c.args.sequence.now = c.in_ok-push_numbers.ensures.text in
    let whole : before ++ answer_line (Plan c.args.sequence.now c.args.delay) ≡ c.push_numbers.new.text.items ++ 10 ∷ [] = cc (plan_behind before c.args.sequence.now c.args.delay) in
    rw whole (search rules)

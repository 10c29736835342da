use Rattle.std.proofs.Common.{get_or, ◌∙◌, ap, ◌++◌, arith}
use Rattle.intersection_actor.specs.PlanFields as fields
use Rattle.intersection_actor.proofs.VersionLaws.{joined-more}
use Rattle.intersection_actor.proofs.plan_fields.used_text.Goals as goal

pub loop-place-preserved : goal.loop-place-preserved
loop-place-preserved c =
    joined-more 59 (fields.used_text c.args.net.now) c.args.used.now c.loop-place.place (record { link = 0; version = 0 }) c.loop-place.text.items c.push_version.new.text.items (omega arith) c.loop-place.invariant
    (c.in_ok-push_version.ensures ∙ ap (λ l. l ++ fields.used_text c.args.net.now (get_or c.args.used.now c.loop-place.place (record { link = 0; version = 0 }))) c.in_ok-push_semicolon.ensures)

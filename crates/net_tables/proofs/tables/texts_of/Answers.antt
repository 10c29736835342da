use Rattle.std.proofs.Common.{◌∙◌, ap, sym, Some}
use Rattle.toml.specs.Data.{as_str}
use Rattle.toml.specs.View.{view}
use Rattle.std.proofs.Common.{option_copied}
use Rattle.foundation.proofs.EachLaws.{each-map, each-more, each-end, each-none}
use Rattle.net_tables.proofs.tables.texts_of.Goals as goal

pub returns-in_default : goal.returns-in_default
returns-in_default c =
    let none = sym c.as_str.ensures ∙ ap option_copied c.in_default.is in
    rw (each-map as_str view c.args.values.now, each-none (λ v. as_str (view v)) c.args.values.now c.loop-value.value-index c.value-item.result c.loop-value-test.true (rw (← c.value-item.is) none))

pub loop-value-preserved : goal.loop-value-preserved
loop-value-preserved c =
    let text = sym c.as_str.ensures ∙ ap option_copied c.in-Some.is ∙ ap Some (sym c.in_ok-copy_text.ensures) in
    rw c.in_ok-push.ensures.items (each-more (λ v. as_str (view v)) c.args.values.now c.loop-value.value-index c.value-item.result c.loop-value.texts.items _ c.loop-value-test.true c.value-item.is c.loop-value.invariant text)

pub returns : goal.returns
returns c = rw (each-map as_str view c.args.values.now, each-end (λ v. as_str (view v)) c.args.values.now c.loop-value.value-index c.loop-value.texts.items c.loop-value-test.false c.loop-value.invariant)

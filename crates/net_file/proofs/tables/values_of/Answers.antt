use Rattle.std.proofs.Common.{◌≡◌, ◌∙◌, ap}
use Rattle.toml.specs.Data.{string}
use Rattle.toml.specs.View.{view}
use Rattle.net_file.specs.Written.{Always, text_in}
use Rattle.net_file.proofs.ItemLaws.{items-more, text-data}
use Rattle.net_file.proofs.tables.values_of.Goals as goal

pub loop-text-preserved : goal.loop-text-preserved
loop-text-preserved c =
    let is : view c.in_ok-string.field-0 ≡ string c.text-item.result = c.in_ok-string.ensures ∙ ap string c.as_str.ensures in
    rw c.in_ok-push.ensures.items (items-more text_in Always 0 c.loop-text.values.items c.in_ok-string.field-0 c.args.texts.now c.loop-text.text-index c.text-item.result c.loop-text-test.true c.text-item.is c.loop-text.invariant (text-data _ _ is))

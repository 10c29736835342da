use Rattle.std.proofs.Common.{◌∙◌, sym, rules, tests, String, Global, string_bytes}
use Rattle.std.proofs.lemmas.Iterator.Consumers.{YieldsList-from_rest}
use Rattle.std.proofs.lemmas.Iterator.Search.{all_from_yields_List}
use Rattle.std.specs.List.{list_any}
use Rattle.std.specs.Str.{bytes_eq}
use Rattle.net_tables.proofs.Views.{has_only_view}
use Rattle.net_tables.proofs.values.has_only.Goals as goal

pub returns : goal.returns
returns c =
    let among = λ (key : String Global). list_any (λ name. bytes_eq (string_bytes key) name.now) c.args.keys.now in
    all_from_yields_List among _ _ _ c.all.ensures.ran (YieldsList-from_rest _ c.keys.ensures.rest) (λ x b q k. search (rules, tests)) ∙ sym (has_only_view c.args.keys.now c.args.table.now.entries)

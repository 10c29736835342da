use Rattle.std.proofs.Common.{◌<◌, sym, ap, ◌∙◌, length, rules}
use Rattle.std.proofs.lemmas.Slice.Eq.{bytes_eq-Decides}
use Rattle.net_parts.specs.Numbers.{number_of}
use Rattle.net_parts.proofs.DraftParts.{number_of-own}
use Rattle.round_states.proofs.entries.link_near.Goals as goal

pub returns-then-eq : goal.returns-then-eq
returns-then-eq c =
    let names = c.args.net.now.link_names in
    let inside : c.args.near < length names = search rules in
    let same = (bytes_eq-Decides c.as_bytes.result.now c.args.name.now).0 (sym c.eq.ensures ∙ c.if-eq.true) in
    sym (number_of-own names c.requires.outline.links_differ c.args.near inside)
    ∙ ap (number_of names) (sym c.link_name.ensures.value ∙ sym c.as_bytes.ensures.value ∙ same)

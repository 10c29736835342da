use Rattle.std.proofs.Common.{List, ap, ◌∙◌, is_some}
use Rattle.std.specs.List.{list_any}
use Rattle.net_parts.specs.declared.roads.Link.{Link}
use Rattle.net_parts.specs.Numbers.{Net}
use Rattle.net_simulator.specs.LinkGreens.{has_walks}
use Rattle.net_simulator.proofs.link_seconds.has_walks.Goals as goal

pub returns : goal.returns
returns c = c.is_one_walked.ensures ∙ ap (λ (ls : List Link). list_any (λ (k : Link). is_some k.walk) ls) c.as_slice.ensures.value ∙ ap (λ (n : Net). has_walks n) c.parts.ensures.value

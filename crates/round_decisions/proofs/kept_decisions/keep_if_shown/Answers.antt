use Rattle.std.proofs.Common.{◌∙◌, is_some, sym}
use Rattle.std.proofs.lemmas.Bool.{and_parts}
use Rattle.net_parts.specs.Outline.{link_at}
use Rattle.round_decisions.proofs.kept_decisions.keep_if_shown.Goals as goal

pub add_board-requires-clause-from : goal.add_board-requires-clause-from
add_board-requires-clause-from c = (and_parts (is_some (link_at c.args.net.now c.args.link).from) (is_some (link_at c.args.net.now c.args.link).to) (sym c.is_shown.ensures ∙ c.if-not-is_shown.false)).0

pub add_board-requires-clause-to : goal.add_board-requires-clause-to
add_board-requires-clause-to c = (and_parts (is_some (link_at c.args.net.now c.args.link).from) (is_some (link_at c.args.net.now c.args.link).to) (sym c.is_shown.ensures ∙ c.if-not-is_shown.false)).1

use Rattle.std.proofs.Common.{refl, sym}
use Rattle.net_parts.proofs.Distinct.{number_of-unknown}
use Rattle.audit.proofs.SheetReaderLaws.{come-green}
use Rattle.audit.proofs.sheet_reader.take_green.Goals as goal

pub returns-clause-ok : goal.returns-clause-ok
returns-clause-ok c = λ parsed come.
    come-green c.args.net.now parsed c.args.reader.now come c.requires.network c.args.name.now c.args.green c.in-Some.node (sym c.in-Some.ensures) _
    c.in_ok-push_item.ensures.count c.in_ok-push_item.ensures.here c.in_ok-push_item.ensures.others refl refl

pub returns-in_default-clause-first : goal.returns-in_default-clause-first
returns-in_default-clause-first c = λ parsed come. (refl, number_of-unknown c.args.net.now.node_names c.args.name.now (sym c.in_default.ensures))

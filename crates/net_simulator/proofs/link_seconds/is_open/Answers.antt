use Rattle.std.proofs.Common.{◌-◌, ◌≤◌, sym, ◌∙◌, arith}
use Rattle.std.proofs.lemmas.Bool.{leb-true}
use Rattle.control_flow.specs.declared.greens.Sign.TheVariants.{Dark}
use Rattle.std.specs.Prelude.{slice_index, slice_index_or}
use Rattle.net_parts.specs.Outline.{plan_at}
use Rattle.net_simulator.specs.LinkGreens.{loss_of}
use Rattle.net_simulator.specs.Rows.{cell}
use Rattle.net_simulator.proofs.EveryWorld.{bounds-of}
use Rattle.net_simulator.proofs.Keeping.{loss-small, open-late}
use Rattle.net_simulator.proofs.link_seconds.is_open.Goals as goal
use Rattle.net_simulator.proofs.link_seconds.is_open.Goals.{then-lasted-ge10, else-lasted-ge10}

pub bounds-shown-node : goal.bounds-shown-node
bounds-shown-node c = omega (arith, (bounds-of c.args.net.now c.law_of_network.ensures).ends c.args.l c.args.node c.requires.link c.requires.node, c.requires.signs)

pub loss_of-requires : goal.loss_of-requires
loss_of-requires c = (bounds-of c.args.net.now c.law_of_network.ensures).ends c.args.l c.args.node c.requires.link c.requires.node

pub returns-then-lasted-loss_of : goal.returns-then-lasted-loss_of
returns-then-lasted-loss_of c =
    let sign = slice_index_or c.args.shown.now.signs.now c.args.node Dark in
    let from = slice_index c.args.shown.now.since.now c.args.l in
    let late : loss_of (plan_at c.args.net.now c.args.node) sign ≤ c.args.second - from = elim c.if-lasted-ge10.branch [
      | then-lasted-ge10 w ↦ (let most = loss-small c.args.net.now (bounds-of c.args.net.now c.law_of_network.ensures) c.args.node sign in omega (arith, most))
      | else-lasted-ge10 w ↦ (let over = leb-true w.loss_of.result (c.args.second - from) (sym w.value-is ∙ c.if-lasted-loss_of.true) in omega (arith, over, w.loss_of.ensures))
    ] in
    c.if-lasted-loss_of.true ∙ open-late (loss_of (plan_at c.args.net.now c.args.node) sign) from c.args.second (cell c.args.waits.now c.args.l from) (omega arith) late

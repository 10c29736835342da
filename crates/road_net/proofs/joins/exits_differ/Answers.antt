use Rattle.std.proofs.Common.{◌+◌, ◌∙◌, sym, get_or}
use Rattle.std.proofs.lemmas.Bool.{false≢true}
use Rattle.std.proofs.lemmas.List.{get_or_default, take_rest}
use Rattle.net_parts.specs.declared.roads.Turn.{Turn}
use Rattle.road_net.proofs.Shares.{differ-later, differ-more}
use Rattle.road_net.proofs.joins.exits_differ.Goals as goal

pub returns-then-not-lacks_exit : goal.returns-then-not-lacks_exit
returns-then-not-lacks_exit c =
    let d : Turn = record { exit = 0; share = 0 } in
    (λ none. absurd (false≢true none), λ differ. sym c.if-not-lacks_exit.true ∙ c.lacks_exit.ensures.1 (rw (take_rest c.args.turns.now (c.loop-index.index + 1)) (differ-later (λ (t : Turn). t.exit) c.args.turns.now c.loop-index.index d differ)))

pub loop-index-preserved : goal.loop-index-preserved
loop-index-preserved c =
    let d : Turn = record { exit = 0; share = 0 } in
    let x : Turn = get_or c.args.turns.now c.loop-index.index d in
    differ-more (λ (t : Turn). t.exit) c.args.turns.now c.loop-index.index x (get_or_default c.args.turns.now c.loop-index.index d x c.loop-index-test.true) c.loop-index.invariant (rw (take_rest c.args.turns.now (c.loop-index.index + 1)) at (c.lacks_exit.ensures.0 c.if-not-lacks_exit.false))

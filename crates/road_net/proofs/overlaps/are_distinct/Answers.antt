use Rattle.std.proofs.Common.{ℕ, ◌+◌, ◌∙◌, sym, get_or}
use Rattle.std.proofs.lemmas.Bool.{false≢true}
use Rattle.std.proofs.lemmas.List.{get_or_default, take_rest}
use Rattle.road_net.proofs.Shares.{differ-later, differ-more}
use Rattle.road_net.proofs.overlaps.are_distinct.Goals as goal

pub returns-then-not-lacks : goal.returns-then-not-lacks
returns-then-not-lacks c =
    (λ none. absurd (false≢true none), λ differ. sym c.if-not-lacks.true ∙ c.lacks.ensures.1 (rw (take_rest c.args.links.now (c.loop-index.index + 1)) (differ-later (λ (l : ℕ). l) c.args.links.now c.loop-index.index 0 differ)))

pub loop-index-preserved : goal.loop-index-preserved
loop-index-preserved c =
    let x : ℕ = get_or c.args.links.now c.loop-index.index 0 in
    differ-more (λ (l : ℕ). l) c.args.links.now c.loop-index.index x (get_or_default c.args.links.now c.loop-index.index 0 x c.loop-index-test.true) c.loop-index.invariant (rw (take_rest c.args.links.now (c.loop-index.index + 1)) at (c.lacks.ensures.0 c.if-not-lacks.false))

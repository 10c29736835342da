use Rattle.std.proofs.Common.{◌≡◌, ℕ, ◌+◌, length, get_or, slice_index, ap, ◌∙◌, arith}
use Rattle.std.proofs.lemmas.List.{get_or-set_other, get_or-set_same}
use Rattle.net_parts.specs.Outline.{turns_at}
use Rattle.net_simulator.proofs.EveryWorld.{exits-differ, parts-of}
use Rattle.net_simulator.proofs.Turning.{exit-below, no_turn, shares-next, turn-none, turn-part, turned-all, turned-more}
use Rattle.spillback_world.proofs.discharges.give.Goals as goal

pub overflow_add-entering : goal.overflow_add-entering
overflow_add-entering c =
    let turns = turns_at c.args.net.now c.args.l in
    let differ = exits-differ c.args.net.now c.turns-turn-items.ensures.network c.args.l c.requires.link in
    let part = turn-part turns c.turns-turn-items.result.now c.turns-turn-items.ensures.value differ c.turns-turn-items.ensures.parts c.args.amount c.loop-turn.turn-index no_turn c.loop-turn-test.true c.loop-turn.before c.part_of_turn-part.result c.loop-turn.invariant.before c.part_of_turn-part.ensures.value in
    let none = turn-none turns c.turns-turn-items.result.now c.turns-turn-items.ensures.value differ c.turns-turn-items.ensures.parts c.args.amount c.loop-turn.turn-index no_turn c.loop-turn-test.true (slice_index c.args.entering.now) (slice_index c.loop-turn.entering) c.loop-turn.invariant.entering in
    let below = exit-below turns c.turns-turn-items.result.now c.turns-turn-items.ensures.value c.loop-turn.turn-index no_turn c.loop-turn-test.true (length c.args.net.now.link_names) (parts-of c.args.net.now c.turns-turn-items.ensures.network c.args.l c.requires.link).1.exits in
    let room = c.requires.fits (get_or c.turns-turn-items.result.now c.loop-turn.turn-index no_turn).exit below in
    omega (arith, part, none, room)

pub overflow_add-held : goal.overflow_add-held
overflow_add-held c =
    let turns = turns_at c.args.net.now c.args.l in
    let differ = exits-differ c.args.net.now c.turns-turn-items.ensures.network c.args.l c.requires.link in
    let part = turn-part turns c.turns-turn-items.result.now c.turns-turn-items.ensures.value differ c.turns-turn-items.ensures.parts c.args.amount c.loop-turn.turn-index no_turn c.loop-turn-test.true c.loop-turn.before c.part_of_turn-part.result c.loop-turn.invariant.before c.part_of_turn-part.ensures.value in
    let none = turn-none turns c.turns-turn-items.result.now c.turns-turn-items.ensures.value differ c.turns-turn-items.ensures.parts c.args.amount c.loop-turn.turn-index no_turn c.loop-turn-test.true (slice_index c.args.held.now) (slice_index c.loop-turn.held) c.loop-turn.invariant.held in
    let below = exit-below turns c.turns-turn-items.result.now c.turns-turn-items.ensures.value c.loop-turn.turn-index no_turn c.loop-turn-test.true (length c.args.net.now.link_names) (parts-of c.args.net.now c.turns-turn-items.ensures.network c.args.l c.requires.link).1.exits in
    let room = c.requires.holds (get_or c.turns-turn-items.result.now c.loop-turn.turn-index no_turn).exit below in
    omega (arith, part, none, room)

pub loop-turn-preserved : goal.loop-turn-preserved
loop-turn-preserved c =
    let turns = turns_at c.args.net.now c.args.l in
    let exit : ℕ = (get_or c.turns-turn-items.result.now c.loop-turn.turn-index no_turn).exit in
    let differ = exits-differ c.args.net.now c.turns-turn-items.ensures.network c.args.l c.requires.link in
    let part = turn-part turns c.turns-turn-items.result.now c.turns-turn-items.ensures.value differ c.turns-turn-items.ensures.parts c.args.amount c.loop-turn.turn-index no_turn c.loop-turn-test.true c.loop-turn.before c.part_of_turn-part.result c.loop-turn.invariant.before c.part_of_turn-part.ensures.value in
    let below = exit-below turns c.turns-turn-items.result.now c.turns-turn-items.ensures.value c.loop-turn.turn-index no_turn c.loop-turn-test.true (length c.args.net.now.link_names) (parts-of c.args.net.now c.turns-turn-items.ensures.network c.args.l c.requires.link).1.exits in
    record {
      entering = turned-more turns c.turns-turn-items.result.now c.turns-turn-items.ensures.value differ c.turns-turn-items.ensures.parts c.args.amount c.loop-turn.turn-index no_turn c.loop-turn-test.true
          (slice_index c.args.entering.now) (slice_index c.loop-turn.entering) (slice_index _) c.loop-turn.invariant.entering
          (get_or-set_same c.loop-turn.entering exit (slice_index c.loop-turn.entering exit + c.part_of_turn-part.result) 0 (omega (arith, below, c.requires.entering, c.loop-turn.auto.entering)) ∙ ap (λ p. slice_index c.loop-turn.entering exit + p) part)
          (λ k other. get_or-set_other c.loop-turn.entering exit k (slice_index c.loop-turn.entering exit + c.part_of_turn-part.result) 0 other);
      held = turned-more turns c.turns-turn-items.result.now c.turns-turn-items.ensures.value differ c.turns-turn-items.ensures.parts c.args.amount c.loop-turn.turn-index no_turn c.loop-turn-test.true
          (slice_index c.args.held.now) (slice_index c.loop-turn.held) (slice_index _) c.loop-turn.invariant.held
          (get_or-set_same c.loop-turn.held exit (slice_index c.loop-turn.held exit + c.part_of_turn-part.result) 0 (omega (arith, below, c.requires.held, c.loop-turn.auto.held)) ∙ ap (λ p. slice_index c.loop-turn.held exit + p) part)
          (λ k other. get_or-set_other c.loop-turn.held exit k (slice_index c.loop-turn.held exit + c.part_of_turn-part.result) 0 other);
      before = shares-next turns c.turns-turn-items.result.now c.turns-turn-items.ensures.value differ c.turns-turn-items.ensures.parts c.args.amount c.loop-turn.turn-index no_turn c.loop-turn-test.true c.loop-turn.before c.loop-turn.invariant.before;
    }

pub returns-clause-entering : goal.returns-clause-entering
returns-clause-entering c k =
    let whole : c.loop-turn.turn-index ≡ length (turns_at c.args.net.now c.args.l) = rw (← c.turns-turn-items.ensures.value) (omega arith) in
    turned-all (turns_at c.args.net.now c.args.l) c.args.amount c.loop-turn.turn-index (slice_index c.args.entering.now) (slice_index c.loop-turn.entering) c.loop-turn.invariant.entering whole k

pub returns-clause-held : goal.returns-clause-held
returns-clause-held c k =
    let whole : c.loop-turn.turn-index ≡ length (turns_at c.args.net.now c.args.l) = rw (← c.turns-turn-items.ensures.value) (omega arith) in
    turned-all (turns_at c.args.net.now c.args.l) c.args.amount c.loop-turn.turn-index (slice_index c.args.held.now) (slice_index c.loop-turn.held) c.loop-turn.invariant.held whole k

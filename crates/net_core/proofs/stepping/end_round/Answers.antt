use Rattle.std.proofs.Common.{◌+◌, ap, arith, ◌∙◌}
use Rattle.net_parts.specs.declared.drafts.Run.{Run}
use Rattle.net_core.proofs.Standing.{end-between, end-least, end-records, end-room, end-stands}
use Rattle.net_core.proofs.stepping.end_round.Goals as goal

pub advance-requires-clause-second : goal.advance-requires-clause-second
advance-requires-clause-second c =
    let (h, plans, i) = c.requires.playing in
    omega (arith, end-room c.args.net.now c.run-step.ensures.network c.args.arrivals.now h plans c.args.parts.now i, ap (λ (r : Run). r.step) c.run-step.ensures.value)

pub advance-requires-clause-stands : goal.advance-requires-clause-stands
advance-requires-clause-stands c =
    let (h, plans, i) = c.requires.playing in
    end-stands c.args.net.now c.run-step.ensures.network c.args.arrivals.now h plans c.args.parts.now i c.requires.done

pub move_records-requires : goal.move_records-requires
move_records-requires c =
    let (h, plans, i) = c.requires.playing in
    omega (arith, end-records c.args.net.now c.run-step.ensures.network c.args.arrivals.now h plans c.args.parts.now i c.requires.done, c.requires.capacity)

pub returns-clause-between : goal.returns-clause-between
returns-clause-between c = λ h plans i.
    end-between c.args.net.now c.run-step.ensures.network c.args.arrivals.now h plans c.args.parts.now i c.requires.done c.advance.new.self c.move_records.new.self.all.items
    (c.advance.ensures.second ∙ ap (λ (r : Run). c.args.parts.now.world.second + r.step) c.run-step.ensures.value) c.advance.ensures.stands c.move_records.ensures.actors

pub returns-clause-count : goal.returns-clause-count
returns-clause-count c =
    let (h, plans, i) = c.requires.playing in
    end-records c.args.net.now c.run-step.ensures.network c.args.arrivals.now h plans c.args.parts.now i c.requires.done

pub returns-clause-least : goal.returns-clause-least
returns-clause-least c =
    let (h, plans, i) = c.requires.playing in
    end-least c.args.net.now c.run-step.ensures.network c.args.arrivals.now h plans c.args.parts.now i c.requires.done

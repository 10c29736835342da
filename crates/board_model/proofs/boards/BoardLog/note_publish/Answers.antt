use Rattle.std.proofs.Common.{◌≡◌, ◌<◌, ap, arith}
use Rattle.board_model.specs.Boards.{Log, most_versions}
use Rattle.board_model.proofs.LogLaws.{IsStored-publish}
use Rattle.board_model.proofs.boards.BoardLog.note_publish.Goals as goal

pub invariant_of-self : goal.invariant_of-self
invariant_of-self c =
    let same : c.self.inside.events.items ≡ c.args.self.now.events = ap (λ (log : Log). log.events) c.self.view_is in
    let few : c.self.inside.version < most_versions = rw (c.self.invariant.counted, same) c.requires.few in
    rw c.push_reserved.ensures.items (IsStored-publish _ _ _ _ _ _ _ c.self.invariant few (omega (arith, c.self.inside.events.ok.0)) (rw same c.requires.above))

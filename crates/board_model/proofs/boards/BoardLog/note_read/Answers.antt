use Rattle.std.proofs.Common.{◌≡◌, ap}
use Rattle.board_model.specs.Boards.{Log}
use Rattle.board_model.proofs.LogLaws.{IsStored-read}
use Rattle.board_model.proofs.boards.BoardLog.note_read.Goals as goal

pub invariant_of-self : goal.invariant_of-self
invariant_of-self c =
    let same : c.self.inside.events.items ≡ c.args.self.now.events = ap (λ (log : Log). log.events) c.self.view_is in
    rw c.push_reserved.ensures.items (IsStored-read _ _ _ _ _ c.self.invariant (rw same c.requires.above))

use Rattle.std.proofs.Common.{refl, arith}
use Rattle.std.proofs.lemmas.Bool.{false≢true}
use Rattle.round_states.proofs.BoardLaws.{rise-all, rise-fails}
use Rattle.round_states.proofs.boards.are_rising.Goals as goal

pub returns-then-rows-index : goal.returns-then-rows-index
returns-then-rows-index c = (λ t. absurd (false≢true t), λ rising. absurd (rise-fails c.args.rows.now c.loop-index.index (omega arith) (omega arith) (omega arith) rising))

pub returns : goal.returns
returns c = (λ t. rise-all c.args.rows.now c.loop-index.index (omega arith) c.loop-index.invariant, λ rising. refl)

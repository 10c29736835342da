use Rattle.std.proofs.Common.{◌≤◌, length, sym, subst, arith}
use Rattle.std.specs.List.Sorted.{IsStrictlyIncreasing}
use Rattle.board_model.specs.Forecasts.{seconds}
use Rattle.round_states.proofs.senses.is_sensed_once.Goals as goal

pub returns-then-queues-le1 : goal.returns-then-queues-le1
returns-then-queues-le1 c = (
  λ t. record { queue = subst (λ l. length l ≤ 1) c.requires.queues (omega arith); rising = subst (λ l. IsStrictlyIncreasing (seconds l)) c.requires.rows (c.are_rising.ensures.0 t) },
  λ once. c.are_rising.ensures.1 (subst (λ l. IsStrictlyIncreasing (seconds l)) (sym c.requires.rows) once.rising),
)

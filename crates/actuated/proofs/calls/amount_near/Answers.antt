use Rattle.std.proofs.Common.{take, refl, arith}
use Rattle.actuated.proofs.NearLaws.{front-within}
use Rattle.actuated.proofs.calls.amount_near.Goals as goal

pub sum_of-requires : goal.sum_of-requires
sum_of-requires c =
    omega (
      arith,
      front-within c.args.sensed.now c.args.link c.sensed_of-queue.result.0 c.min-seconds.result c.sensed_of-queue.result.1.now (take c.min-seconds.result c.sensed_of-queue.result.1.now)
          c.sensed_of-queue.ensures.queue c.sensed_of-queue.ensures.coming refl,
      c.requires,
    )

pub overflow_add-result : goal.overflow_add-result
overflow_add-result c =
    omega (
      arith,
      front-within c.args.sensed.now c.args.link c.sensed_of-queue.result.0 c.min-seconds.result c.sensed_of-queue.result.1.now (take c.min-seconds.result c.sensed_of-queue.result.1.now)
          c.sensed_of-queue.ensures.queue c.sensed_of-queue.ensures.coming refl,
      c.requires,
      c.sum_of.ensures,
    )

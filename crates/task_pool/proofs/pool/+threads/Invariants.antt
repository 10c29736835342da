use Rattle.std.proofs.Common.{◌+◌, ◌*◌}
use Rattle.std.specs.Prelude.{vec_len}
use Rattle.task_pool.proofs.pool.+threads.Given as goal

abbrev pub decreases-run_beside : goal.decreases-run_beside
decreases-run_beside g l = 2 * vec_len l.others

abbrev pub decreases-rest : goal.decreases-rest
decreases-rest g l = 2 * vec_len l.others + 1

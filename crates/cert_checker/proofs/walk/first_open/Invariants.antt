use Rattle.std.proofs.Common.{◌+◌, ◌*◌, ◌≤◌, All, length, take}
use Rattle.dp_certificate.specs.Proves.{IsClosed}
use Rattle.cert_checker.proofs.walk.first_open.Given as goal

-- the entries so far are closed, in at most one step for each phase of each
abbrev pub invariant-loop-index : goal.invariant-loop-index
invariant-loop-index g l = record {
  closed : All (IsClosed l.c) (take l.index l.c.entries);
  cost : l.steps ≤ l.initial.steps + length l.c.problem.plan * l.index;
}

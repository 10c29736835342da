use Rattle.std.proofs.Common.{All, take}
use Rattle.dp_certificate.specs.Proves.{IsEnded}
use Rattle.cert_checker.proofs.walk.first_cheaper.Given as goal

-- none of the entries so far undercuts the answer
abbrev pub invariant-loop-index : goal.invariant-loop-index
invariant-loop-index l = All (IsEnded l.c) (take l.index l.c.entries)

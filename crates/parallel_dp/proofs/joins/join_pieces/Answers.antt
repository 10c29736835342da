use Rattle.std.proofs.Common.{◌∙◌, sym, arith}
use Rattle.std.proofs.lemmas.Bool.{eqb-true}
use Rattle.std.specs.Vec.{vec_len}
use Rattle.parallel_dp.proofs.Joining.{none-after, none-before}
use Rattle.parallel_dp.proofs.joins.join_pieces.Goals as goal

pub returns-then-is_empty : goal.returns-then-is_empty
returns-then-is_empty c = none-before c.args.a.items c.args.b.items (omega (arith, eqb-true (vec_len c.args.a) 0 (sym c.is_empty.ensures ∙ c.if-is_empty.true), c.args.a.ok)) c.requires.second

pub returns-then-is_empty-2 : goal.returns-then-is_empty-2
returns-then-is_empty-2 c = none-after c.args.a.items c.args.b.items (omega (arith, eqb-true (vec_len c.args.b) 0 (sym c.is_empty-2.ensures ∙ c.if-is_empty-2.true), c.args.b.ok)) c.requires.first

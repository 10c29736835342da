use Rattle.std.proofs.Common.{◌≡◌, ◌++◌, length, length-append, min, ap, arith, rules, take}
use Rattle.std.proofs.lemmas.List.{length-take}
use Rattle.outside_world.proofs.KeepLaws.{front-of, fails-of}
use Rattle.outside_world.proofs.keeping.keep_more.Goals as goal

pub returns-clause-kept : goal.returns-clause-kept
returns-clause-kept c = λ capacity within.
    let is : c.extend_from_slice-2.new.self.items ≡ c.args.line.now.items ++ take c.min-spare.result c.args.piece.now = search rules in
    let full = fails-of c.extend_from_slice.result _ (search rules) c.extend_from_slice.ensures.full in
    front-of c.args.line.now.items c.args.piece.now c.extend_from_slice-2.new.self.items c.min-spare.result (min capacity c.args.most) is
    (omega (arith, within, full, ap length is, length-append c.args.line.now.items (take c.min-spare.result c.args.piece.now), length-take c.min-spare.result c.args.piece.now, length-take c.min-wanted.result c.args.piece.now, c.args.line.now.ok))

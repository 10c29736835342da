use Rattle.std.proofs.Common.{◌<◌, length, get_or, arith}
use Rattle.net_threads.proofs.Rounding.{each-played, may-go-on, ok-map}
use Rattle.net_threads.proofs.all_nodes.NodeTasks.play.Goals as goal

pub go_on-requires-clause-can : goal.go_on-requires-clause-can
go_on-requires-clause-can g c κs within = λ k d inside.
    let begun = c.in_ok-begin.ensures.begun in
    let there : k < length c.args.self.now.all.items = omega (arith, begun.count, inside) in
    may-go-on c.args.round c.args.world.now (get_or c.args.self.now.all.items k d) (get_or c.begin.new.self.all.items k d) (c.requires.links k d there) (c.requires.can k d there) (begun.each k d d there)

pub returns-clause-played : goal.returns-clause-played
returns-clause-played g c = ok-map c.go_on.result _ _ (λ well ended. each-played c.args.round c.args.world.now c.args.self.now.all.items c.begin.new.self.all.items c.go_on.new.self.all.items c.requires.can c.in_ok-begin.ensures.begun ended) c.go_on.ensures.played

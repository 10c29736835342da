use Rattle.std.proofs.Common.{◌<◌, length, arith, ap}
use Rattle.net_core.proofs.Opened.{busy_of, count-changed, count-some}
use Rattle.net_core.proofs.keeping.act_counted.Goals as goal

pub overflow_sub-busy : goal.overflow_sub-busy
overflow_sub-busy g c =
    let (h, plans, i) = c.requires.playing in
    omega (arith, c.requires.busy, count-some c.args.parts.now.actors.all.items c.args.node (omega (arith, i.all, c.requires.node)) c.requires.want)

pub returns-clause-busy : goal.returns-clause-busy
returns-clause-busy g c =
    let (h, plans, i) = c.requires.playing in
    let old = c.args.parts.now.actors.all.items in
    let there : c.args.node < length old = omega (arith, i.all, c.requires.node) in
    omega (
      arith,
      c.requires.busy,
      count-some old c.args.node there c.requires.want,
      count-changed old c.act.new.parts.actors.all.items c.args.node there c.requires.want c.act.ensures.one c.index.result.now c.index.ensures,
      c.busy_of-now.ensures,
      ap busy_of c.want.ensures,
    )

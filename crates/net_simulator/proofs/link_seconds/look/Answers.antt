use Rattle.std.proofs.Common.{◌<◌, length, sym, ◌∙◌, arith}
use Rattle.control_flow.specs.Signs.{sign_at}
use Rattle.net_simulator.proofs.LightLaws.{no-walk}
use Rattle.net_simulator.proofs.Lighting.{lit-node, same-node, still-link}
use Rattle.net_simulator.proofs.link_seconds.look.Goals as goal
use Rattle.net_simulator.proofs.link_seconds.look.Goals.{then-walks, else-walks+else-is_other}

pub light-requires-clause-lit : goal.light-requires-clause-lit
light-requires-clause-lit g c l inside to same none =
    let k = c.loop-node in
    rw c.sign-sign.ensures (still-link c.args.net.now c.args.second (λ n. sign_at (g.T.Lights.lines c.args.lights.now n) c.args.second) c.args.signs.now c.args.since.now k.node k.signs k.since k.invariant c.requires.lit
    (c.differ-is_other.ensures same ∙ c.sign-sign.ensures) l inside to none)

pub loop-node-preserved : goal.loop-node-preserved
loop-node-preserved g c =
    let l = c.loop-node in
    let inside : l.node < length l.signs = omega (arith, c.loop-node-test.true, c.nodes-node-end.ensures.value, l.auto.signs, c.requires.signs) in
    elim c.if-walks.branch [
      | then-walks w ↦ rw (w.signs-is, w.since-is, c.sign-sign.ensures)
          (lit-node c.args.net.now c.args.second (λ n. sign_at (g.T.Lights.lines c.args.lights.now n) c.args.second) c.args.signs.now c.args.since.now l.node l.signs l.since l.invariant inside w.light.new.since
          (rw c.sign-sign.ensures at w.light.ensures.here) w.light.ensures.others)
      | else-walks+else-is_other w ↦ rw (w.signs-is, w.since-is)
          (same-node c.args.net.now c.args.second (λ n. sign_at (g.T.Lights.lines c.args.lights.now n) c.args.second) c.args.signs.now c.args.since.now l.node l.signs l.since l.invariant c.requires.lit
          (no-walk c.args.net.now (sym c.requires.walks ∙ w.if-walks.false)) (c.differ-is_other.ensures w.if-is_other.false ∙ c.sign-sign.ensures))
    ]

use Rattle.arrivals.specs.Amounts.{arriving_of}
use Rattle.commands.proofs.Outcomes.{failed}
use Rattle.scene_jobs.specs.Meanings.{over_scene}
use Rattle.scene_jobs.proofs.works.scene_text.Goals as goal

pub returns-in_err-scene : goal.returns-in_err-scene
returns-in_err-scene g c = failed (over_scene (g.W.SceneWork.writes c.args.work.now) c.args.net.now c.args.arr.now) _ _ c.from_residual.result _ c.in_err-scene.ensures.refused c.from_residual.ensures.1

pub returns : goal.returns
returns g c = (
  c.in_ok-scene.ensures.ok,
  (
    (c.in_ok-scene.scene.network, (arriving_of c.in_ok-scene.scene.arrivals, tt)),
    c.in_ok-scene.ensures.texts,
    ((c.in_ok-text.ensures, λ against. against), λ what missing. missing),
  ),
)

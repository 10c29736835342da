use Rattle.scene_jobs.proofs.works.network_text.Goals as goal

pub returns : goal.returns
returns g c =
    let said = c.in_ok-network in (
      said.ensures.ok,
      (
        (said.network, tt),
        (said.ensures.text, tt),
        ((c.in_ok-text.ensures, λ against. against), λ what missing. missing),
      ),
    )

use Rattle.signal_cli.proofs.top.run.Goals as goal

pub returns-in-Grid : goal.returns-in-Grid
returns-in-Grid g c = rw c.in-Grid.is (c.grid_job.ensures (g.S.Shelf.state c.args.shelf.now))

-- The rounds of a network whose nodes' rounds are tasks. No public clause names these definitions.
use Rattle.std.specs.Prelude.{◌≡◌, ℕ, Result, OnOk, length}
use Rattle.arrivals.specs.Amounts.{AreArrivals}
use Rattle.node_rounds.specs.Rounds.{AreSamePasses, Between}
use Rattle.net_threads.specs.Tasks.{AreTasksOf, actors_in, passes_in}
use Rattle.net_threads.specs.declared.rounds.Rounds.{Rounds}

module _ {P S G Ready : Type 0} where
  -- this number of rounds are done
  pub record AreAt (round : ℕ) (r : Rounds P S G Ready) : Type 0 where
    pub arrivals : AreArrivals r.net.now r.arrivals.now
    pub links : r.boards.now.links ≡ length r.net.now.link_names
    pub tasks : AreTasksOf r.net.now r.boards.now r.nodes.all.items
    pub between : Between r.net.now r.arrivals.now r.boards.now round (passes_in r.nodes.all.items)
        (actors_in r.nodes.all.items) r.world r.plans

  -- they are still of the same network, arrivals and boards, with passes of the same numbers
  pub record AreOf (old new : Rounds P S G Ready) : Type 0 where
    pub net : new.net ≡ old.net
    pub arrivals : new.arrivals ≡ old.arrivals
    pub boards : new.boards ≡ old.boards
    pub passes : AreSamePasses (passes_in old.nodes.all.items) (passes_in new.nodes.all.items)

  -- no round is done yet, and there is a slot for each node's task
  pub record CanRun (r : Rounds P S G Ready) (slots : ℕ) : Type 0 where
    pub at : AreAt 0 r
    pub count : slots ≡ length r.nodes.all.items

  -- all rounds are done, unless memory ran out
  pub record HaveRun {E : Type 0} (r : Rounds P S G Ready)
      (out : Rounds P S G Ready × Result (Unit {0}) E) : Type 0 where
    pub same : AreOf r out.0
    pub at : OnOk out.1 (AreAt r.net.now.run.rounds out.0)

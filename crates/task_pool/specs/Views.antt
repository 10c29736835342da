-- What an end of a slot knows, and what a step makes of it. No public clause cites these.
use Rattle.std.specs.Prelude.{Bool, true, false, Option, None}
use Rattle.task_pool.specs.declared.views.View.{View}

module _ {T : Type 0} where
  -- the owner's end of a new slot
  abbrev pub first_view : View T
  first_view = record { fresh = true; works = false; laid = None; taken = None; closed = false }

  -- a new worker's end
  abbrev pub worker_view : View T → View T
  worker_view v = record { fresh = false; works = true; laid = None; taken = None; closed = false }

  -- the end has laid this, or nothing, in an open slot
  abbrev pub laying : View T → Option T → View T
  laying v x = record { fresh = false; works = v.works; laid = x; taken = v.taken; closed = false }

  -- the end has taken this, or nothing
  abbrev pub taking : View T → Option T → View T
  taking v x = record { fresh = v.fresh; works = v.works; laid = v.laid; taken = x; closed = v.closed }

  -- the end knows that the slot is closed, or does not
  abbrev pub knowing : View T → Bool → View T
  knowing v closed = record { fresh = v.fresh; works = v.works; laid = v.laid; taken = v.taken; closed = closed }

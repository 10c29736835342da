-- The record that is made of plans, actors and a world.
use Rattle.std.specs.Prelude.{◌≡◌, ◌≤◌, List, [], ◌++◌, length, map, vec_capacity}
use Rattle.std.specs.List.{flat_map, range_with_len}
use Rattle.control_flow.specs.declared.greens.Green.{Green}
use Rattle.intersection_actor.specs.Acting.{Acting}
use Rattle.intersection_actor.specs.declared.records.PlanRecord.{PlanRecord}
use Rattle.net_parts.specs.Numbers.{Net}
use Rattle.net_simulator.specs.Counts.{counts_at}
use Rattle.net_simulator.specs.Worlds.{WorldState}
use Rattle.runs.specs.declared.records.RunRecord.{RunRecord}
use Rattle.runs.specs.declared.records.RunTotals.{RunTotals}
use Rattle.runs.specs.declared.run_records.EmptyRecord.{EmptyRecord}

-- empty lists, with capacity for all that the record of a run has besides its plans
pub record HasCapacity (net : Net) (empty : EmptyRecord) : Type 0 where
  pub no_timelines : empty.timelines.items ≡ []
  pub no_links : empty.links.items ≡ []
  pub timelines : length net.node_names ≤ vec_capacity empty.timelines
  pub links : length net.link_names ≤ vec_capacity empty.links

-- the plan records of actors, one actor after another, and their lines
abbrev pub records_in : List Acting → List PlanRecord
records_in actors = flat_map (λ (a : Acting). a.records) actors

abbrev pub lines_in : List Acting → List (List Green)
lines_in actors = map (λ (a : Acting). a.line) actors

-- The record of these plans, actors and world: the plans, and after them those that the actors have; the timelines of the actors; and
-- what the world has counted.
pub record IsRecordOf (net : Net) (planned : List PlanRecord) (actors : List Acting) (world : WorldState)
    (run : RunRecord) : Type 0 where
  pub plans : run.plans ≡ planned ++ records_in actors
  pub timelines : run.timelines ≡ lines_in actors
  pub links : run.links ≡ map (counts_at world.counts) (range_with_len 0 (length net.link_names))
  pub totals : run.totals ≡ world.totals

-- What is left of these actors and this world where plans are not kept: the timelines of the actors, and what the world has counted.
pub record AreLeft (net : Net) (actors : List Acting) (world : WorldState) (left : RunTotals) : Type 0 where
  pub timelines : left.timelines ≡ lines_in actors
  pub links : left.links ≡ map (counts_at world.counts) (range_with_len 0 (length net.link_names))
  pub totals : left.totals ≡ world.totals

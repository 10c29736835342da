-- The record of a run that is over, and what is left of it.
use Rattle.std.proofs.Common.{◌≡◌, ℕ, ◌+◌, ◌≤◌, List, length, vec_capacity, vec_len, subst, inl, inr, arith}
use Rattle.std.specs.Global.{Vec}
use Rattle.arrivals.specs.Amounts.{Amounts, arriving_of}
use Rattle.intersection_actor.specs.declared.records.PlanRecord.{PlanRecord}
use Rattle.runs.specs.Ending.{AreLeft, IsRecordOf, records_in}
use Rattle.runs.proofs.EndedRecords.{last-room, run-left, run-with, with_plans}
use Rattle.histories.specs.Histories.{IsLawful}
use Rattle.net_parts.specs.Numbers.{Net}
use Rattle.road_net.specs.Network.{IsNetwork}
use Rattle.runs.proofs.Resting.{no_acting}
use Rattle.runs.specs.Runs.{IsRun}
use Rattle.runs.specs.declared.records.RunRecord.{RunRecord}
use Rattle.runs.specs.declared.records.RunTotals.{RunTotals}
use Rattle.net_core.specs.States.{AreBetween, AreGoing, Between}
use Rattle.net_core.specs.declared.parts.Parts.{Parts}
use Rattle.net_core.proofs.Wanting.{going-last}

module _ (net : Net) (network : IsNetwork net) (arrivals : Amounts) (h : List ℕ) (plans : List PlanRecord) (parts : Parts) where
  -- A core that is over rests after the last round.
  over-between : AreGoing net arrivals h plans parts → parts.round ≡ net.run.rounds → Between net arrivals h net.run.rounds parts.actors.all.items parts.boards.items parts.world plans
  over-between going last = elim going [
    | inl both ↦ absurd (let less = both.0.below in omega arith)
    | inr both ↦ subst (λ r. Between net arrivals h r parts.actors.all.items parts.boards.items parts.world plans) last both.0
  ]

  module _ (going : AreGoing net arrivals h plans parts) (lawful : IsLawful net h) where
    last : Between net arrivals h net.run.rounds parts.actors.all.items parts.boards.items parts.world plans
    last = over-between going (going-last net network arrivals h plans parts no_acting going lawful)

    -- each list has room for the plans that its actors have
    pub over-room : (kept : Vec PlanRecord) → vec_len kept + length (records_in parts.actors.all.items) ≤ vec_capacity kept
    over-room kept = last-room net last.made net.run.rounds parts.actors.all.items last.all last.rests kept

    -- the record of a core whose history is lawful is that of a run
    pub over-run : (run : RunRecord) → IsRecordOf net plans parts.actors.all.items parts.world run → IsRun net (arriving_of arrivals) h run
    over-run run left = record {
      heard = last.heard;
      made = last.made;
      by = run-with net (arriving_of arrivals) last.heard last.made parts.actors.all.items parts.world last.all last.rests last.running.commits last.running.second last.running.stands plans last.running.planned run left;
      along = last.running.along;
    }

-- what is left after the last round is left of a run with these plans
pub left-run : (net : Net) (arrivals : Amounts) (h : List ℕ) (plans : List PlanRecord) (parts : Parts) → AreBetween net arrivals h plans parts → parts.round ≡ net.run.rounds → (left : RunTotals) → AreLeft net parts.actors.all.items parts.world left
    → IsRun net (arriving_of arrivals) h (with_plans plans left)
left-run net arrivals h plans parts between last left is =
    let b : Between net arrivals h net.run.rounds parts.actors.all.items parts.boards.items parts.world plans = subst (λ r. Between net arrivals h r parts.actors.all.items parts.boards.items parts.world plans) last between in
    record {
      heard = b.heard;
      made = b.made;
      by = run-left net (arriving_of arrivals) b.heard b.made parts.actors.all.items parts.world b.all b.rests b.running.commits b.running.second b.running.stands plans b.running.planned left is;
      along = b.running.along;
    }

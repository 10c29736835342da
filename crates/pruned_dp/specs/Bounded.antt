-- Which entries are the bounded table of an instance.
use Rattle.std.specs.Prelude.{ℕ, List, Option}
use Rattle.schedule_meaning.specs.Instances.{Problem}
use Rattle.dp_certificate.specs.Limits.{IsLimited}
use Rattle.dp_certificate.specs.declared.Entry.{Entry}
use Rattle.pruned_dp.specs.Arrivals.{IsArrivalDelay}

-- the bounded table: the table with the delay of the sequence in order of arrival as its limit; where that sequence is not
-- feasible there is no limit, and it is the whole table
pub record IsBounded (p : Problem) (entries : List Entry) : Type 0 where
  pub limit : Option ℕ
  pub delay : IsArrivalDelay p limit
  pub table : IsLimited p limit entries

-- No public clause names these: the parts of a certificate, as its maker has them.
use Rattle.std.specs.Prelude.{ℕ, ◌≤◌, List, length, Option}
use Rattle.schedule_meaning.specs.Best.{IsBest}
use Rattle.schedule_meaning.specs.Instances.{Problem, IsInstance}
use Rattle.schedule_meaning.specs.declared.planners.Answer.{Answer}
use Rattle.dp_certificate.specs.Limits.{IsLimited, IsSomeDelay}
use Rattle.dp_certificate.specs.declared.Entry.{Entry}

-- the entries of a table within a limit, and the best answer of an instance
pub record AreParts (p : Problem) (limit : Option ℕ) (entries : List Entry) (answer : Answer) : Type 0 where
  pub lawful : IsInstance p
  pub delay : IsSomeDelay p limit
  pub table : IsLimited p limit entries
  pub best : IsBest p answer
  pub few : length entries ≤ 2000001

-- What is served next after an entry, written as an entry again.
use Rattle.std.specs.Prelude.{ℕ, ◌+◌, ◌<◌, ◌≤◌, false, length, slice_index}
use Rattle.switch_rules.specs.Bounds.{greatest_cost, greatest_delay, latest_time}
use Rattle.schedule_meaning.specs.Instances.{Problem, list_at}
use Rattle.dp_certificate.specs.Prefixes.{Stage}
use Rattle.dp_certificate.specs.Certificates.{head_of}
use Rattle.dp_certificate.specs.declared.Entry.{Entry}

-- the stage of what is served next, whose green is not fresh
abbrev pub stage_of_next : Entry → Stage
stage_of_next e = record { counts = e.counts; head = head_of e false; delay = e.delay }

-- the bounds of what is served next after an entry, written as an entry
pub record IsNext (p : Problem) (e : Entry) : Type 0 where
  pub counts : (k : ℕ) → slice_index e.counts k ≤ length (list_at p.lists k)
  pub phase : e.phase < 4
  pub reach : e.at ≤ latest_time
  pub delay : e.delay ≤ greatest_delay + greatest_cost

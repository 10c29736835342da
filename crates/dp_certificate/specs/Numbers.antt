-- How many entries, numbers and clusters there are.
use Rattle.std.specs.Prelude.{◌≡◌, ℕ, ◌^◌, ◌<◌, List, [], length, slice_index, Option, Some, None}
use Rattle.switch_rules.specs.declared.Cluster.{Cluster}
use Rattle.schedule_meaning.specs.Instances.{list_at}
use Rattle.schedule_meaning.specs.declared.planners.Answer.{Answer}
use Rattle.schedule_meaning.specs.declared.planners.Answer.TheVariants.{Plan, NoPlan}
use Rattle.dp_certificate.specs.Certificates.{Claim}

-- the sequence of the answer, where there is one, has fewer than 2 ^ 32 numbers
abbrev pub IsShort : Answer → Type 0
IsShort (Plan sequence delay) = length sequence < 2 ^ 32
IsShort NoPlan = Unit {0}

-- fewer than 2 ^ 32 entries, and a short sequence
pub record IsNumbered (c : Claim) : Type 0 where
  pub entries : length c.entries < 2 ^ 32
  pub answer : IsShort c.answer

-- the sequence of an answer; empty where there is no plan
abbrev pub sequence_of : Answer → List ℕ
sequence_of (Plan sequence delay) = sequence
sequence_of NoPlan = []

-- the delay of an answer; none where there is no plan
abbrev pub answered_delay : Answer → Option ℕ
answered_delay (Plan sequence delay) = Some delay
answered_delay NoPlan = None

-- how many clusters each of four phases has; none where it is past the last
pub record AreLengths (lists : List (List Cluster)) (lengths : List ℕ) : Type 0 where
  pub places : length lengths ≡ 4
  pub each : (k : ℕ) → slice_index lengths k ≡ length (list_at lists k)

-- Tables with a limit on what the clusters cost at the least: the delay so far with the rest.
use Rattle.std.specs.Prelude.{◌≡◌, ℕ, ◌+◌, ◌≤◌, List, All, Contains, Option, Some, IfSome}
use Rattle.schedule_meaning.specs.Instances.{Problem}
use Rattle.schedule_meaning.specs.Timing.{delay_of}
use Rattle.dp_certificate.specs.Certificates.{AreRising}
use Rattle.dp_certificate.specs.Prefixes.{Key, Stage, key_of, stage_of}
use Rattle.dp_certificate.specs.Proves.{HasEntry, rest_of, stage_of_entry}
use Rattle.dp_certificate.specs.Whole.{IsOfPrefix}
use Rattle.dp_certificate.specs.declared.Entry.{Entry}

-- the delay of a stage with its rest is not above the limit, where there is one
abbrev pub IsWithin : Problem → Option ℕ → Stage → Type 0
IsWithin p limit s = IfSome limit (λ most. s.delay + rest_of p s.counts s.head.at ≤ most)

-- the limit, where there is one, is the delay of a feasible sequence
abbrev pub IsSomeDelay : Problem → Option ℕ → Type 0
IsSomeDelay p limit = IfSome limit (λ most. (sequence : List ℕ) × (delay_of p sequence ≡ Some most))

-- the list has the key of every fit prefix that is within the limit
abbrev pub HasKeysWithin : Problem → Option ℕ → List Key → Type 0
HasKeysWithin p limit keys =
    (prefix : List ℕ) → IfSome (stage_of p prefix) (λ s. IsWithin p limit s → Contains keys (key_of s))

-- the table with a limit: the entries rise, each is that of a fit prefix and within the limit, and the key of each fit prefix
-- within the limit is an entry of no more delay
pub record IsLimited (p : Problem) (limit : Option ℕ) (entries : List Entry) : Type 0 where
  pub rising : AreRising entries
  pub each : All (IsOfPrefix p) entries
  pub within : All (λ e. IsWithin p limit (stage_of_entry p e)) entries
  pub all : (prefix : List ℕ)
      → IfSome (stage_of p prefix) (λ s. IsWithin p limit s → HasEntry entries (key_of s) s.delay)

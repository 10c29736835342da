-- Which entries are the whole table of an instance.
use Rattle.std.specs.Prelude.{◌≡◌, ℕ, List, All, Some, IfSome}
use Rattle.schedule_meaning.specs.Instances.{Problem}
use Rattle.dp_certificate.specs.Prefixes.{Stage, key_of, stage_of}
use Rattle.dp_certificate.specs.Certificates.{AreRising}
use Rattle.dp_certificate.specs.Proves.{HasEntry, key_of_entry}
use Rattle.dp_certificate.specs.declared.Entry.{Entry}

-- an entry with the key and the delay of a fit prefix
pub record IsOfPrefix (p : Problem) (e : Entry) : Type 0 where
  pub prefix : List ℕ
  pub stage : Stage
  pub leads : stage_of p prefix ≡ Some stage
  pub key : key_of_entry e ≡ key_of stage
  pub delay : e.delay ≡ stage.delay

-- the whole table: the entries rise, each is that of a fit prefix, and the key of each fit prefix is an entry of no more
-- delay; so each key that fit prefixes reach stands there once, with the least delay of these prefixes
pub record IsWhole (p : Problem) (entries : List Entry) : Type 0 where
  pub rising : AreRising entries
  pub each : All (IsOfPrefix p) entries
  pub all : (prefix : List ℕ) → IfSome (stage_of p prefix) (λ s. HasEntry entries (key_of s) s.delay)

-- A source in memory, as contracts see it.
use Rattle.std.specs.Prelude.{ℕ, List, Some, drop}
use Rattle.outside_world.specs.Source.{SourceState}

-- all its bytes, how many of them have come, the numbers of the calls that fail, how many calls there were, how many failed
pub record SourceInMemory : Type 0 where
  pub bytes : List ℕ
  pub came : ℕ
  pub fails : List ℕ
  pub calls : ℕ
  pub faults : ℕ

-- what any source shows of itself
abbrev pub source_seen : SourceInMemory → SourceState
source_seen source = record { left = Some (drop source.came source.bytes); faults = source.faults }

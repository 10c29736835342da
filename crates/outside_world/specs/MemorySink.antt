-- A sink in memory, as contracts see it.
use Rattle.std.specs.Prelude.{ℕ, ◌-◌, ◌<◌, ◌==◌, min, List, length, take, Option, Some, find, IsSome, unwrap_or, ◌⊎◌}
use Rattle.std.specs.Option.{option_map}
use Rattle.outside_world.specs.Sink.{SinkState}
use Rattle.outside_world.specs.declared.memory_sink.SinkFail.{SinkFail}

-- the bytes written, how many there may be, the calls that fail, how many calls there were, how many failed
pub record SinkInMemory : Type 0 where
  pub bytes : List ℕ
  pub capacity : ℕ
  pub fails : List SinkFail
  pub calls : ℕ
  pub faults : ℕ

-- what any sink shows of itself
abbrev pub sink_seen : SinkInMemory → SinkState
sink_seen sink = record { written = Some sink.bytes; faults = sink.faults }

-- how many bytes of its piece the call of this number keeps, if it is named; the first naming counts
abbrev pub kept_at : List SinkFail → ℕ → Option ℕ
kept_at fails call = option_map (λ fail. fail.kept) (find (λ fail. fail.call == call) fails)

-- how many more bytes there may be
abbrev pub capacity_left : SinkInMemory → ℕ
capacity_left sink = sink.capacity - length sink.bytes

-- what the call of this number appends: no more than it keeps, if it is named, and no more than the capacity left
abbrev pub taken_at : SinkInMemory → ℕ → List ℕ → List ℕ
taken_at sink call piece = take (min (unwrap_or (kept_at sink.fails call) (length piece)) (capacity_left sink)) piece

-- the call of this number fails for this piece: it is named, or the piece passes the capacity
abbrev pub RefusesAt : SinkInMemory → ℕ → List ℕ → Type 0
RefusesAt sink call piece = IsSome (kept_at sink.fails call) ⊎ (capacity_left sink < length piece)

-- In which order the records of a state may stand.
use Rattle.std.specs.Prelude.{◌≡◌, ℕ, ◌+◌, ◌%◌, ◌<◌, ◌≤◌, List, [], ◌∷◌, length, slice_index_or, take}
use Rattle.net_parts.specs.Numbers.{Net}
use Rattle.net_parts.specs.Outline.{known_seconds, link_at}
use Rattle.round_states.specs.declared.entries.Entry.{Entry}
use Rattle.round_states.specs.declared.entries.StateRecord.{StateRecord}
use Rattle.round_states.specs.declared.entries.StateRecord.TheVariants as said

-- a round of the network begins in this second: one that its files may name
pub record IsBegin (net : Net) (second : ℕ) : Type 0 where
  pub early : second < known_seconds net
  pub step : second % net.run.step ≡ 0

-- the first record says when the round begins
abbrev pub IsFirstSaid : Net → StateRecord → Type 0
IsFirstSaid net (said.Now second) = IsBegin net second
IsFirstSaid net _ = ⊥

-- what comes on a link in this second is within the seconds that it takes to travel it, from the begin of the round on
pub record IsOnTheWay (net : Net) (now link second : ℕ) : Type 0 where
  pub exists : link < length net.link_names
  pub from : now ≤ second
  pub to : second < now + (link_at net link).travel

-- a later record says no begin, and of what comes only what is on the way
abbrev pub IsLaterSaid : Net → ℕ → ℕ → StateRecord → Type 0
IsLaterSaid net now place (said.Now second) = ⊥
IsLaterSaid net now place (said.Coming row) = IsOnTheWay net now place row.second
IsLaterSaid net now place _ = Unit {0}

-- the second that is told as the begin of the round
abbrev pub begin_said : StateRecord → ℕ
begin_said (said.Now second) = second
begin_said _ = 0

-- the begin of the round, by the first record; 0 where there is none
abbrev pub now_of : List Entry → ℕ
now_of [] = 0
now_of (e ∷ es) = begin_said e.content

-- a record may stand after these
abbrev pub FitsAfter : Net → List Entry → Entry → Type 0
FitsAfter net [] e = IsFirstSaid net e.content
FitsAfter net (first ∷ before) e = IsLaterSaid net (begin_said first.content) e.place e.content

-- each record may stand after those before it
abbrev pub AreInOrder : Net → List Entry → Type 0
AreInOrder net es = (k : ℕ) (d : Entry) → k < length es → FitsAfter net (take k es) (slice_index_or es k d)

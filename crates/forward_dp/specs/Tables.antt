-- No public clause names these: the rows of a table, and how far it is filled, as its loops keep it.
use Rattle.std.specs.Prelude.{◌≡◌, ℕ, zero, suc, ◌+◌, ◌-◌, ◌*◌, ◌<◌, ◌≤◌, ◌++◌, Bool, true, false, cond, List, [], length, map, slice_index, AllPairs, All, Contains, Option, Some}
use Rattle.schedule_meaning.specs.Instances.{Problem, IsInstance, list_at}
use Rattle.dp_certificate.specs.Limits.{IsSomeDelay, IsWithin}
use Rattle.dp_certificate.specs.Numbers.{AreLengths}
use Rattle.dp_certificate.specs.Prefixes.{Stage, key_of, stage_of}
use Rattle.dp_certificate.specs.Proves.{key_of_entry, stage_of_entry}
use Rattle.forward_dp.specs.Groups.{row_at}
use Rattle.forward_dp.specs.Rows.{IsNoWorse, time_of}
use Rattle.forward_dp.specs.declared.rows.Row.{Row}
use Rattle.forward_dp.specs.Numbers.{counts_number, order_number}
use Rattle.forward_dp.specs.declared.live_rows.DroppedRows.{DroppedRows}
use Rattle.forward_dp.specs.declared.live_rows.Rows.{Rows}

-- the counts and the phase of a row as one number: its group
abbrev pub row_group : Row → ℕ
row_group r = counts_number r.entry.counts * 4 + r.entry.phase

-- the counts, the phase and the times of a row as one number
abbrev pub row_number : Row → ℕ
row_number r = row_group r * 18446744073709551616 + time_of r

-- the group of a stage
abbrev pub stage_group : Stage → ℕ
stage_group s = counts_number s.counts * 4 + s.head.phase

-- the number of the counts of the row at a place
abbrev pub counts_number_at : List Row → ℕ → ℕ
counts_number_at rows place = counts_number (row_at rows place).entry.counts

-- a row is that of a fit prefix: the prefix leads to the stage of its entry, and has its order
pub record IsReached (p : Problem) (r : Row) : Type 0 where
  pub prefix : List ℕ
  pub leads : stage_of p prefix ≡ Some (stage_of_entry p r.entry)
  pub order : r.order ≡ order_number prefix

-- one of the rows has the key of a stage, and is no worse than one with the stage's delay and this order
pub record HasRowFor (rows : List Row) (s : Stage) (order : ℕ) : Type 0 where
  pub row : Row
  pub among : Contains rows row
  pub key : key_of_entry row.entry ≡ key_of s
  pub no_worse : IsNoWorse row s.delay order

-- rows of fit prefixes, in the order of their groups and times
pub record AreRows (p : Problem) (rows : List Row) : Type 0 where
  pub each : All (IsReached p) rows
  pub rising : AllPairs (λ a b. row_number a < row_number b) rows

-- each row is within the limit, where there is one
abbrev pub AreWithin : Problem → Option ℕ → List Row → Type 0
AreWithin p limit rows = All (λ r. IsWithin p limit (stage_of_entry p r.entry)) rows

-- the table with a limit, as far as the groups below this one: each stage of these that is within the limit has a row that is
-- no worse
pub record IsTable (p : Problem) (limit : Option ℕ) (group : ℕ) (rows : List Row) : Type 0 where
  pub made : AreRows p rows
  pub within : AreWithin p limit rows
  pub below : All (λ r. row_group r < group) rows
  pub all : (prefix : List ℕ) (s : Stage) → stage_of p prefix ≡ Some s → stage_group s < group → IsWithin p limit s
      → HasRowFor rows s (order_number prefix)

-- the whole table with a limit
pub record IsWholeTable (p : Problem) (limit : Option ℕ) (rows : List Row) : Type 0 where
  pub made : AreRows p rows
  pub within : AreWithin p limit rows
  pub all : (prefix : List ℕ) (s : Stage) → stage_of p prefix ≡ Some s → IsWithin p limit s
      → HasRowFor rows s (order_number prefix)

-- the first place, from one on, of a row whose counts have at least this number: what stands before it has less
pub record IsFrom (rows : List Row) (from least place : ℕ) : Type 0 where
  pub rise : from ≤ place
  pub within : place ≤ length rows
  pub below : from < place → counts_number_at rows (place - 1) < least
  pub here : place < length rows → least ≤ counts_number_at rows place

-- of the counts within the last, these are the next
pub record IsNextCounts (last old new : List ℕ) : Type 0 where
  pub places : length new ≡ 4
  pub within : (k : ℕ) → slice_index new k ≤ slice_index last k
  pub above : counts_number old < counts_number new
  pub least : (c : List ℕ) → ((k : ℕ) → slice_index c k ≤ slice_index last k) → counts_number c < counts_number new
      → counts_number c ≤ counts_number old

-- what the number of counts gains with one more of phase k
abbrev pub unit_of : ℕ → ℕ
unit_of zero = 262144
unit_of (suc zero) = 4096
unit_of (suc (suc zero)) = 64
unit_of (suc (suc (suc k))) = 1

-- the rows before a place have counts that, with one more of phase k, have less than this number
abbrev pub AreBelow : List Row → ℕ → ℕ → ℕ → Type 0
AreBelow rows k number end = (place : ℕ) → place < end → counts_number_at rows place + unit_of k < number

-- these counts can be reached by phase k from rows that stand from a place on
pub record CanFill (p : Problem) (limit : Option ℕ) (counts : List ℕ) (k from : ℕ) (rows : List Row) : Type 0 where
  pub lawful : IsInstance p
  pub places : length counts ≡ 4
  pub within : (j : ℕ) → slice_index counts j ≤ length (list_at p.lists j)
  pub phase : k < length p.plan
  pub some : 0 < slice_index counts k
  pub table : IsTable p limit (counts_number counts * 4 + k) rows
  pub known : from ≤ length rows
  pub behind : AreBelow rows k (counts_number counts) from

-- these counts are reached by phase k, by rows after the others, from rows that end at a place
pub record IsFilled (p : Problem) (limit : Option ℕ) (counts : List ℕ) (k : ℕ) (old new : List Row)
    (end : ℕ) : Type 0 where
  pub table : IsTable p limit (counts_number counts * 4 + k + 1) new
  pub made : List Row
  pub longer : new ≡ old ++ made
  pub cell : All (λ r. r.entry.counts ≡ counts) made
  pub known : end ≤ length old
  pub behind : AreBelow old k (counts_number counts + 1) end

-- for each phase a place before which all rows were served by it that lead to counts below a number, or, from a phase on,
-- below that number less one
pub record AreEnds (phases : ℕ) (rows : List Row) (number phase : ℕ) (ends : List ℕ) : Type 0 where
  pub places : length ends ≡ 4
  pub within : (k : ℕ) → slice_index ends k ≤ length rows
  pub none : (k : ℕ) → phases ≤ k → slice_index ends k ≡ 0
  pub behind : (k : ℕ) → AreBelow rows k number (slice_index ends k)
  pub ahead : (k : ℕ) → phase ≤ k → (place : ℕ) → place < slice_index ends k
      → counts_number_at rows place + unit_of k + 1 < number

-- the cell with these counts can be made, of which some are not zero
pub record CanFillCell (p : Problem) (limit : Option ℕ) (counts : List ℕ) (rows : List Row)
    (ends : List ℕ) : Type 0 where
  pub lawful : IsInstance p
  pub places : length counts ≡ 4
  pub within : (j : ℕ) → slice_index counts j ≤ length (list_at p.lists j)
  pub some : 0 < counts_number counts
  pub table : IsTable p limit (counts_number counts * 4) rows
  pub known : AreEnds (length p.plan) rows (counts_number counts + 1) 0 ends

-- the cell is made
pub record IsCellFilled (p : Problem) (limit : Option ℕ) (counts : List ℕ) (new : List Row)
    (ends : List ℕ) : Type 0 where
  pub table : IsTable p limit (counts_number counts * 4 + 4) new
  pub known : AreEnds (length p.plan) new (counts_number counts + 1) 4 ends

-- ---- the rows that are kept

-- all rows: those that are dropped, and the others
abbrev pub all_rows : List Row → Rows → List Row
all_rows gone rows = gone ++ rows.earlier.items ++ rows.latest.items

-- no row is kept, and none is dropped
pub record HasNone (rows : Rows) : Type 0 where
  pub gone : rows.gone ≡ 0
  pub earlier : rows.earlier.items ≡ []
  pub latest : rows.latest.items ≡ []
  pub apart : rows.apart ≡ false

-- the rows from which a phase is served: for the first one, and where the last cell stands apart, the earlier ones
abbrev pub source_of : Rows → ℕ → List Row
source_of rows zero = rows.earlier.items
source_of rows (suc k) = cond rows.apart rows.earlier.items rows.latest.items

-- how many rows stand before those from which a phase is served
abbrev pub base_of : Rows → ℕ → ℕ
base_of rows zero = rows.gone
base_of rows (suc k) = cond rows.apart rows.gone (rows.gone + length rows.earlier.items)

-- the rows that are dropped have counts which, with one more of the first phase, are below a number, the earlier rows counts below
-- another one, and the latest rows counts from there on and below a third
pub record AreBetween (low middle high : ℕ) (gone : List Row) (rows : Rows) : Type 0 where
  pub past : All (λ r. counts_number r.entry.counts + 262144 < low) gone
  pub earlier : All (λ r. counts_number r.entry.counts < middle) rows.earlier.items
  pub latest : All
      (λ r. (middle ≤ counts_number r.entry.counts) × (counts_number r.entry.counts < high)) rows.latest.items

-- the latest rows have this many clusters of the first phase, the earlier ones fewer, and those that are dropped at least two fewer
abbrev pub AreParted : ℕ → List Row → Rows → Type 0
AreParted first gone rows = AreBetween (first * 262144) (first * 262144) (first * 262144 + 262144) gone rows

-- of the counts within the lists none are above these
abbrev pub IsLastCounts : Problem → List ℕ → Type 0
IsLastCounts p counts =
    (c : List ℕ) → ((k : ℕ) → slice_index c k ≤ length (list_at p.lists k)) → counts_number c ≤ counts_number counts

-- the cell with these counts is the last one, and stands apart: the first phase is served, the latest rows have these counts, the
-- earlier ones lower counts, and those that are dropped fewer clusters of the first phase
pub record IsApart (p : Problem) (k : ℕ) (counts : List ℕ) (gone : List Row) (rows : Rows) : Type 0 where
  pub served : 0 < k
  pub last : IsLastCounts p counts
  pub parts : AreBetween (slice_index counts 0 * 262144 + 262144) (counts_number counts)
      (slice_index counts 0 * 262144 + 262144) gone rows

-- the rows as they stand while the cell with these counts is made, once the phases before k are served
pub record AreStanding (p : Problem) (k : ℕ) (counts : List ℕ) (gone : List Row) (rows : Rows) : Type 0 where
  pub count : rows.gone ≡ length gone
  pub shared : rows.apart ≡ false → AreParted (slice_index counts 0) gone rows
  pub apart : rows.apart ≡ true → IsApart p k counts gone rows

-- what is kept of the rows that are dropped are their entries, where they are kept
abbrev pub HasEntries : DroppedRows → List Row → Type 0
HasEntries past gone = past.keeps_entries ≡ true → past.entries.items ≡ map (λ r. r.entry) gone

-- rows that were parted by one number of clusters of the first phase are parted by another one, and are all the same
pub record IsEntered (Holds : List Row → Type 0) (first next : ℕ) (gone : List Row) (old new : Rows) : Type 0 where
  pub past : List Row
  pub held : Holds past
  pub count : old.gone ≡ length gone → new.gone ≡ length past
  pub parted : AreParted first gone old → first ≤ next → AreParted next past new
  pub apart : new.apart ≡ old.apart
  pub same : all_rows past new ≡ all_rows gone old

-- all rows are the same, and where it ends the earlier ones are dropped, and the last cell stands apart
pub record IsLeft (Holds : List Row → Type 0) (ends : Bool) (gone : List Row) (old new : Rows) : Type 0 where
  pub past : List Row
  pub held : Holds past
  pub count : old.gone ≡ length gone → new.gone ≡ length past
  pub stays : ends ≡ false → (past ≡ gone) × (new ≡ old)
  pub goes : ends ≡ true
      → (past ≡ gone ++ old.earlier.items) × (new.earlier.items ≡ old.latest.items) × (new.latest.items ≡ [])
      × (new.apart ≡ true)
  pub same : all_rows past new ≡ all_rows gone old

-- the group with these counts and this phase can be filled
pub record IsGroupReady (p : Problem) (limit : Option ℕ) (counts : List ℕ) (k from : ℕ) (gone : List Row)
    (rows : Rows) : Type 0 where
  pub can : CanFill p limit counts k from (all_rows gone rows)
  pub standing : AreStanding p k counts gone rows

-- the group with these counts and this phase is filled, and perhaps further rows are dropped
pub record IsGroupFilled (Holds : List Row → Type 0) (p : Problem) (limit : Option ℕ) (counts : List ℕ) (k : ℕ)
    (gone : List Row) (old new : Rows) (end : ℕ) : Type 0 where
  pub past : List Row
  pub held : Holds past
  pub filled : IsFilled p limit counts k (all_rows gone old) (all_rows past new) end
  pub standing : AreStanding p (k + 1) counts past new

-- the cell with these counts can be filled
pub record IsCellReady (p : Problem) (limit : Option ℕ) (counts : List ℕ) (gone : List Row) (rows : Rows)
    (ends : List ℕ) : Type 0 where
  pub can : CanFillCell p limit counts (all_rows gone rows) ends
  pub standing : AreStanding p 0 counts gone rows

-- the cell with these counts is filled, and some rows are dropped
pub record IsCellMade (Holds : List Row → Type 0) (p : Problem) (limit : Option ℕ) (counts : List ℕ) (rows : Rows)
    (ends : List ℕ) : Type 0 where
  pub gone : List Row
  pub held : Holds gone
  pub filled : IsCellFilled p limit counts (all_rows gone rows) ends
  pub standing : AreStanding p 4 counts gone rows

-- the whole table, of which some rows are dropped; those before the latest have lower counts than the last
pub record IsTableMade (p : Problem) (limit : Option ℕ) (gone : List Row) (rows : Rows) : Type 0 where
  pub table : IsWholeTable p limit (all_rows gone rows)
  pub before : (last : List ℕ) → AreLengths p.lists last
      → All (λ r. counts_number r.entry.counts < counts_number last) (gone ++ rows.earlier.items)

-- a table that has a row of each least sequence: one with no limit, or with one that a feasible sequence keeps
pub record HasAnswers (p : Problem) (rows : Rows) : Type 0 where
  pub limit : Option ℕ
  pub gone : List Row
  pub delay : IsSomeDelay p limit
  pub made : IsTableMade p limit gone rows

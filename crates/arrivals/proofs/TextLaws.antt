-- The first record at fault.
use Rattle.std.proofs.Common.{◌≡◌, ◌≢◌, ℕ, List, [], ◌∷◌, ◌++◌, sum_by, Some, None, IsSomeAnd, IfErr, OnOk, Ok, Err, Result, refl, sym, ap, ◌∙◌, inl, inr, arith}
use Rattle.std.proofs.lemmas.Option.{same_Some, none-some}
use Rattle.foundation.specs.Options.{◌>>=◌}
use Rattle.foundation.proofs.EachLaws.{each-push, each-length}
use Rattle.foundation.proofs.OptionLaws.{bind-some, and-some, and-at, and-weaker, none-and}
use Rattle.net_parts.specs.Numbers.{Net, number_of}
use Rattle.arrivals.specs.declared.rows.ArrivalRow.{ArrivalRow}
use Rattle.arrivals.specs.declared.rows.RowFault.{RowFault}
use Rattle.arrivals.specs.declared.rows.RowFault.TheVariants.{NoMemory, Header, Row, Link, Bound, Sum}
use Rattle.arrivals.specs.Amounts.{Amounts, AreKept, arriving_of}
use Rattle.arrivals.specs.Faults.{IsAtLink, IsAtBound, IsAtSum}
use Rattle.arrivals.specs.Records.{ArrivalRecord, parse, parse_in, header}
use Rattle.arrivals.specs.Rows.{AreRows, IsSource, amount_of, arriving_by}
use Rattle.arrivals.specs.Stored.{HasRead, IsFaultAt, IsRefused, IsTaken}
use Rattle.arrivals.specs.Texts.{IsSourceName, cause_of, form}
use Rattle.record_text.specs.Faults.{HasAfterHeader}
use Rattle.record_text.specs.Forms.{AreReadAs, AreRecordsOf, AreRefusedFor}
use Rattle.record_text.specs.Walks.{AreCounted, IsFaultAmong, OrMemory}
use Rattle.record_text.proofs.FormLaws.{IsHere, Refutes, first-cause, refuted}
use Rattle.arrivals.proofs.FaultLaws.{checked-none, row-amid, rows-more}
use Rattle.arrivals.proofs.RowLaws.{rows-count}

-- what a row was read from
record IsParsedAs (net : Net) (fields : List (List ℕ)) (r : ArrivalRow) : Type 0 where
  parsed : ArrivalRecord
  is : parse fields ≡ Some parsed
  named : number_of net.link_names parsed.name ≡ Some r.link

parsed-by : (net : Net) (fields : List (List ℕ)) (r : ArrivalRow) → parse_in net fields ≡ Some r → IsParsedAs net fields r
unfolding parse_in
parsed-by net fields r e =
    let (t, is, rest) = bind-some (parse fields) (λ t. number_of net.link_names t.name >>= λ link. Some (record { second = t.second; link = link; amount = t.amount })) r e in
    let (link, named, last) = bind-some (number_of net.link_names t.name) (λ link. Some (record { second = t.second; link = link; amount = t.amount })) r rest in
    record { parsed = t; is = is; named = named ∙ ap (λ (y : ArrivalRow). Some y.link) (same_Some _ _ last) }

source-name : (net : Net) (fields : List (List ℕ)) (r : ArrivalRow) → parse_in net fields ≡ Some r → IsSource net r.link → IsSomeAnd (parse fields) (λ t. IsSourceName net t.name)
source-name net fields r e source =
    let by = parsed-by net fields r e in
    and-some (λ t. IsSourceName net t.name) (parse fields) by.parsed by.is (and-some (IsSource net) (number_of net.link_names by.parsed.name) r.link by.named source)

no-source-name : (net : Net) (fields : List (List ℕ)) (r : ArrivalRow) → parse_in net fields ≡ Some r → IsAtLink net r → IsSomeAnd (parse fields) (λ t. IsSourceName net t.name → ⊥)
no-source-name net fields r e none =
    let by = parsed-by net fields r e in
    and-some (λ t. IsSourceName net t.name → ⊥) (parse fields) by.parsed by.is (λ source. none (and-at (IsSource net) (number_of net.link_names by.parsed.name) r.link by.named source))

-- nothing was taken
pub taken-none : (net : Net) (rows : List ArrivalRow) → rows ≡ [] → HasRead net [] rows
taken-none net rows none = rw none (record { reads = refl; lawful = (checked-none net).lawful })

-- a row was added, or not
module _ (net : Net) (fields : List (List ℕ)) (number : ℕ) (old new : List ArrivalRow) (r : ArrivalRow) (is : parse_in net fields ≡ Some r) where
  pub taken-more : (result : Result (Unit {0}) RowFault) → OnOk result (IsTaken net r (sum_by amount_of old)) → OnOk result (new ≡ old ++ r ∷ []) → OnOk result ((records : List (List (List ℕ))) → HasRead net records old → HasRead net (records ++ fields ∷ []) new)
  taken-more (Ok done) taken added = λ records has. rw added (record { reads = each-push (parse_in net) records fields old r has.reads is; lawful = rows-more net old r has.lawful taken })
  taken-more (Err fault) taken added = tt

  pub refused-row : (result : Result (Unit {0}) RowFault) → IfErr result (IsRefused net r number (sum_by amount_of old)) → IfErr result (IsFaultAt net old fields number)
  refused-row (Ok done) refused = tt
  refused-row (Err fault) refused = inr (r, is, refused)

-- rows that bring no more than they may are few
pub taken-few : (net : Net) (all : List (List (List ℕ))) → AreCounted (HasRead net) all
taken-few net all = λ header front here rest rows are taken. omega (arith, each-length (parse_in net) front rows taken.reads, rows-count net rows taken.lawful)

-- all records were taken
pub taken-all : (net : Net) (all : List (List (List ℕ))) (rows : List ArrivalRow) → HasAfterHeader header all (λ records. HasRead net records rows) → (a : Amounts) → AreKept a.rows → ((link second : ℕ) → arriving_of a second link ≡ arriving_by rows second link)
    → AreRecordsOf (form net) all a
taken-all net all rows taken a kept sums =
    record { records = taken.records; are = taken.are; parsed = rows; reads = taken.after.reads; is = record { lawful = taken.after.lawful; kept = kept; sums = sums } }

-- the cause to refuse a record after those that were taken
module _ (net : Net) (before : List (List (List ℕ))) (rows : List ArrivalRow) (here : List (List ℕ)) (number : ℕ) (taken : HasRead net before rows) where
  so-far : AreReadAs (parse_in net) (AreRows net) before rows
  so-far = record { reads = taken.reads; lawful = taken.lawful }

  refused-here : (fault : RowFault) → IsFaultAt net rows here number fault → IsHere (form net) before here number (cause_of net fault)
  -- the record is no row
  refused-here (Row n) (inl h) = (h.0, rows, so-far, h.1)
  refused-here (Link n) (inl h) =
      (h.0, rows, so-far, and-weaker (λ t. number_of net.link_names t.name ≡ None) (λ t. IsSourceName net t.name → ⊥) (parse here) (λ t none. none-and (IsSource net) (number_of net.link_names t.name) none) h.1)
  refused-here _ (inl h) = absurd h
  -- the row cannot be added
  refused-here (Link n) (inr (r, is, h)) = (h.0, rows, so-far, no-source-name net here r is h.1)
  refused-here (Bound n) (inr (r, is, h)) = (h.0, rows, so-far, and-some (IsAtBound net) (parse_in net here) r is h.1)
  refused-here (Sum n) (inr (r, is, h)) = (h.0, rows, so-far, and-some (IsAtSum net rows) (parse_in net here) r is (h.1, h.2))
  refused-here NoMemory (inr (r, is, h)) = tt
  refused-here _ (inr (r, is, h)) = absurd h

-- the first record that is not taken is at fault
pub first-fault : (net : Net) (all : List (List (List ℕ))) (fault : RowFault) → OrMemory (λ _ why. why ≡ NoMemory) fault (HasAfterHeader header all (IsFaultAmong (HasRead net) (IsFaultAt net) fault)) → AreRefusedFor (form net) all (cause_of net fault)
first-fault net all fault =
    first-cause (form net) all (cause_of net fault) (λ _ why. why ≡ NoMemory) (HasRead net) (IsFaultAt net) fault
    (λ e memory. rw memory tt) (λ before rows here number taken refused. refused-here net before rows here number taken fault refused)

-- what is at fault is told by no records of arrivals
refutes : (net : Net) (fault : RowFault) → fault ≢ NoMemory → Refutes (form net) (cause_of net fault)
refutes net NoMemory other = other refl
refutes net Header other = tt
refutes net (Row n) other = λ before here r rest a lawful none reads is. let by = parsed-by net here r reads in none-some by.parsed (sym none ∙ by.is)
refutes net (Link n) other = λ before here r rest a lawful none reads is.
    let by = parsed-by net here r reads in
    and-at (λ t. IsSourceName net t.name → ⊥) (parse here) by.parsed by.is none (and-at (λ t. IsSourceName net t.name) (parse here) by.parsed by.is (source-name net here r reads (row-amid net before r rest is.lawful).0.source))
refutes net (Bound n) other = λ before here r rest a lawful out reads is. (and-at (IsAtBound net) (parse_in net here) r reads out).1 (row-amid net before r rest is.lawful).0.bounds
refutes net (Sum n) other = λ before here r rest a lawful over reads is. omega (arith, (and-at (IsAtSum net before) (parse_in net here) r reads over).1, (row-amid net before r rest is.lawful).1)

-- a text with a fault stands for no arrivals
pub fault-refutes : (net : Net) (all : List (List (List ℕ))) (fault : RowFault) → AreRefusedFor (form net) all (cause_of net fault) → fault ≢ NoMemory → (a : Amounts) → AreRecordsOf (form net) all a → ⊥
fault-refutes net all fault refused other = refuted (form net) all (cause_of net fault) (refutes net fault other) refused

-- The first record at fault.
use Rattle.std.proofs.Common.{◌≡◌, ◌≢◌, ℕ, ◌<◌, ◌≤◌, List, [], ◌∷◌, ◌++◌, length, map, replicate, Some, None, IsSome, IfErr, OnOk, Ok, Err, Option, Result, Contains, refl, sym, ap, ◌∙◌, subst, inl, inr, arith}
use Rattle.std.proofs.lemmas.List.{map-append}
use Rattle.std.proofs.lemmas.Option.{same_Some, none-some}
use Rattle.foundation.specs.Options.{◌>>=◌}
use Rattle.foundation.proofs.EachLaws.{each-length, each-push}
use Rattle.foundation.proofs.ListLaws.{All-middle}
use Rattle.foundation.proofs.OptionLaws.{bind-some, and-some, and-at}
use Rattle.net_parts.specs.Limits.{most_links}
use Rattle.net_parts.specs.Numbers.{Net, number_of}
use Rattle.net_parts.proofs.DraftParts.{number_of-within}
use Rattle.record_text.specs.Faults.{HasAfterHeader}
use Rattle.record_text.specs.Forms.{AreReadAs, AreRecordsOf, AreRefusedFor}
use Rattle.record_text.specs.Walks.{AreCounted, IsFaultAmong, OrMemory}
use Rattle.record_text.proofs.FormLaws.{IsHere, Refutes, first-cause, refuted}
use Rattle.spillback_world.specs.declared.store_reader.StoreReader.{StoreReader}
use Rattle.spillback_world.specs.declared.store_reader.StoreRow.{StoreRow}
use Rattle.spillback_world.specs.declared.store_faults.StoreFault.{StoreFault}
use Rattle.spillback_world.specs.declared.store_faults.StoreFault.TheVariants.{NoMemory, Header, Row, Link, Bound, Twice}
use Rattle.spillback_world.specs.StoreReaders.{Adds, AreRead, IsRecordFault, IsFaultAt, HasRead, storages_of}
use Rattle.spillback_world.specs.StoreRecords.{StoreRecord, parse, parse_in, header}
use Rattle.spillback_world.specs.StoreRows.{AreRows, IsRow, link_of}
use Rattle.spillback_world.specs.StoreTexts.{IsAtBound, IsAtTwice, cause_of, form}
use Rattle.spillback_world.proofs.StoreReaderLaws.{storages-count, storages-more, storages-none, storages-store, has-row, not-twice}

-- what a row was read from
record IsParsedAs (net : Net) (fields : List (List ℕ)) (r : StoreRow) : Type 0 where
  parsed : StoreRecord
  is : parse fields ≡ Some parsed
  named : number_of net.link_names parsed.name ≡ Some r.link

parsed-by : (net : Net) (fields : List (List ℕ)) (r : StoreRow) → parse_in net fields ≡ Some r → IsParsedAs net fields r
unfolding parse_in
parsed-by net fields r e =
    let (t, is, rest) = bind-some (parse fields) (λ t. number_of net.link_names t.name >>= λ link. Some (record { link = link; storage = t.storage })) r e in
    let (link, named, last) = bind-some (number_of net.link_names t.name) (λ link. Some (record { link = link; storage = t.storage })) r rest in
    record { parsed = t; is = is; named = named ∙ ap (λ (y : StoreRow). Some y.link) (same_Some _ _ last) }

-- the link of a row is one of the network
pub row-exists : (net : Net) (fields : List (List ℕ)) (r : StoreRow) → parse_in net fields ≡ Some r → r.link < length net.link_names
row-exists net fields r e = let by = parsed-by net fields r e in number_of-within net.link_names by.parsed.name r.link by.named

-- nothing was taken
pub taken-none : (net : Net) (storages : List (Option ℕ)) → storages ≡ replicate (length net.link_names) None → AreRead net [] storages
taken-none net storages none = record { rows = []; reads = refl; of_rows = storages-none net storages none }

-- a row was added, or not
module _ (net : Net) (fields : List (List ℕ)) (number : ℕ) (old new : List (Option ℕ)) (r : StoreRow) (is : parse_in net fields ≡ Some r) where
  pub taken-more : (result : Result (Unit {0}) StoreFault) → Adds r number old new result → OnOk result ((records : List (List (List ℕ))) → AreRead net records old → AreRead net (records ++ fields ∷ []) new)
  taken-more (Ok done) (storage, none, same) =
      λ records taken. record { rows = taken.rows ++ r ∷ []; reads = each-push (parse_in net) records fields taken.rows r taken.reads is; of_rows = storages-more net taken.rows old new r taken.of_rows (row-exists net fields r is) storage none same }
  taken-more (Err fault) adds = tt

  pub refused-row : (result : Result (Unit {0}) StoreFault) → Adds r number old new result → IfErr result (IsRecordFault net old fields number)
  refused-row (Ok done) adds = tt
  refused-row (Err fault) adds = inr (r, is, new, adds)

-- the rows that were taken are few
pub taken-few : (net : Net) (all : List (List (List ℕ))) → length net.link_names ≤ most_links → AreCounted (HasRead net) all
taken-few net all links = λ header front here rest reader are taken. omega (arith, links, each-length (parse_in net) front taken.rows taken.reads, storages-count net taken.rows reader.storages.items taken.of_rows)

-- all records were taken
pub taken-all : (net : Net) (all : List (List (List ℕ))) (reader : StoreReader) (store : List ℕ) → HasAfterHeader header all (λ records. HasRead net records reader) → store ≡ storages_of reader.storages.items → AreRecordsOf (form net) all store
taken-all net all reader store taken is = rw is (record { records = taken.records; are = taken.are; parsed = taken.after.rows; reads = taken.after.reads; is = storages-store net taken.after.rows reader.storages.items taken.after.of_rows })

-- the cause to refuse a record after those that were taken
module _ (net : Net) (before : List (List (List ℕ))) (reader : StoreReader) (here : List (List ℕ)) (number : ℕ) (taken : HasRead net before reader) where
  so-far : AreReadAs (parse_in net) (AreRows net) before taken.rows
  so-far = record { reads = taken.reads; lawful = taken.of_rows.lawful }

  refused-here : (fault : StoreFault) → IsFaultAt net reader here number fault → IsHere (form net) before here number (cause_of net fault)
  -- the record is no row
  refused-here (Row n) (inl h) = (h.0, taken.rows, so-far, h.1)
  refused-here (Link n) (inl h) = (h.0, taken.rows, so-far, h.1)
  refused-here _ (inl h) = absurd h
  -- the row cannot be added
  refused-here (Bound n) (inr (r, is, new, h)) = (h.0, taken.rows, so-far, and-some IsAtBound (parse_in net here) r is h.1)
  refused-here (Twice n) (inr (r, is, new, h)) = (h.0, taken.rows, so-far, and-some (IsAtTwice taken.rows) (parse_in net here) r is (h.1, has-row taken.rows r.link (subst IsSome (taken.of_rows.are r.link) h.2)))
  refused-here _ (inr (r, is, new, h)) = absurd h

-- the first record that is not taken is at fault
pub first-fault : (net : Net) (all : List (List (List ℕ))) (fault : StoreFault) → OrMemory (λ _ why. why ≡ NoMemory) fault (HasAfterHeader header all (IsFaultAmong (HasRead net) (IsFaultAt net) fault)) → AreRefusedFor (form net) all (cause_of net fault)
first-fault net all fault =
    first-cause (form net) all (cause_of net fault) (λ _ why. why ≡ NoMemory) (HasRead net) (IsFaultAt net) fault
    (λ e memory. rw memory tt) (λ before reader here number taken stops. refused-here net before reader here number taken fault stops)

-- a row in the middle of lawful rows is lawful, and none before it has its link
row-amid : (net : Net) (before : List StoreRow) (r : StoreRow) (rest : List StoreRow) → AreRows net (before ++ r ∷ rest) → IsRow net r × (Contains (map link_of before) r.link → ⊥)
row-amid net before r rest are =
    let links = map-append link_of before (r ∷ rest) in
    (All-middle (IsRow net) before rest r are.each, not-twice (map link_of before) (map link_of rest) r.link (rw links at are.once))

-- what is at fault is told by no records of a store
refutes : (net : Net) (fault : StoreFault) → fault ≢ NoMemory → Refutes (form net) (cause_of net fault)
refutes net NoMemory other = other refl
refutes net Header other = tt
refutes net (Row n) other = λ before here r rest store lawful none reads is. let by = parsed-by net here r reads in none-some by.parsed (sym none ∙ by.is)
refutes net (Link n) other = λ before here r rest store lawful none reads is.
    let by = parsed-by net here r reads in
    none-some r.link (sym (and-at (λ t. number_of net.link_names t.name ≡ None) (parse here) by.parsed by.is none) ∙ by.named)
refutes net (Bound n) other = λ before here r rest store lawful out reads is. and-at IsAtBound (parse_in net here) r reads out (row-amid net before r rest is.lawful).0.bounds
refutes net (Twice n) other = λ before here r rest store lawful twice reads is. (row-amid net before r rest is.lawful).1 (and-at (IsAtTwice before) (parse_in net here) r reads twice).1

-- a text with a fault stands for no store
pub fault-refutes : (net : Net) (all : List (List (List ℕ))) (fault : StoreFault) → AreRefusedFor (form net) all (cause_of net fault) → fault ≢ NoMemory → (store : List ℕ) → AreRecordsOf (form net) all store → ⊥
fault-refutes net all fault refused other = refuted (form net) all (cause_of net fault) (refutes net fault other) refused

-- The records of a report, one after another, and the first at fault.
use Rattle.std.proofs.Common.{◌≡◌, ◌≢◌, ℕ, ◌+◌, ◌<◌, ◌≤◌, ◌^◌, List, All, [], ◌∷◌, ◌++◌, length, filter_map, get_or, map, Some, Result, Ok, Err, OnOk, refl, sym, ap, ◌∙◌, inl, inr, arith, length-append}
use Rattle.std.proofs.lemmas.List.Elements.{filter_map-append}
use Rattle.std.proofs.Math.Seq.{get_or-append_seam}
use Rattle.std.proofs.lemmas.Option.{none-some}
use Rattle.foundation.proofs.EachLaws.{each-length, each-push}
use Rattle.foundation.proofs.ListLaws.{All-middle}
use Rattle.foundation.proofs.OptionLaws.{and-at}
use Rattle.control_flow.specs.declared.greens.Green.{Green}
use Rattle.net_parts.specs.Numbers.{Net}
use Rattle.record_text.specs.Faults.{HasAfterHeader}
use Rattle.record_text.specs.Forms.{AreReadAs, AreRecordsOf, AreRefusedFor}
use Rattle.record_text.specs.Walks.{IsFaultAmong, OrMemory}
use Rattle.record_text.proofs.FormLaws.{IsHere, Refutes, first-cause, one-parsed, refuted}
use Rattle.world_records.specs.Records.{header}
use Rattle.audit.specs.declared.sheet_reader.SheetReader.{SheetReader}
use Rattle.audit.specs.declared.sheet_faults.SheetFault.{SheetFault}
use Rattle.audit.specs.declared.sheet_faults.SheetFault.TheVariants.{NoMemory, Header, Row, Extra, Name, Short}
use Rattle.audit.specs.declared.sheet.Sheet.{Sheet}
use Rattle.audit.specs.SheetEntries.{HasRead, HasCome, IsEntryFault, IsMore, IsFaultAt}
use Rattle.audit.specs.SheetFaults.{IsEarly, IsExtra, IsMisnamed, cause_of}
use Rattle.audit.specs.SheetTexts.{HasShape, IsInOrder, IsSheetOf, NamesNode, counts_of, form, green_of, link_of, links_counted, sums_of}
use Rattle.audit.specs.SheetRecords.{Counts, Ignored, Shows, Sums, SheetRecord, parse}
use Rattle.audit.proofs.SheetReaderLaws.{come-once, rows-few, shape-of}

-- what has come is in order
in-order : (net : Net) (parsed : List SheetRecord) (reader : SheetReader) → HasCome net parsed reader → IsInOrder net parsed
in-order net parsed reader come = record { nodes = come.nodes; names = come.names; once = come-once net parsed reader come }

-- nothing was taken
pub taken-none : (net : Net) (reader : SheetReader) → HasCome net [] reader → HasRead net [] reader
taken-none net reader come = record { parsed = []; reads = refl; come = come }

-- one record more
pub taken-more : (net : Net) (fields : List (List ℕ)) (t : SheetRecord) (old new : SheetReader) (result : Result (Unit {0}) SheetFault) → parse fields ≡ Some t → OnOk result (IsMore net old t new)
    → OnOk result ((records : List (List (List ℕ))) → HasRead net records old → HasRead net (records ++ fields ∷ []) new)
taken-more net fields t old new (Ok done) is more =
    λ records taken. record { parsed = taken.parsed ++ t ∷ []; reads = each-push parse records fields taken.parsed t taken.reads is; come = more taken.parsed taken.come }
taken-more net fields t old new (Err fault) is more = tt

-- the cause to refuse a record after those that were taken
module _ (net : Net) (before : List (List (List ℕ))) (reader : SheetReader) (here : List (List ℕ)) (number : ℕ) (taken : HasRead net before reader) where
  so-far : AreReadAs parse (IsInOrder net) before taken.parsed
  so-far = record { reads = taken.reads; lawful = in-order net taken.parsed reader taken.come }

  refused-here : (fault : SheetFault) → IsEntryFault net taken.parsed here number fault → IsHere (form net) before here number (cause_of net fault)
  refused-here NoMemory h = tt
  refused-here Header h = h
  refused-here (Row n) h = (h.0, taken.parsed, so-far, h.1)
  refused-here (Extra n) h = (h.0, taken.parsed, so-far, h.1)
  refused-here (Name n) h = (h.0, taken.parsed, so-far, h.1)
  refused-here Short h = h

-- the first record that is not taken is at fault
pub first-fault : (net : Net) (all : List (List (List ℕ))) (fault : SheetFault) → OrMemory (λ _ why. why ≡ NoMemory) fault (HasAfterHeader header all (IsFaultAmong (HasRead net) (IsFaultAt net) fault)) → AreRefusedFor (form net) all (cause_of net fault)
first-fault net all fault =
    first-cause (form net) all (cause_of net fault) (λ _ why. why ≡ NoMemory) (HasRead net) (IsFaultAt net) fault
    (λ e memory. rw memory tt) (λ before reader here number taken refused. refused-here net before reader here number taken fault (refused taken.parsed taken.come))

module _ (net : Net) (all : List (List (List ℕ))) (reader : SheetReader) (taken : HasAfterHeader header all (λ records. HasRead net records reader)) where
  -- all was told
  pub taken-all : (sheet : Sheet) → ((parsed : List SheetRecord) → HasCome net parsed reader → IsSheetOf net parsed sheet) → AreRecordsOf (form net) all sheet
  taken-all sheet whole = record { records = taken.records; are = taken.are; parsed = taken.after.parsed; reads = taken.after.reads; is = whole taken.after.parsed taken.after.come }

  pub taken-shape : (sheet : Sheet) → ((parsed : List SheetRecord) → HasCome net parsed reader → IsSheetOf net parsed sheet) → HasShape net sheet
  taken-shape sheet whole = shape-of net taken.after.parsed sheet (whole taken.after.parsed taken.after.come)

  pub taken-rows : (sheet : Sheet) → length all ≤ 2 ^ 32 → ((parsed : List SheetRecord) → HasCome net parsed reader → IsSheetOf net parsed sheet) → All (λ (rows : List Green). length rows < 2 ^ 32) sheet.lines
  taken-rows sheet few whole =
      let parsed = each-length parse taken.records taken.after.parsed taken.after.reads in
      rows-few net taken.after.parsed sheet (2 ^ 32) (omega (arith, parsed, few, ap length taken.are)) (whole taken.after.parsed taken.after.come)

  -- or not all
  pub taken-short : ((parsed : List SheetRecord) → HasCome net parsed reader → IsEarly net parsed) → AreRefusedFor (form net) all (cause_of net Short)
  taken-short early = record {
    records = taken.records;
    are = taken.are;
    after = (taken.after.parsed, so-far net taken.records reader [] 0 taken.after, early taken.after.parsed taken.after.come);
  }

-- where a part of what is told is at fault, all of it has no sheet
module _ (net : Net) (front : List SheetRecord) (t : SheetRecord) (back : List SheetRecord) (sheet : Sheet) (is : IsSheetOf net (front ++ t ∷ back) sheet) where
  links-split : net.link_names ≡ filter_map link_of front ++ filter_map link_of (t ∷ back)
  links-split = sym is.names ∙ filter_map-append link_of front (t ∷ back)

  sums-split : 1 ≡ length (filter_map sums_of front) + length (filter_map sums_of (t ∷ back))
  sums-split = sym (ap length is.once) ∙ ap length (filter_map-append sums_of front (t ∷ back)) ∙ length-append (filter_map sums_of front) (filter_map sums_of (t ∷ back))

  links-count : length net.link_names ≡ links_counted front + length (filter_map link_of (t ∷ back))
  links-count = ap length links-split ∙ length-append (filter_map link_of front) (filter_map link_of (t ∷ back))

extra-clash : (net : Net) (front : List SheetRecord) (t : SheetRecord) (back : List SheetRecord) (sheet : Sheet) → IsSheetOf net (front ++ t ∷ back) sheet → IsExtra net front t → ⊥
extra-clash net front Ignored back sheet is at = at
extra-clash net front (Shows node green) back sheet is at = at
extra-clash net front (Counts link totals) back sheet is at = omega (arith, at, links-count net front (Counts link totals) back sheet is)
extra-clash net front (Sums totals) back sheet is at = omega (arith, at, sums-split net front (Sums totals) back sheet is)

misnamed-clash : (net : Net) (front : List SheetRecord) (t : SheetRecord) (back : List SheetRecord) (sheet : Sheet) → IsSheetOf net (front ++ t ∷ back) sheet → IsMisnamed net front t → ⊥
misnamed-clash net front Ignored back sheet is at = at
misnamed-clash net front (Shows node green) back sheet is at = at (All-middle (NamesNode net) front back (Shows node green) is.nodes)
misnamed-clash net front (Counts link totals) back sheet is at =
    at.1 (sym (ap (λ (names : List (List ℕ)). get_or names (links_counted front) []) (links-split net front (Counts link totals) back sheet is) ∙ get_or-append_seam (filter_map link_of front) link (filter_map link_of back) []))
misnamed-clash net front (Sums totals) back sheet is at = at

early-clash : (net : Net) (parsed : List SheetRecord) (sheet : Sheet) → IsSheetOf net parsed sheet → IsEarly net parsed → ⊥
early-clash net parsed sheet is (inl few) = omega (arith, few, ap length is.names)
early-clash net parsed sheet is (inr none) = let a = ap length (sym none ∙ is.once) in omega (arith, a)

-- what is at fault is told by no records of a sheet
refutes : (net : Net) (fault : SheetFault) → fault ≢ NoMemory → Refutes (form net) (cause_of net fault)
refutes net NoMemory other = other refl
refutes net Header other = tt
refutes net (Row n) other = λ front here t back sheet lawful none reads is. none-some t (sym none ∙ reads)
refutes net (Extra n) other = λ front here t back sheet lawful at reads is. extra-clash net front t back sheet is (and-at (IsExtra net front) (parse here) t reads at)
refutes net (Name n) other = λ front here t back sheet lawful at reads is. misnamed-clash net front t back sheet is (and-at (IsMisnamed net front) (parse here) t reads at)
refutes net Short other = λ parsed sheet lawful early is. early-clash net parsed sheet is early

-- a text with a fault stands for no sheet
pub fault-refutes : (net : Net) (all : List (List (List ℕ))) (fault : SheetFault) → AreRefusedFor (form net) all (cause_of net fault) → fault ≢ NoMemory → (sheet : Sheet) → AreRecordsOf (form net) all sheet → ⊥
fault-refutes net all fault refused other = refuted (form net) all (cause_of net fault) (refutes net fault other) refused

-- records are those of one sheet at most
pub one-sheet : (net : Net) (all : List (List (List ℕ))) (one other : Sheet) → AreRecordsOf (form net) all one → AreRecordsOf (form net) all other → one ≡ other
one-sheet net all one other a b = λ i. record { lines = lines i; links = links i; totals = totals i }
  where
    parsed : a.parsed ≡ b.parsed
    parsed = one-parsed (form net) all one other a b

    lines : one.lines ≡ other.lines
    lines = a.is.shown ∙ ap (λ (t : List SheetRecord). map (λ node. filter_map (green_of node) t) net.node_names) parsed ∙ sym b.is.shown

    links : one.links ≡ other.links
    links = a.is.counted ∙ ap (filter_map counts_of) parsed ∙ sym b.is.counted

    totals : one.totals ≡ other.totals
    totals = let same = sym a.is.once ∙ ap (filter_map sums_of) parsed ∙ b.is.once in cc

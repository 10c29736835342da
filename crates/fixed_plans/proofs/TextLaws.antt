-- The records of a fixed plan, one after another, and the first at fault.
use Rattle.std.proofs.Common.{◌≡◌, ◌≢◌, ℕ, ◌<◌, ◌≤◌, List, [], ◌∷◌, ◌++◌, length, Option, Some, None, IfSome, IfErr, OnOk, Result, Ok, Err, refl, sym, ap, ◌∙◌, subst, inl, inr, arith}
use Rattle.std.proofs.lemmas.Option.{same_Some, none-some}
use Rattle.foundation.specs.Options.{◌>>=◌}
use Rattle.foundation.proofs.EachLaws.{each-length, each-push}
use Rattle.foundation.proofs.OptionLaws.{and-at, and-some, bind-some}
use Rattle.net_parts.specs.Numbers.{Net, number_of}
use Rattle.net_parts.specs.Outline.{plan_at}
use Rattle.net_parts.proofs.DraftParts.{number_of-within}
use Rattle.road_net.specs.Network.{IsNetwork}
use Rattle.record_text.specs.Faults.{HasAfterHeader}
use Rattle.record_text.specs.Forms.{AreReadAs, AreRecordsOf, AreRefusedFor}
use Rattle.record_text.specs.Walks.{AreCounted, IsFaultAmong, OrMemory}
use Rattle.record_text.proofs.FormLaws.{IsHere, Refutes, first-cause, refuted}
use Rattle.fixed_plans.specs.declared.reader.PlanReader.{PlanReader}
use Rattle.fixed_plans.specs.declared.faults.FixedFault.{FixedFault}
use Rattle.fixed_plans.specs.declared.faults.FixedFault.TheVariants.{NoMemory, Header, Row, Node, Phase, Green, Offset, Short}
use Rattle.fixed_plans.specs.declared.rows.Before.{Before}
use Rattle.fixed_plans.specs.declared.rows.FixedRow.{FixedRow}
use Rattle.fixed_plans.specs.Faults.{IsAtGreen, IsAtOffset, IsAtPhase, cause_of, form}
use Rattle.fixed_plans.specs.Records.{FixedRecord, header, parse_in, parse}
use Rattle.fixed_plans.specs.Rows.{AreRowsAfter, ComesNext, HasOffset, IsEnd, IsRow, as_before, last_of}
use Rattle.fixed_plans.specs.Readers.{Adds, HasRead, IsPlaced, IsFaultAt}
use Rattle.fixed_plans.proofs.RowLaws.{last-more, last-placed, row-amid, rows-few, rows-more}

-- what a row was read from
record IsParsedAs (net : Net) (fields : List (List ℕ)) (r : FixedRow) : Type 0 where
  parsed : FixedRecord
  is : parse fields ≡ Some parsed
  named : number_of net.node_names parsed.name ≡ Some r.node

parsed-by : (net : Net) (fields : List (List ℕ)) (r : FixedRow) → parse_in net fields ≡ Some r → IsParsedAs net fields r
unfolding parse_in
parsed-by net fields r e =
    let (t, is, rest) = bind-some (parse fields) (λ t. number_of net.node_names t.name >>= λ node. Some (record { node = node; phase = t.phase; green = t.green; offset = t.offset })) r e in
    let (node, named, last) = bind-some (number_of net.node_names t.name) (λ node. Some (record { node = node; phase = t.phase; green = t.green; offset = t.offset })) r rest in
    record { parsed = t; is = is; named = named ∙ ap (λ (y : FixedRow). Some y.node) (same_Some _ _ last) }

-- the node of a row that was read is one of the network
pub node-within : (net : Net) (fields : List (List ℕ)) (r : FixedRow) → parse_in net fields ≡ Some r → r.node < length net.node_names
node-within net fields r e = let by = parsed-by net fields r e in number_of-within net.node_names by.parsed.name r.node by.named

-- nothing was taken
pub taken-none : (net : Net) (reader : PlanReader) → reader.rows.items ≡ [] → reader.last ≡ None → HasRead net [] reader
taken-none net reader none first = record {
  reads = ap Some (sym none);
  lawful = subst (AreRowsAfter net None) (sym none) tt;
  last = first ∙ ap (last_of None) (sym none);
}

-- the rows that were taken are few
pub taken-few : (net : Net) → IsNetwork net → (all : List (List (List ℕ))) → AreCounted (HasRead net) all
taken-few net network all =
    let phases : (node : ℕ) → node < length net.node_names → length (plan_at net node) ≤ 4 = λ node below. (network.outline.plans node [] (omega (arith, below, network.outline.plan_count))).ring.count.1 in
    λ header front here rest reader are taken. omega (arith, rows-few net phases network.outline.node_count.1 reader.rows.items taken.lawful, each-length (parse_in net) front reader.rows.items taken.reads)

-- the last row that was taken is one of the network
pub taken-placed : (net : Net) (records : List (List (List ℕ))) (reader : PlanReader) → HasRead net records reader → IfSome reader.last (IsPlaced net)
taken-placed net records reader taken = subst (λ (o : Option Before). IfSome o (IsPlaced net)) (sym taken.last) (last-placed net None reader.rows.items tt taken.lawful)

-- a row was added, or not
module _ (net : Net) (fields : List (List ℕ)) (number : ℕ) (old new : PlanReader) (r : FixedRow) (is : parse_in net fields ≡ Some r) where
  pub taken-more : (result : Result (Unit {0}) FixedFault) → Adds net r number old new result → OnOk result ((records : List (List (List ℕ))) → HasRead net records old → HasRead net (records ++ fields ∷ []) new)
  taken-more (Ok done) (next, green, offset, rows, last) = λ records taken.
      let lawful : IsRow net old.last r = record { node = node-within net fields r is; next = next; green = green; offset = offset } in
      let all = rows-more net None old.rows.items r taken.lawful (subst (λ (o : Option Before). IsRow net o r) taken.last lawful) in
      record {
        reads = each-push (parse_in net) records fields old.rows.items r taken.reads is ∙ ap Some (sym rows);
        lawful = subst (AreRowsAfter net None) (sym rows) all;
        last = last ∙ ap (λ (o : Option Before). Some (as_before o r)) taken.last ∙ sym (last-more None old.rows.items r) ∙ ap (last_of None) (sym rows);
      }
  taken-more (Err fault) adds = tt

  pub refused-row : (result : Result (Unit {0}) FixedFault) → Adds net r number old new result → IfErr result (IsFaultAt net old fields number)
  refused-row (Ok done) adds = tt
  refused-row (Err fault) adds = inr (r, is, new, adds)

-- the cause to refuse a record after those that were taken
module _ (net : Net) (before : List (List (List ℕ))) (reader : PlanReader) (here : List (List ℕ)) (number : ℕ) (taken : HasRead net before reader) where
  so-far : AreReadAs (parse_in net) (AreRowsAfter net None) before reader.rows.items
  so-far = record { reads = taken.reads; lawful = taken.lawful }

  -- what was known of the last row is known of the rows
  of-rows : (P : Option Before → Type 0) → P reader.last → P (last_of None reader.rows.items)
  of-rows P h = subst P taken.last h

  refused-here : (fault : FixedFault) → IsFaultAt net reader here number fault → IsHere (form net) before here number (cause_of net fault)
  -- the record is no row
  refused-here (Row n) (inl h) = (h.0, reader.rows.items, so-far, h.1)
  refused-here (Node n) (inl h) = (h.0, reader.rows.items, so-far, h.1)
  refused-here _ (inl h) = absurd h
  -- the row cannot be added
  refused-here (Phase n) (inr (r, is, new, h)) = (h.0, reader.rows.items, so-far, and-some (IsAtPhase net reader.rows.items) (parse_in net here) r is (of-rows (λ o. ComesNext net o r → ⊥) h.1))
  refused-here (Green n) (inr (r, is, new, h)) = (h.0, reader.rows.items, so-far, and-some (IsAtGreen net reader.rows.items) (parse_in net here) r is (of-rows (λ o. ComesNext net o r) h.1, h.2))
  refused-here (Offset n) (inr (r, is, new, h)) =
      (h.0, reader.rows.items, so-far, and-some (IsAtOffset net reader.rows.items) (parse_in net here) r is (of-rows (λ o. ComesNext net o r) h.1, h.2, of-rows (λ o. HasOffset o r → ⊥) h.3))
  refused-here NoMemory (inr (r, is, new, h)) = tt
  refused-here _ (inr (r, is, new, h)) = absurd h

-- the first record that is not taken is at fault
pub first-fault : (net : Net) (all : List (List (List ℕ))) (fault : FixedFault) → OrMemory (λ _ why. why ≡ NoMemory) fault (HasAfterHeader header all (IsFaultAmong (HasRead net) (IsFaultAt net) fault)) → AreRefusedFor (form net) all (cause_of net fault)
first-fault net all fault =
    first-cause (form net) all (cause_of net fault) (λ _ why. why ≡ NoMemory) (HasRead net) (IsFaultAt net) fault
    (λ e memory. rw memory tt) (λ before reader here number taken refused. refused-here net before reader here number taken fault refused)

module _ (net : Net) (all : List (List (List ℕ))) (reader : PlanReader) (taken : HasAfterHeader header all (λ records. HasRead net records reader)) where
  -- all rows were taken
  pub taken-all : IsEnd net reader.last → AreRecordsOf (form net) all reader.rows.items
  taken-all end = record {
    records = taken.records;
    are = taken.are;
    parsed = reader.rows.items;
    reads = taken.after.reads;
    is = record { same = refl; is = record { each = taken.after.lawful; whole = subst (IsEnd net) taken.after.last end } };
  }

  -- or not all
  pub taken-short : (IsEnd net reader.last → ⊥) → AreRefusedFor (form net) all (cause_of net Short)
  taken-short early = record {
    records = taken.records;
    are = taken.are;
    after = (reader.rows.items, so-far net taken.records reader [] 0 taken.after, subst (λ (o : Option Before). IsEnd net o → ⊥) taken.after.last early);
  }

-- what is at fault is told by no records of a fixed plan
refutes : (net : Net) (fault : FixedFault) → fault ≢ NoMemory → Refutes (form net) (cause_of net fault)
refutes net NoMemory other = other refl
refutes net Header other = tt
refutes net (Row n) other = λ before here r rest plan lawful none reads is. let by = parsed-by net here r reads in none-some by.parsed (sym none ∙ by.is)
refutes net (Node n) other = λ before here r rest plan lawful none reads is.
    let by = parsed-by net here r reads in
    none-some r.node (sym (and-at (λ (t : FixedRecord). number_of net.node_names t.name ≡ None) (parse here) by.parsed by.is none) ∙ by.named)
refutes net (Phase n) other = λ before here r rest plan lawful at reads is. and-at (IsAtPhase net before) (parse_in net here) r reads at (row-amid net None before r rest is.is.each).next
refutes net (Green n) other = λ before here r rest plan lawful at reads is. (and-at (IsAtGreen net before) (parse_in net here) r reads at).1 (row-amid net None before r rest is.is.each).green
refutes net (Offset n) other = λ before here r rest plan lawful at reads is. (and-at (IsAtOffset net before) (parse_in net here) r reads at).2 (row-amid net None before r rest is.is.each).offset
refutes net Short other = λ rows plan lawful early is. early is.is.whole

-- a text with a fault stands for no fixed plan
pub fault-refutes : (net : Net) (all : List (List (List ℕ))) (fault : FixedFault) → AreRefusedFor (form net) all (cause_of net fault) → fault ≢ NoMemory → (rows : List FixedRow) → AreRecordsOf (form net) all rows → ⊥
fault-refutes net all fault refused other = refuted (form net) all (cause_of net fault) (refutes net fault other) refused

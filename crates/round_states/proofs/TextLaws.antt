-- The records of a state, one after another, and the first at fault.
use Rattle.std.proofs.Common.{◌≡◌, ◌≢◌, ℕ, ◌+◌, ◌<◌, List, [], ◌∷◌, ◌++◌, length, get_or, Some, None, Result, Ok, Err, IfErr, OnOk, refl, sym, ap, ◌∙◌, subst, inl, inr, arith}
use Rattle.std.proofs.lemmas.List.FromFn.{get_or-map-range_with_len}
use Rattle.std.proofs.lemmas.Option.{same_Some, none-some}
use Rattle.foundation.specs.Options.{◌>>=◌}
use Rattle.foundation.proofs.EachLaws.{each-push}
use Rattle.foundation.proofs.OptionLaws.{and-at, and-some, bind-some}
use Rattle.control_flow.specs.Greens.{BeginBy}
use Rattle.net_parts.specs.Numbers.{Net}
use Rattle.record_text.specs.Faults.{HasAfterHeader}
use Rattle.record_text.specs.Forms.{AreReadAs, AreRecordsOf, AreRefusedFor, AtEnd}
use Rattle.record_text.specs.Walks.{IsFaultAmong, OrMemory}
use Rattle.record_text.proofs.FormLaws.{IsHere, Refutes, first-cause, refuted}
use Rattle.round_states.specs.declared.asked.Asked.{Asked}
use Rattle.round_states.specs.declared.entries.Entry.{Entry}
use Rattle.round_states.specs.declared.entries.StateRecord.{StateRecord}
use Rattle.round_states.specs.declared.faults.StateFault.{StateFault}
use Rattle.round_states.specs.declared.faults.StateFault.TheVariants.{NoMemory, Header, Row, Name, Time, Sense, Board, Line, Sum, Stood, Late, Told}
use Rattle.round_states.specs.declared.states.RoundState.{RoundState}
use Rattle.round_states.specs.declared.texts.StateReader.{StateReader}
use Rattle.round_states.specs.Faults.{AreTold, BeginSoon, IsEntryFault, IsLimitFault, SensesFew, cause_of}
use Rattle.round_states.specs.Order.{AreInOrder, FitsAfter, now_of}
use Rattle.round_states.specs.States.{IsSensedAt, begin_of, farthest_begin, no_sense}
use Rattle.round_states.specs.Readers.{Adds, HasRead, IsFaultAt}
use Rattle.round_states.specs.Texts.{TellState, all_said, form, green_said, sensed_in}
use Rattle.round_states.specs.StateRecords.{parse_in, header, name_of, place_of, parse}
use Rattle.round_states.proofs.OrderLaws.{order-middle, order-push}

-- what a record was read from
record IsParsedAs (net : Net) (fields : List (List ℕ)) (e : Entry) : Type 0 where
  content : StateRecord
  is : parse fields ≡ Some content
  place : place_of net content (name_of fields) ≡ Some e.place

parsed-by : (net : Net) (fields : List (List ℕ)) (e : Entry) → parse_in net fields ≡ Some e → IsParsedAs net fields e
unfolding parse_in
parsed-by net fields e reads =
    let (content, is, rest) = bind-some (parse fields) (λ content. place_of net content (name_of fields) >>= λ place. Some (record { place = place; content = content })) e reads in
    let (place, of, last) = bind-some (place_of net content (name_of fields)) (λ place. Some (record { place = place; content = content })) e rest in
    record { content = content; is = is; place = of ∙ ap (λ (y : Entry). Some y.place) (same_Some _ _ last) }

-- a record was added, or not
module _ (net : Net) (fields : List (List ℕ)) (number : ℕ) (old new : StateReader) (e : Entry) (is : parse_in net fields ≡ Some e) where
  pub taken-more : (result : Result (Unit {0}) StateFault) → Adds net e number old new result → OnOk result ((records : List (List (List ℕ))) → HasRead net records old → HasRead net (records ++ fields ∷ []) new)
  taken-more (Ok done) (fits, more) =
      λ records read. subst (AreReadAs (parse_in net) (AreInOrder net) (records ++ fields ∷ [])) (sym more)
      (record { reads = each-push (parse_in net) records fields old.all.items e read.reads is; lawful = order-push net old.all.items e read.lawful fits })
  taken-more (Err fault) adds = tt

  pub refused-row : (result : Result (Unit {0}) StateFault) → Adds net e number old new result → IfErr result (IsFaultAt net old fields number)
  refused-row (Ok done) adds = tt
  refused-row (Err fault) adds = inr (e, is, new, adds)

-- the cause to refuse a record after those that were taken
refused-here : (net : Net) (before : List (List (List ℕ))) (taker : StateReader) (here : List (List ℕ)) (number : ℕ) → HasRead net before taker → (asked : Asked) (fault : StateFault) → IsFaultAt net taker here number fault → IsHere (form net asked) before here number (cause_of net asked fault)
refused-here net before taker here number taken asked (Row n) (inl h) = (h.0, taker.all.items, taken, h.1)
refused-here net before taker here number taken asked (Name n) (inl h) = (h.0, taker.all.items, taken, h.1)
refused-here net before taker here number taken asked _ (inl h) = absurd h
refused-here net before taker here number taken asked (Time n) (inr (e, is, new, h)) = (h.0, taker.all.items, taken, and-some (λ e. FitsAfter net taker.all.items e → ⊥) (parse_in net here) e is h.1)
refused-here net before taker here number taken asked NoMemory (inr (e, is, new, h)) = tt
refused-here net before taker here number taken asked _ (inr (e, is, new, h)) = absurd h

-- the first record that is not taken is at fault
pub first-fault : (net : Net) (asked : Asked) (all : List (List (List ℕ))) (fault : StateFault) → OrMemory (λ _ why. why ≡ NoMemory) fault (HasAfterHeader header all (IsFaultAmong (HasRead net) (IsFaultAt net) fault)) → AreRefusedFor (form net asked) all (cause_of net asked fault)
first-fault net asked all fault =
    first-cause (form net asked) all (cause_of net asked fault) (λ _ why. why ≡ NoMemory) (HasRead net) (IsFaultAt net) fault
    (λ e memory. rw memory tt) (λ before taker here number taken refused. refused-here net before taker here number taken asked fault refused)

-- what records tell that are read is at fault
module _ (net : Net) (asked : Asked) (all : List (List (List ℕ))) (es : List Entry) (read : HasAfterHeader header all (λ records. AreReadAs (parse_in net) (AreInOrder net) records es)) where
  at-end : (at_fault : List Entry → Type 0) → at_fault es → AreRefusedFor (form net asked) all (AtEnd at_fault)
  at-end at_fault h = record { records = read.records; are = read.are; after = (es, read.after, h) }

  pub parsed-fault : (fault : StateFault) → IsEntryFault net asked es fault → AreRefusedFor (form net asked) all (cause_of net asked fault)
  parsed-fault NoMemory h = tt
  parsed-fault (Sense l) h = at-end (λ es. IsEntryFault net asked es (Sense l)) h
  parsed-fault (Board l) h = at-end (λ es. IsEntryFault net asked es (Board l)) h
  parsed-fault (Line n) h = at-end (λ es. IsEntryFault net asked es (Line n)) h
  parsed-fault (Sum n) h = at-end (λ es. IsEntryFault net asked es (Sum n)) h
  parsed-fault (Stood l) h = at-end (λ es. IsEntryFault net asked es (Stood l)) h
  parsed-fault (Late n) h = at-end (λ es. IsEntryFault net asked es (Late n)) h
  parsed-fault (Told l) h = at-end (λ es. IsEntryFault net asked es (Told l)) h
  parsed-fault _ h = absurd h.1

-- what a state that records tell has of each node
module _ (net : Net) (asked : Asked) (es : List Entry) (state : RoundState) (tell : TellState net asked es state) where
  parsed-sensed : (n : ℕ) → n < length net.node_names → SensesFew net es n
  parsed-sensed n h =
      let same : get_or state.sensed n no_sense ≡ sensed_in net es n =
      ap (λ (s : RoundState). get_or s.sensed n no_sense) tell.parsed ∙ get_or-map-range_with_len (sensed_in net es) 0 (length net.node_names) n n no_sense h (omega arith) in
      (subst (IsSensedAt net (begin_of net state.round) n) same (tell.is.sensed n h)).sensed.amounts

  parsed-begin : (n : ℕ) → n < length net.node_names → begin_of net state.round ≡ now_of es
  parsed-begin n h =
      let same : get_or state.sensed n no_sense ≡ sensed_in net es n =
      ap (λ (s : RoundState). get_or s.sensed n no_sense) tell.parsed ∙ get_or-map-range_with_len (sensed_in net es) 0 (length net.node_names) n n no_sense h (omega arith) in
      sym ((subst (IsSensedAt net (begin_of net state.round) n) same (tell.is.sensed n h)).now)

  parsed-soon : (n : ℕ) → n < length net.node_names → BeginSoon es n
  parsed-soon n h =
      let same : get_or state.lines n [] ≡ all_said green_said es n =
      ap (λ (s : RoundState). get_or s.lines n []) tell.parsed ∙ get_or-map-range_with_len (all_said green_said es) 0 (length net.node_names) n n [] h (omega arith) in
      subst (λ now. BeginBy (now + farthest_begin) (all_said green_said es n)) (parsed-begin n h) (subst (BeginBy (begin_of net state.round + farthest_begin)) same (tell.is.soon n h))

  -- what can be, exceeds no limit
  limit-clash : (fault : StateFault) → IsLimitFault net asked es fault → ⊥
  limit-clash (Stood l) h = h.here (tell.stood l h.below)
  limit-clash (Late n) h = h.1.here (parsed-soon n h.1.below)
  limit-clash (Told l) h = h.2.here (tell.untold l h.2.below)
  limit-clash _ h = h

  -- what tells a state has no fault
  parsed-clash : (fault : StateFault) → fault ≢ NoMemory → IsEntryFault net asked es fault → ⊥
  parsed-clash NoMemory other h = other refl
  parsed-clash (Sense l) other h = h.here (tell.senses l h.below)
  parsed-clash (Board l) other h = h.1.here (tell.boards l h.1.below)
  parsed-clash (Line n) other h = h.2.here (tell.lines n h.2.below)
  parsed-clash (Sum n) other h = h.3.here (parsed-sensed n h.3.below)
  parsed-clash fault other h = limit-clash fault h.1

-- what is at fault is told by no records of a state
refutes : (net : Net) (asked : Asked) (fault : StateFault) → fault ≢ NoMemory → Refutes (form net asked) (cause_of net asked fault)
refutes net asked NoMemory other = other refl
refutes net asked Header other = tt
refutes net asked (Row n) other = λ before here e rest state lawful none reads tell. let by = parsed-by net here e reads in none-some by.content (sym none ∙ by.is)
refutes net asked (Name n) other = λ before here e rest state lawful none reads tell.
    let by = parsed-by net here e reads in
    none-some e.place (sym (and-at (λ content. place_of net content (name_of here) ≡ None) (parse here) by.content by.is none) ∙ by.place)
refutes net asked (Time n) other = λ before here e rest state lawful late reads tell. and-at (λ e. FitsAfter net before e → ⊥) (parse_in net here) e reads late (order-middle net before e rest tell.order)
refutes net asked (Sense l) other = λ es state lawful why tell. parsed-clash net asked es state tell (Sense l) other why
refutes net asked (Board l) other = λ es state lawful why tell. parsed-clash net asked es state tell (Board l) other why
refutes net asked (Line n) other = λ es state lawful why tell. parsed-clash net asked es state tell (Line n) other why
refutes net asked (Sum n) other = λ es state lawful why tell. parsed-clash net asked es state tell (Sum n) other why
refutes net asked (Stood l) other = λ es state lawful why tell. parsed-clash net asked es state tell (Stood l) other why
refutes net asked (Late n) other = λ es state lawful why tell. parsed-clash net asked es state tell (Late n) other why
refutes net asked (Told l) other = λ es state lawful why tell. parsed-clash net asked es state tell (Told l) other why

-- a text with a fault stands for no state
pub fault-refutes : (net : Net) (asked : Asked) (all : List (List (List ℕ))) (fault : StateFault) → AreRefusedFor (form net asked) all (cause_of net asked fault) → fault ≢ NoMemory → (state : RoundState)
    → AreRecordsOf (form net asked) all state → ⊥
fault-refutes net asked all fault refused other = refuted (form net asked) all (cause_of net asked fault) (refutes net asked fault other) refused

-- what exceeds a limit is at fault where all is told as it must be
pub limit-fault : (net : Net) (asked : Asked) (es : List Entry) (fault : StateFault) → AreTold net asked es → IsLimitFault net asked es fault → IsEntryFault net asked es fault
limit-fault net asked es (Stood l) told h = (told, h)
limit-fault net asked es (Late n) told h = (told, h)
limit-fault net asked es (Told l) told h = (told, h)
limit-fault net asked es _ told h = absurd h

-- The records of an answer, read again after those of a text.
use Rattle.std.proofs.Common.{◌≡◌, ◌≢◌, ℕ, ◌+◌, ◌-◌, ◌*◌, ◌<◌, ◌≤◌, ◌^◌, min, nat_le, ◌↔◌, Bool, true, false, IsTrue, List, [], ◌∷◌, ◌++◌, All, Option, Some, None, IsSome, codes, length, get_or, take, map, refl, sym, ap, ◌∙◌, subst, inl, inr, arith, append-nil, append_assoc, length-append}
use Rattle.std.specs.Prelude.{fold}
use Rattle.std.specs.Char.{is_ascii_digit}
use Rattle.std.specs.Fmt.{decimal}
use Rattle.std.specs.List.{flat_map, list_all, range_with_len}
use Rattle.std.proofs.lemmas.Bool.{and_parts, lt-ltb, le-leb, leb-true}
use Rattle.std.proofs.lemmas.Fmt.{decimal_nonempty, digits_decimal, digits_value-decimal, length-decimal-le}
use Rattle.std.proofs.lemmas.Grind.{flat_map-append}
use Rattle.std.proofs.lemmas.List.{map_more, take_all, take_more}
use Rattle.std.proofs.lemmas.List.Elements.{All-append, All-cons, All-head, All-nil, All-tail}
use Rattle.std.proofs.lemmas.Option.{none-some, same_Some}
use Rattle.std.proofs.lemmas.Str.Parse.{IsDigitsTest, IsNumeralModel, numerals_by_fold}
use Rattle.board_model.specs.declared.forecasts.Row.{Row}
use Rattle.control_flow.specs.declared.greens.Green.{Green}
use Rattle.foundation.specs.Options.{each}
use Rattle.foundation.proofs.EachLaws.{each-cons, each-push}
use Rattle.foundation.proofs.OptionLaws.{and-some}
use Rattle.foundation.proofs.RangeLaws.{range-push}
use Rattle.net_parts.specs.Numbers.{Net}
use Rattle.net_parts.specs.Outline.{link_at}
use Rattle.net_parts.proofs.DraftParts.{number_of-own}
use Rattle.road_net.specs.Network.{IsNetwork}
use Rattle.record_text.specs.Decimals.{decimal_value, number_of_digits}
use Rattle.record_text.specs.Faults.{HasAfterHeader}
use Rattle.record_text.specs.Forms.{AreReadAs}
use Rattle.record_text.specs.Records.{records_of}
use Rattle.record_text.specs.Walks.{IsFaultAmong, OrMemory}
use Rattle.round_states.specs.declared.asked.Asked.{Asked}
use Rattle.round_states.specs.declared.entries.Entry.{Entry}
use Rattle.round_states.specs.declared.entries.StateRecord.{StateRecord}
use Rattle.round_states.specs.declared.entries.StateRecord.TheVariants as said
use Rattle.round_states.specs.declared.faults.StateFault.{StateFault}
use Rattle.round_states.specs.declared.faults.StateFault.TheVariants.{NoMemory, Time}
use Rattle.round_states.specs.declared.states.RoundState.{RoundState}
use Rattle.round_states.specs.declared.kept_records.KeptRecords.{KeptRecords}
use Rattle.round_states.specs.Faults.{IsEntryFault}
use Rattle.round_states.specs.NextTexts.{AreKept, IsOfAnswer, IsStateTextWith, IsTextFaultWith, Keeps}
use Rattle.round_states.specs.Order.{AreInOrder, FitsAfter, IsFirstSaid}
use Rattle.round_states.specs.Readers.{HasRead, IsFaultAt, IsFaultWith}
use Rattle.round_states.specs.StateRecords.{entry_link_of, green_record, header, parse_fields, parse_in, row_of, row_record, green_of, byte_of, told_link_of, version_record}
use Rattle.round_states.specs.Texts.{TellState}
use Rattle.round_states.proofs.OrderLaws.{order-push}
use Rattle.round_states.proofs.TextLaws.{first-fault, parsed-fault}

-- the digits of a number are read as it
tells_all_digits : IsDigitsTest (λ ds. list_all is_ascii_digit ds ≡ true)
tells_all_digits = record {
  empty = refl;
  parts = λ c cs e. let k = and_parts (is_ascii_digit c) (list_all is_ascii_digit cs) e in let m = and_parts (nat_le 48 c) (nat_le c 57) k.0 in ((leb-true 48 c m.0, leb-true c 57 m.1), k.1);
  more = λ c cs k e. rw (le-leb 48 c k.0, le-leb c 57 k.1, e) refl;
}

own : IsNumeralModel (λ ds. list_all is_ascii_digit ds ≡ true) decimal_value
own = numerals_by_fold (λ ds. list_all is_ascii_digit ds ≡ true) tells_all_digits (λ n ds. fold (λ n digit. n * 10 + (digit - 48)) n ds) (record { empty = λ n. refl; more = λ n c cs k. refl })

number-again : (n : ℕ) → n < 2 ^ 32 → number_of_digits (decimal n) ≡ Some n
number-again n few =
    let wide : n < 2 ^ 64 = omega arith in
    let some : nat_le 1 (length (decimal n)) ≡ true = le-leb 1 (length (decimal n)) (decimal_nonempty n wide) in
    let short : nat_le (length (decimal n)) 10 ≡ true = le-leb (length (decimal n)) 10 (length-decimal-le 10 n (omega arith) (omega arith) wide) in
    let least : min (decimal_value (decimal n)) (2 ^ 32 - 1) ≡ n = omega (arith, digits_value-decimal own n wide, few) in
    rw (some, short, digits_decimal own n wide, least) refl

-- the record of a plan says nothing
plan-again : (net : Net) (name x y z : List ℕ) → parse_in net (codes "plan" ∷ name ∷ x ∷ y ∷ z ∷ []) ≡ Some (record { place = 0; content = said.Plan })
unfolding parse_in parse_fields
plan-again net name x y z = refl

module _ (net : Net) (network : IsNetwork net) where
  -- the record of a green is read as it
  green-again : (node : ℕ) (green : Green) → node < length net.node_names → green.phase < 2 ^ 8 → green.from < 2 ^ 32 → green.to < 2 ^ 32 → parse_in net (green_record net node green) ≡ Some (record { place = node; content = said.Green green })
  unfolding parse_in parse_fields green_of byte_of
  green-again node green inside phase from to =
      rw (number-again green.phase (omega arith), number-again green.from from, number-again green.to to, lt-ltb green.phase 256 (omega arith), number_of-own net.node_names network.outline.nodes_differ node inside) refl

  module _ (link : ℕ) (inside : link < length net.link_names) (from : IsSome (link_at net link).from) (to : IsSome (link_at net link).to) where
    -- and so are those of a board
    version-again : (version : ℕ) → version < 2 ^ 32 → parse_in net (version_record net link version) ≡ Some (record { place = link; content = said.Version version })
    unfolding parse_in parse_fields told_link_of entry_link_of
    version-again version few = rw (number-again version few, number_of-own net.link_names network.outline.links_differ link inside, to, from) refl

    row-again : (row : Row) → row.second < 2 ^ 32 → row.amount < 2 ^ 32 → parse_in net (row_record net link row) ≡ Some (record { place = link; content = said.Row row })
    unfolding parse_in parse_fields row_of told_link_of entry_link_of
    row-again row second amount = rw (number-again row.second second, number-again row.amount amount, number_of-own net.link_names network.outline.links_differ link inside, to, from) refl

-- what is kept of no records
pub kept-none : (net : Net) (kept : KeptRecords) → kept.all.items ≡ [] → AreKept net [] kept
kept-none net kept none = record { reads = rw none refl; told = rw none (All-nil (λ (e : Entry). IsOfAnswer e.content)) }

-- one record more
keeps-one : (net : Net) (old new : KeptRecords) (fields : List (List ℕ)) (e : Entry) → parse_in net fields ≡ Some e → IsOfAnswer e.content → new.all.items ≡ old.all.items ++ e ∷ [] → Keeps net old new (fields ∷ [])
keeps-one net old new fields e reads is more = record {
  keeps = λ before kept. record {
    reads = rw more (each-push (parse_in net) before fields old.all.items e kept.reads reads);
    told = rw more (All-append (λ (e : Entry). IsOfAnswer e.content) old.all.items (e ∷ []) kept.told (All-cons (λ (e : Entry). IsOfAnswer e.content) e [] is (All-nil (λ (e : Entry). IsOfAnswer e.content))));
  };
}

pub keeps-plan : (old new : KeptRecords) → new.all.items ≡ old.all.items ++ record { place = 0; content = said.Plan } ∷ [] → (net : Net) (name x y z : List ℕ) → Keeps net old new ((codes "plan" ∷ name ∷ x ∷ y ∷ z ∷ []) ∷ [])
keeps-plan old new more net name x y z = keeps-one net old new _ _ (plan-again net name x y z) tt more

module _ (net : Net) (network : IsNetwork net) (old new : KeptRecords) where
  pub keeps-green : (node : ℕ) (green : Green) → node < length net.node_names → green.phase < 2 ^ 8 → green.from < 2 ^ 32 → green.to < 2 ^ 32
      → new.all.items ≡ old.all.items ++ record { place = node; content = said.Green green } ∷ [] → Keeps net old new (green_record net node green ∷ [])
  keeps-green node green inside phase from to more = keeps-one net old new _ _ (green-again net network node green inside phase from to) tt more

  module _ (link : ℕ) (inside : link < length net.link_names) (from : IsSome (link_at net link).from) (to : IsSome (link_at net link).to) where
    pub keeps-version : (version : ℕ) → version < 2 ^ 32 → new.all.items ≡ old.all.items ++ record { place = link; content = said.Version version } ∷ [] → Keeps net old new (version_record net link version ∷ [])
    keeps-version version few more = keeps-one net old new _ _ (version-again net network link inside from to version few) tt more

    pub keeps-row : (row : Row) → row.second < 2 ^ 32 → row.amount < 2 ^ 32 → new.all.items ≡ old.all.items ++ record { place = link; content = said.Row row } ∷ [] → Keeps net old new (row_record net link row ∷ [])
    keeps-row row second amount more = keeps-one net old new _ _ (row-again net network link inside from to row second amount) tt more

-- nothing, and records after records
pub keeps-none : (net : Net) (kept : KeptRecords) → Keeps net kept kept []
keeps-none net kept = record { keeps = λ before h. subst (λ l. AreKept net l kept) (sym (append-nil before)) h }

pub keeps-then : (net : Net) (a b c : KeptRecords) (xs ys : List (List (List ℕ))) → Keeps net a b xs → Keeps net b c ys → Keeps net a c (xs ++ ys)
keeps-then net a b c xs ys first second = record { keeps = λ before h. subst (λ l. AreKept net l c) (append_assoc before xs ys) (second.keeps (before ++ xs) (first.keeps before h)) }

-- a loop over a list: one element more, and all
module _ {X : Type 0} (net : Net) (f : X → List (List ℕ)) (xs : List X) where
  pub keeps-more : (i : ℕ) (x : X) (a b c : KeptRecords) → i < length xs → x ≡ get_or xs i x → Keeps net a b (map f (take i xs)) → Keeps net b c (f x ∷ []) → Keeps net a c (map f (take (i + 1) xs))
  keeps-more i x a b c inside at so_far one =
      subst (Keeps net a c) (ap (λ y. map f (take i xs) ++ f y ∷ []) at ∙ sym (map_more f xs i x inside)) (keeps-then net a b c (map f (take i xs)) (f x ∷ []) so_far one)

  pub keeps-all : (i : ℕ) (a b : KeptRecords) → length xs ≤ i → Keeps net a b (map f (take i xs)) → Keeps net a b (map f xs)
  keeps-all i a b end so_far = subst (λ l. Keeps net a b (map f l)) (take_all i xs end) so_far

-- the same with several records for each element
module _ {X : Type 0} (net : Net) (f : X → List (List (List ℕ))) where
  keeps-joined : (xs : List X) (x : X) (a b c : KeptRecords) → Keeps net a b (flat_map f xs) → Keeps net b c (f x) → Keeps net a c (flat_map f (xs ++ x ∷ []))
  keeps-joined xs x a b c so_far part =
      subst (Keeps net a c) (ap (λ l. flat_map f xs ++ l) (sym (append-nil (f x))) ∙ sym (flat_map-append f xs (x ∷ []))) (keeps-then net a b c (flat_map f xs) (f x) so_far part)

  pub keeps-each : (xs : List X) (i : ℕ) (x : X) (a b c : KeptRecords) → i < length xs → x ≡ get_or xs i x → Keeps net a b (flat_map f (take i xs)) → Keeps net b c (f x) → Keeps net a c (flat_map f (take (i + 1) xs))
  keeps-each xs i x a b c inside at so_far part =
      subst (λ l. Keeps net a c (flat_map f l)) (ap (λ y. take i xs ++ y ∷ []) at ∙ sym (take_more xs i x inside)) (keeps-joined (take i xs) x a b c so_far part)

  pub keeps-every : (xs : List X) (i : ℕ) (a b : KeptRecords) → length xs ≤ i → Keeps net a b (flat_map f (take i xs)) → Keeps net a b (flat_map f xs)
  keeps-every xs i a b end so_far = subst (λ l. Keeps net a b (flat_map f l)) (take_all i xs end) so_far

pub keeps-part : (net : Net) (f : ℕ → List (List (List ℕ))) (n : ℕ) (a b c : KeptRecords) → Keeps net a b (flat_map f (range_with_len 0 n)) → Keeps net b c (f n) → Keeps net a c (flat_map f (range_with_len 0 (n + 1)))
keeps-part net f n a b c so_far part =
    let next : range_with_len 0 n ++ n ∷ [] ≡ range_with_len 0 (n + 1) = ap (λ (k : ℕ). range_with_len 0 n ++ k ∷ []) (let e : n ≡ 0 + n = omega arith in e) ∙ sym (range-push 0 n) in
    subst (λ l. Keeps net a c (flat_map f l)) next (keeps-joined net f (range_with_len 0 n) n a b c so_far part)

-- what is of an answer may stand after any record
order-told : (net : Net) (es told : List Entry) → 0 < length es → AreInOrder net es → All (λ (e : Entry). IsOfAnswer e.content) told → AreInOrder net (es ++ told)
order-told net es [] some order all = subst (AreInOrder net) (sym (append-nil es)) order
order-told net es (e ∷ told) some order all =
    subst (AreInOrder net) (append_assoc es (e ∷ []) told)
    (order-told net (es ++ e ∷ []) told (omega (arith, length-append es (e ∷ []))) (order-push net es e order (fits es some)) (All-tail (λ (e : Entry). IsOfAnswer e.content) e told all))
  where
    later : (first : Entry) (before : List Entry) (content : StateRecord) (place : ℕ) → IsOfAnswer content → FitsAfter net (first ∷ before) (record { place = place; content = content })
    later first before (said.Now second) place is = absurd is
    later first before (said.Queue queue) place is = absurd is
    later first before (said.Coming row) place is = absurd is
    later first before (said.Green green) place is = tt
    later first before (said.Version version) place is = tt
    later first before (said.Row row) place is = tt
    later first before said.Plan place is = tt

    fits : (es : List Entry) → 0 < length es → FitsAfter net es e
    fits [] some = absurd (omega arith)
    fits (first ∷ before) some = later first before e.content e.place (All-head (λ (e : Entry). IsOfAnswer e.content) e told all)

none-told : (told : List Entry) → (0 < length told → ⊥) → told ≡ []
none-told [] none = refl
none-told (e ∷ told) none = absurd (none (omega arith))

-- where no record of an answer is the first
pub order-with : (net : Net) (es told front back : List Entry) (late : Bool) → front ≡ es → back ≡ told → (IsTrue late ↔ ((front ≡ []) × (0 < length back))) → late ≡ false → AreInOrder net es → All (λ (e : Entry). IsOfAnswer e.content) told → AreInOrder net (es ++ told)
order-with net [] told front back late same rest is never order all =
    let none : told ≡ [] = none-told told (λ some. let yes : late ≡ true = is.1 (same, subst (λ (l : List Entry). 0 < length l) (sym rest) some) in absurd (cc)) in
    rw none order
order-with net (e ∷ es) told front back late same rest is never order all = order-told net (e ∷ es) told (omega arith) order all

-- readings one after another
each-both : {X Y : Type 0} (f : X → Option Y) (xs us : List X) (ys vs : List Y) → each f xs ≡ Some ys → each f us ≡ Some vs → each f (xs ++ us) ≡ Some (ys ++ vs)
each-both f [] us ys vs first second = subst (λ l. each f us ≡ Some (l ++ vs)) (same_Some [] ys first) second
each-both f (x ∷ xs) us ys vs first second =
    let (y, zs, here, more, last) = each-cons f x xs ys first in
    let both : each f (x ∷ xs ++ us) ≡ Some (y ∷ (zs ++ vs)) = rw (here, each-both f xs us zs vs more second) refl in
    both ∙ ap (λ l. Some (l ++ vs)) (sym last)

module _ (net : Net) (asked : Asked) (bytes : List ℕ) (told : List (List (List ℕ))) (kept : KeptRecords) (is : AreKept net told kept) where
  -- the fault of a record of the text
  pub fault-before : (fault : StateFault) → OrMemory (λ _ why. why ≡ NoMemory) fault (HasAfterHeader header (records_of bytes) (IsFaultAmong (HasRead net) (IsFaultAt net) fault)) → IsTextFaultWith net asked told bytes fault
  fault-before fault stop = first-fault net asked (records_of bytes ++ told) fault (more stop)
    where
      more : OrMemory (λ _ why. why ≡ NoMemory) fault (HasAfterHeader header (records_of bytes) (IsFaultAmong (HasRead net) (IsFaultAt net) fault))
          → OrMemory (λ _ why. why ≡ NoMemory) fault (HasAfterHeader header (records_of bytes ++ told) (IsFaultAmong (HasRead net) (IsFaultAt net) fault))
      more (inl memory) = inl memory
      more (inr stop) =
          let (number, first) = stop.after in
          inr (record {
            records = stop.records ++ told;
            are = ap (λ l. l ++ told) stop.are;
            after = (number, record { before = first.before; here = first.here; after = first.after ++ told; are = ap (λ l. l ++ told) first.are ∙ append_assoc first.before (first.here ∷ first.after) told; counted = first.counted; so_far = first.so_far; reads = first.reads; faulty = first.faulty });
          })

  -- a text that does not begin with the header
  header-tells : parse_in net header ≡ None
  unfolding parse_in parse_fields
  header-tells = refl

  pub no-header : ((records : List (List (List ℕ))) → records_of bytes ≢ header ∷ records) → (records : List (List (List ℕ))) → records_of bytes ++ told ≢ header ∷ records
  no-header none records = by (records_of bytes) refl
    where
      by : (own : List (List (List ℕ))) → records_of bytes ≡ own → own ++ told ≢ header ∷ records
      by [] e same =
          let (y, zs, here, more, last) = each-cons (parse_in net) header records kept.all.items (subst (λ l. each (parse_in net) l ≡ Some kept.all.items) same is.reads) in
          none-some y (sym header-tells ∙ here)
      by (r ∷ rs) e same = none rs (e ∙ ap (λ l. get_or l 0 [] ∷ rs) same)

  module _ (es : List Entry) (read : HasAfterHeader header (records_of bytes) (λ records. AreReadAs (parse_in net) (AreInOrder net) records es)) where
    -- all records tell this
    read-with : AreInOrder net (es ++ kept.all.items) → HasAfterHeader header (records_of bytes ++ told) (λ records. AreReadAs (parse_in net) (AreInOrder net) records (es ++ kept.all.items))
    read-with order = record {
      records = read.records ++ told;
      are = ap (λ l. l ++ told) read.are;
      after = record { reads = each-both (parse_in net) read.records told es kept.all.items read.after.reads is.reads; lawful = order };
    }

    pub state-with : (state : RoundState) → TellState net asked (es ++ kept.all.items) state → IsStateTextWith net asked told bytes state
    state-with state tell = let all = read-with tell.order in record { records = all.records; are = all.are; parsed = es ++ kept.all.items; reads = all.after.reads; is = tell }

    -- the first record that was told stands first
    late-told : es ≡ [] → 0 < length kept.all.items → IsTextFaultWith net asked told bytes (Time 1)
    late-told none some = by told is.reads refl
      where
        nothing : (records : List (List (List ℕ))) → each (parse_in net) records ≡ Some [] → records ≡ []
        nothing [] e = refl
        nothing (r ∷ rs) e = let (y, zs, here, more, last) = each-cons (parse_in net) r rs [] e in absurd (cc)

        late : (e : Entry) → IsOfAnswer e.content → ¬ FitsAfter net [] e
        late e is fits = not-first e.content is fits
          where
            not-first : (content : StateRecord) → IsOfAnswer content → ¬ IsFirstSaid net content
            not-first (said.Now second) is fits = is
            not-first (said.Queue queue) is fits = is
            not-first (said.Coming row) is fits = is
            not-first _ is fits = fits

        by : (records : List (List (List ℕ))) → each (parse_in net) records ≡ Some kept.all.items → told ≡ records → IsTextFaultWith net asked told bytes (Time 1)
        by [] e same = absurd (omega (arith, some, ap length (same_Some _ _ e)))
        by (r ∷ rs) e same =
            let (y, zs, here, more, last) = each-cons (parse_in net) r rs kept.all.items e in
            let own : read.records ≡ [] = nothing read.records (read.after.reads ∙ ap (λ l. Some l) none) in
            let first : IsOfAnswer y.content = All-head (λ (e : Entry). IsOfAnswer e.content) y zs (subst (All (λ (e : Entry). IsOfAnswer e.content)) last is.told) in
            record {
              records = read.records ++ told;
              are = ap (λ l. l ++ told) read.are;
              after = record {
                before = [];
                here = r;
                after = rs;
                are = ap (λ l. l ++ told) own ∙ same;
                counted = refl;
                so_far = [];
                reads = record { reads = refl; lawful = λ k d below. absurd (omega arith) };
                faulty = and-some (λ e. FitsAfter net [] e → ⊥) (parse_in net r) y here (late y first);
              };
            }

    pub fault-with : (fault : StateFault) → IsFaultWith net asked es kept.all.items fault → IsTextFaultWith net asked told bytes fault
    fault-with (Time n) (same, none, some) = subst (λ n. IsTextFaultWith net asked told bytes (Time n)) (sym same) (late-told none some)
    fault-with NoMemory h = tt
    fault-with fault h = parsed-fault net asked (records_of bytes ++ told) (es ++ kept.all.items) (read-with h.0) fault h.1

-- a fault of what all tell, where it stands in order
pub entry-fault : (net : Net) (asked : Asked) (es told : List Entry) → AreInOrder net (es ++ told) → (fault : StateFault) → IsEntryFault net asked (es ++ told) fault → IsFaultWith net asked es told fault
entry-fault net asked es told order NoMemory h = tt
entry-fault net asked es told order (Time n) h = absurd h.1
entry-fault net asked es told order fault h = (order, h)

-- What a reader of records has left.
use Rattle.std.proofs.Common.{Bor, ◌≡◌, ℕ, zero, suc, ◌+◌, ◌<◌, ◌≤◌, Bool, true, false, cond, ◌==◌, List, [], ◌∷◌, ◌++◌, length, Option, Some, None, IsSome, Result, Ok, Err, IfOk, IfErr, OnOk, OnErr, ok_or, refl, sym, ap, ◌∙◌, inl, add-one, arith}
use Rattle.std.proofs.lemmas.Bool.{cond_both, false≢true}
use Rattle.std.proofs.lemmas.Option.{same_Some}
use Rattle.csv.specs.Machine.{Read, ends_with, after_end, in_field, start_field, start_record, step, ends_at_end, is_end, fields_after, field_after, next_record}
use Rattle.csv.specs.Reading.{ExplainsRead, Reached, ReadRecord, Ready, default_config, error_kind, has_failed, is_flexible, records_from, records_next, stops_reader}
use Rattle.csv.specs.declared.error.Error.{Error}
use Rattle.csv.specs.declared.error.ErrorKind.{ErrorKind}
use Rattle.csv.specs.declared.error.ErrorKind.TheVariants as kind
use Rattle.csv.specs.declared.parser.Action.{Action}
use Rattle.csv.specs.declared.parser.State.{State}
use Rattle.csv.specs.declared.parser.State.TheVariants as st
use Rattle.csv.specs.declared.parser.Action.TheVariants as act
use Rattle.csv.specs.declared.reader.Reader.{Reader}
use Rattle.csv.proofs.ReadFacts.{rows-more, rows-end}
use Rattle.std.specs.Result.{result_ok}
use Rattle.csv.specs.declared.reader.Trim.TheVariants as trim
use Rattle.record_text.specs.Reading.{source, records_in, left_of, IsReading, Takes}

-- where a record ends, the machine stands between two
abbrev Between : State × Action → Type 0
Between p = is_end p.1 ≡ true → ends_at_end p.0 ≡ false

either : (b : Bool) (x y : State × Action) → Between x → Between y → Between (cond b x y)
either b x y first second = cond_both b x y Between (λ e. first) (λ e. second)

after_end-between : (c : ℕ) → ends_at_end (after_end default_config.terminator c) ≡ false
after_end-between c = cond_both (c == 13) st.AfterCr st.StartRecord (λ s. ends_at_end s ≡ false) (λ e. refl) (λ e. refl)

in_field-between : (c : ℕ) → Between (in_field default_config c)
in_field-between c =
    either (c == 44) _ _ (λ e. absurd (false≢true e))
    (either (ends_with default_config.terminator c) (after_end default_config.terminator c, act.EndRecord) (st.InField, act.Copy) (λ e. after_end-between c) (λ e. absurd (false≢true e)))

start_field-between : (c : ℕ) → Between (start_field default_config c)
start_field-between c = either (c == 34) (st.InQuoted, act.Skip) (in_field default_config c) (λ e. absurd (false≢true e)) (in_field-between c)

start_record-between : (c : ℕ) → Between (start_record default_config c)
start_record-between c = either (ends_with default_config.terminator c) (st.StartRecord, act.Skip) (start_field default_config c) (λ e. absurd (false≢true e)) (start_field-between c)

step-between : (s : State) (c : ℕ) → Between (step default_config s c)
step-between st.StartRecord c = start_record-between c
step-between st.StartField c = start_field-between c
step-between st.InField c = in_field-between c
step-between st.InQuoted c = either (c == 34) (st.AfterQuote, act.Skip) (st.InQuoted, act.Copy) (λ e. absurd (false≢true e)) (λ e. absurd (false≢true e))
step-between st.InEscape c = λ e. absurd (false≢true e)
step-between st.AfterQuote c = either (c == 34) (st.InQuoted, act.Copy) (in_field default_config c) (λ e. absurd (false≢true e)) (in_field-between c)
step-between st.InComment c = either (c == 10) (st.StartRecord, act.Skip) (st.InComment, act.Skip) (λ e. absurd (false≢true e)) (λ e. absurd (false≢true e))
step-between st.AfterCr c = either (c == 10) (st.StartRecord, act.Skip) (start_record default_config c) (λ e. absurd (false≢true e)) (start_record-between c)

-- a record that was read leaves no more bytes than there were, and the machine between two records
record AreLeft (bytes : List ℕ) (p : Read) : Type 0 where
  fewer : length p.2 ≤ length bytes
  between : ends_at_end p.1 ≡ false

taken : (s : State) (fields : List (List ℕ)) (field bytes : List ℕ) (p : Read) → next_record default_config s fields field bytes ≡ Some p → AreLeft bytes p
unfolding next_record
taken s fields field [] p e =
    cond_both (ends_at_end s) (Some (fields ++ (field ∷ []), st.StartRecord, [])) None (λ o. o ≡ Some p → AreLeft [] p)
    (λ at_end same. rw (sym (same_Some _ _ same)) (record { fewer = omega arith; between = refl }))
    (λ inside same. absurd (cc))
    e
taken s fields field (c ∷ rest) p e =
    let next : State × Action = step default_config s c in
    cond_both (is_end next.1) (Some (fields_after next.1 fields field, next.0, rest)) (next_record default_config next.0 (fields_after next.1 fields field) (field_after next.1 c field) rest) (λ o. o ≡ Some p → AreLeft (c ∷ rest) p)
    (λ ends same. rw (sym (same_Some _ _ same)) (record { fewer = omega arith; between = step-between s c ends }))
    (λ goes same.
    let later = taken next.0 (fields_after next.1 fields field) (field_after next.1 c field) rest p same in
    record { fewer = omega (arith, later.fewer); between = later.between })
    e

-- from between two records it takes at least one byte
taken-some : (s : State) (fields : List (List ℕ)) (field bytes : List ℕ) (p : Read) → ends_at_end s ≡ false → next_record default_config s fields field bytes ≡ Some p → length p.2 < length bytes
unfolding next_record
taken-some s fields field [] p between e = absurd (none-there (ends_at_end s) between e)
  where
    none-there : (b : Bool) → b ≡ false → cond b (Some (fields ++ (field ∷ []), st.StartRecord, [])) None ≡ Some p → ⊥
    none-there true is same = false≢true (sym is)
    none-there false is same = cc
taken-some s fields field (c ∷ rest) p between e =
    let next : State × Action = step default_config s c in
    cond_both (is_end next.1) (Some (fields_after next.1 fields field, next.0, rest)) (next_record default_config next.0 (fields_after next.1 fields field) (field_after next.1 c field) rest) (λ o. o ≡ Some p → length p.2 < length (c ∷ rest))
    (λ ends same. rw (sym (same_Some _ _ same)) (omega arith))
    (λ goes same. omega (arith, (taken next.0 (fields_after next.1 fields field) (field_after next.1 c field) rest p same).fewer))
    e

-- two ways of going on that agree
goes-on : (f g : State → List ℕ → List (List (List ℕ))) (o : Option Read) → ((p : Read) → o ≡ Some p → f p.1 p.2 ≡ g p.1 p.2) → records_next f o ≡ records_next g o
goes-on f g None same = refl
goes-on f g (Some p) same = ap (λ rs. p.0 ∷ rs) (same p refl)

-- how many records are allowed does not matter, where there are more than bytes
enough : (n m : ℕ) (s : State) (bytes : List ℕ) → ends_at_end s ≡ false → length bytes < n → length bytes < m → records_from default_config n s bytes ≡ records_from default_config m s bytes
unfolding records_from
enough zero m s bytes between h g = absurd (omega arith)
enough (suc n) zero s bytes between h g = absurd (omega arith)
enough (suc n) (suc m) s bytes between h g =
    goes-on (records_from default_config n) (records_from default_config m) (next_record default_config s [] [] bytes)
    (λ p e.
    let fewer = taken-some s [] [] bytes p between e in
    enough n m p.1 p.2 (taken s [] [] bytes p e).between (omega (arith, fewer)) (omega (arith, fewer)))

-- the first record, and those after it
first-of : (s : State) (bytes : List ℕ) (p : Read) → ends_at_end s ≡ false → next_record default_config s [] [] bytes ≡ Some p → records_in s (Some bytes) ≡ p.0 ∷ records_in p.1 (Some p.2)
unfolding records_from
first-of s bytes p between e =
    let fewer = taken-some s [] [] bytes p between e in
    rw (add-one (length bytes), e) (ap (λ rs. p.0 ∷ rs) (enough (length bytes) (length p.2 + 1) p.1 p.2 (taken s [] [] bytes p e).between fewer (omega arith)))

none-of : (s : State) (bytes : List ℕ) → next_record default_config s [] [] bytes ≡ None → records_in s (Some bytes) ≡ []
unfolding records_from
none-of s bytes e = rw (add-one (length bytes), e) refl

module _ (old new : Reader (Bor (List ℕ))) (fields : List (List ℕ)) (is : IsReading old) where
  known : (o : Option (List ℕ)) → IsSome o → (bytes : List ℕ) × (o ≡ Some bytes)
  known None some = absurd (false≢true some)
  known (Some bytes) some = (bytes, refl)

  takes-one : (bytes : List ℕ) → source old ≡ Some bytes → ReadRecord (λ (s : Bor (List ℕ)). Some s.now) old new true fields → new.first ≡ true → is_flexible new ≡ is_flexible old → IsReading new × (left_of old ≡ fields ∷ left_of new)
  unfolding Reached
  takes-one bytes at read first flexible =
      let (rest, after, reached) = rows-more (λ (s : Bor (List ℕ)). Some s.now) old new fields default_config old.state bytes bytes [] is.config at (refl, refl) read in
      let (next, found, its, end) = reached in
      let (state, left) = end in
      let between = (taken old.state [] [] bytes next found).between in
      let reading : IsReading new = record {
        plain = read.3 ∙ is.plain;
        ready = inl first;
        config = read.2 ∙ is.config;
        any_length = flexible ∙ is.any_length;
        known = rw after refl;
        between = rw (← state) between;
      } in
      let same : records_in new.state (source new) ≡ records_in next.1 (Some next.2) = rw (after, state, left) refl in
      (reading, rw (at, its, same) (first-of old.state bytes next is.between found))

  takes-none : ReadRecord (λ (s : Bor (List ℕ)). Some s.now) old new false fields → left_of old ≡ []
  takes-none read =
      let (bytes, at) = known (source old) is.known in
      rw at (none-of old.state bytes (rows-end (λ (s : Bor (List ℕ)). Some s.now) old new fields default_config bytes is.config at read))

  pub takes : (found : Bool) → ReadRecord (λ (s : Bor (List ℕ)). Some s.now) old new found fields → new.first ≡ true → is_flexible new ≡ is_flexible old → Takes old new found fields
  takes true read first flexible = let (bytes, at) = known (source old) is.known in takes-one bytes at read first flexible
  takes false read first flexible = takes-none read

-- the same of what a read answers, whose error is out of memory
pub takes-ok : {E D : Type 0} (want : D) (old new : Reader (Bor (List ℕ))) (fields : List (List ℕ)) (read : Result Bool E) (answer : Result Bool D) → IsReading old → answer ≡ ok_or (result_ok read) want
    → IfOk read (λ found. old.trim ≡ trim.None → Ready old → ReadRecord (λ (s : Bor (List ℕ)). Some s.now) old new found fields) → ((old.trim ≡ trim.None) → OnOk read (new.first ≡ true)) → OnOk read (is_flexible new ≡ is_flexible old)
    → IfOk answer (λ found. Takes old new found fields)
takes-ok want old new fields (Ok found) answer is same reads first flexible = rw same (takes old new fields is found (reads is.plain is.ready) (first is.plain) flexible)
takes-ok want old new fields (Err e) answer is same reads first flexible = rw same tt

-- where records of any length are taken, no read of bytes fails but one that stops the reader
stopping : (old new : Reader (Bor (List ℕ))) (k : ErrorKind) → is_flexible old ≡ true → ExplainsRead (λ (s : Bor (List ℕ)). Some s.now) old new false k → stops_reader k ≡ true
stopping old new (kind.Io e) flexible why = refl
stopping old new kind.OutOfMemory flexible why = refl
stopping old new (kind.UnequalLengths pos expected len) flexible why = absurd (false≢true (sym why.0 ∙ flexible))
stopping old new (kind.Utf8 pos err) flexible why = absurd (false≢true why.0)
stopping old new (kind.Serialize text) flexible why = absurd why
stopping old new (kind.Deserialize pos err) flexible why = absurd why

pub stops-err : {D : Type 0} (want : D) (old new : Reader (Bor (List ℕ))) (read : Result Bool Error) (answer : Result Bool D) → IsReading old → answer ≡ ok_or (result_ok read) want
    → IfErr read (λ e. has_failed new ≡ stops_reader (error_kind e)) → IfErr read (λ e. Ready old → ExplainsRead (λ (s : Bor (List ℕ)). Some s.now) old new false (error_kind e))
    → OnErr answer (has_failed new ≡ true)
stops-err want old new (Ok found) answer is same fails why = rw same tt
stops-err want old new (Err e) answer is same fails why = rw same (fails ∙ stopping old new (error_kind e) is.any_length (why is.ready))

-- a record that was found was the first that was left
pub found-one : (old new : Reader (Bor (List ℕ))) (found : Bool) (fields : List (List ℕ)) → found ≡ true → Takes old new found fields → IsReading new × (left_of old ≡ fields ∷ left_of new)
found-one old new found fields yes_is takes = rw yes_is at takes

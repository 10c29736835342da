-- What is written, one record after another.
use Rattle.std.proofs.Common.{◌≡◌, ◌≢◌, ℕ, ◌+◌, ◌<◌, ◌≤◌, Bool, true, false, List, [], ◌∷◌, ◌++◌, length, get_or, take, map, filter, if◌then◌else◌, Option, Some, None, Result, Ok, Err, OnOk, Vec, ok_or, refl, sym, ap, ◌∙◌, subst, arith, append_assoc, append-nil}
use Rattle.std.proofs.lemmas.List.{map-append, map_more, take_all, take_more}
use Rattle.std.proofs.lemmas.List.Elements.{filter-append}
use Rattle.std.proofs.lemmas.Option.{same_Some}
use Rattle.std.proofs.lemmas.Grind.{flat_map-append}
use Rattle.std.specs.List.{flat_map, range_with_len}
use Rattle.std.specs.Result.{result_ok}
use Rattle.std.specs.Io.KnownBytes.{Appends}
use Rattle.foundation.proofs.RangeLaws.{range-push}
use Rattle.csv.specs.Writing.{default_writer, fields_written, has_written, row_text, text_written, writer_setup}
use Rattle.csv.specs.declared.writer.QuoteStyle.TheVariants as style
use Rattle.csv.specs.declared.writer.Writer.{Writer}
use Rattle.csv.specs.declared.writer.WriterBuilder.{WriterBuilder}
use Rattle.world_records.specs.Records.{records_text}
use Rattle.world_records.specs.Written.{Adds, HasWritten}

-- nothing, and records after records
pub adds-none : {Z : Type 0} (out : Writer (Vec ℕ Z)) → Adds out out []
adds-none out = record { adds = λ text h. subst (HasWritten out) (sym (append-nil text)) h }

pub adds-then : {Z : Type 0} (a b c : Writer (Vec ℕ Z)) (xs ys : List (List (List ℕ))) → Adds a b xs → Adds b c ys → Adds a c (xs ++ ys)
adds-then a b c xs ys first second = record {
  adds = λ text h.
      let both : (text ++ records_text xs) ++ records_text ys ≡ text ++ records_text (xs ++ ys) = append_assoc text (records_text xs) (records_text ys) ∙ ap (λ l. text ++ l) (sym (flat_map-append (row_text default_writer) xs ys)) in
      subst (HasWritten c) both (second.adds (text ++ records_text xs) (first.adds text h));
}

appends-from : (old new : Option (List ℕ)) (xs bs : List ℕ) → old ≡ Some xs → Appends old new bs → new ≡ Some (xs ++ bs)
appends-from None new xs bs known h = absurd cc
appends-from (Some ys) None xs bs known h = absurd h
appends-from (Some ys) (Some zs) xs bs known h = ap (λ l. Some l) (h ∙ ap (λ l. l ++ bs) (same_Some ys xs known))

-- what a call appends, where the writer stood between two records
abbrev pub Writes : {Z : Type 0} → Writer (Vec ℕ Z) → Writer (Vec ℕ Z) → List (List ℕ) → Type 0
Writes {Z} old new fields = fields_written old ≡ 0 → has_written old ≡ false → ((writer_setup old).style ≢ style.NonNumeric)
    → Appends (text_written (λ (v : Vec ℕ Z). Some v.items) old) (text_written (λ (v : Vec ℕ Z). Some v.items) new) (row_text (writer_setup old) fields)

module _ {Z : Type 0} (old new : Writer (Vec ℕ Z)) (fields : List (List ℕ)) where
  written-text : (text : List ℕ) → HasWritten old text → Writes old new fields → text_written (λ (v : Vec ℕ Z). Some v.items) new ≡ Some (text ++ records_text (fields ∷ []))
  written-text text h bytes =
      let plain : (writer_setup old).style ≢ style.NonNumeric = λ other. absurd (necessary (sym (ap (λ (s : WriterBuilder). s.style) h.setup) ∙ other)) in
      appends-from _ _ text (row_text (writer_setup old) fields) h.text_is (bytes h.fields h.clean plain)
      ∙ ap (λ (s : WriterBuilder). Some (text ++ row_text s fields)) h.setup ∙ ap (λ l. Some (text ++ l)) (sym (append-nil (row_text default_writer fields)))
    where
      necessary : style.Necessary ≡ style.NonNumeric → ⊥
      necessary same = cc

  pub one-written : Writes old new fields → fields_written new ≡ 0 → has_written new ≡ false → writer_setup new ≡ writer_setup old → Adds old new (fields ∷ [])
  one-written bytes ended clean setup = record { adds = λ text h. record { setup = setup ∙ h.setup; fields = ended; clean = clean; text_is = written-text text h bytes } }

-- a call that wrote a record
pub record-written : {E D Z : Type 0} (want : D) (old new : Writer (Vec ℕ Z)) (fields : List (List ℕ)) (r : Result (Unit {0}) E) (answer : Result (Unit {0}) D) → answer ≡ ok_or (result_ok r) want
    → OnOk r (Writes old new fields) → OnOk r (fields_written new ≡ 0) → OnOk r (has_written new ≡ false) → OnOk r (writer_setup new ≡ writer_setup old) → OnOk answer (Adds old new (fields ∷ []))
record-written want old new fields (Ok done) answer same bytes ended clean setup = rw same (one-written old new fields bytes ended clean setup)
record-written want old new fields (Err e) answer same bytes ended clean setup = rw same tt

-- a loop over a list: none yet, one element more, and all
module _ {X Z : Type 0} (f : X → List (List ℕ)) (xs : List X) where
  pub adds-more : (i : ℕ) (x : X) (a b c : Writer (Vec ℕ Z)) → i < length xs → x ≡ get_or xs i x → Adds a b (map f (take i xs)) → Adds b c (f x ∷ []) → Adds a c (map f (take (i + 1) xs))
  adds-more i x a b c inside at so_far one =
      subst (Adds a c) (ap (λ y. map f (take i xs) ++ f y ∷ []) at ∙ sym (map_more f xs i x inside)) (adds-then a b c (map f (take i xs)) (f x ∷ []) so_far one)

  pub adds-all : (i : ℕ) (a b : Writer (Vec ℕ Z)) → length xs ≤ i → Adds a b (map f (take i xs)) → Adds a b (map f xs)
  adds-all i a b end so_far = subst (λ l. Adds a b (map f l)) (take_all i xs end) so_far

-- a loop over numbers that writes a record for each, or some
range-next : (n : ℕ) → range_with_len 0 (n + 1) ≡ range_with_len 0 n ++ n ∷ []
range-next n = range-push 0 n ∙ ap (λ (k : ℕ). range_with_len 0 n ++ k ∷ []) (let e : 0 + n ≡ n = omega arith in e)

pub adds-next : {Z : Type 0} (f : ℕ → List (List ℕ)) (n : ℕ) (a b c : Writer (Vec ℕ Z)) → Adds a b (map f (range_with_len 0 n)) → Adds b c (f n ∷ []) → Adds a c (map f (range_with_len 0 (n + 1)))
adds-next f n a b c so_far one =
    subst (Adds a c) (sym (map-append f (range_with_len 0 n) (n ∷ [])) ∙ ap (map f) (sym (range-next n))) (adds-then a b c (map f (range_with_len 0 n)) (f n ∷ []) so_far one)

pub adds-part : {Z : Type 0} (f : ℕ → List (List (List ℕ))) (n : ℕ) (a b c : Writer (Vec ℕ Z)) → Adds a b (flat_map f (range_with_len 0 n)) → Adds b c (f n) → Adds a c (flat_map f (range_with_len 0 (n + 1)))
adds-part f n a b c so_far part =
    subst (Adds a c) (ap (λ l. flat_map f (range_with_len 0 n) ++ l) (sym (append-nil (f n))) ∙ sym (flat_map-append f (range_with_len 0 n) (n ∷ [])) ∙ ap (flat_map f) (sym (range-next n))) (adds-then a b c (flat_map f (range_with_len 0 n)) (f n) so_far part)

-- a loop over a list that writes a record for each element that passes
pub adds-if : {X Z : Type 0} (f : X → List (List ℕ)) (p : X → Bool) (xs : List X) (i : ℕ) (x : X) (a b c : Writer (Vec ℕ Z)) → i < length xs → x ≡ get_or xs i x → Adds a b (map f (filter p (take i xs))) → Adds b c (if p x then f x ∷ [] else [])
    → Adds a c (map f (filter p (take (i + 1) xs)))
adds-if f p xs i x a b c inside at so_far one =
    subst (Adds a c) (ap (λ l. map f (filter p (take i xs)) ++ l) (one-if (p x)) ∙ sym (map-append f (filter p (take i xs)) (if p x then x ∷ [] else [])) ∙ ap (map f) (sym (filter-append p (take i xs) (x ∷ [])) ∙ ap (λ y. filter p (take i xs ++ y ∷ [])) at ∙ ap (filter p) (sym (take_more xs i x inside))))
    (adds-then a b c (map f (filter p (take i xs))) (if p x then f x ∷ [] else []) so_far one)
  where
    one-if : (b : Bool) → (if b then f x ∷ [] else []) ≡ map f (if b then x ∷ [] else [])
    one-if true = refl
    one-if false = refl

-- the end of such loops
pub adds-numbers : {Z : Type 0} (f : ℕ → List (List ℕ)) (n m : ℕ) (a b : Writer (Vec ℕ Z)) → n ≡ m → Adds a b (map f (range_with_len 0 n)) → Adds a b (map f (range_with_len 0 m))
adds-numbers f n m a b same so_far = subst (λ k. Adds a b (map f (range_with_len 0 k))) same so_far

pub adds-parts : {Z : Type 0} (f : ℕ → List (List (List ℕ))) (n m : ℕ) (a b : Writer (Vec ℕ Z)) → n ≡ m → Adds a b (flat_map f (range_with_len 0 n)) → Adds a b (flat_map f (range_with_len 0 m))
adds-parts f n m a b same so_far = subst (λ k. Adds a b (flat_map f (range_with_len 0 k))) same so_far

pub adds-passed : {X Z : Type 0} (f : X → List (List ℕ)) (p : X → Bool) (xs : List X) (i : ℕ) (a b : Writer (Vec ℕ Z)) → length xs ≤ i → Adds a b (map f (filter p (take i xs))) → Adds a b (map f (filter p xs))
adds-passed f p xs i a b end so_far = subst (λ l. Adds a b (map f (filter p l))) (take_all i xs end) so_far

-- The number that a field is the text of.
use Rattle.std.proofs.Common.{◌≡◌, ◌≢◌, ℕ, ◌<◌, ◌≤◌, ◌^◌, nat_lt, ◌&&◌, true, List, Option, Some, None, IfSome, IfNone, IsUtf8, refl, sym, ap, ◌∙◌, arith}
use Rattle.std.specs.Fmt.{decimal}
use Rattle.std.specs.Str.{bytes_eq}
use Rattle.std.specs.Str.Parse.{digits_value}
use Rattle.std.proofs.lemmas.Bool.{and_parts, cond_both, lt-ltb, ltb-true}
use Rattle.std.proofs.lemmas.Fmt.{IsAscii-decimal, decimal_is_IsNumeral}
use Rattle.std.proofs.lemmas.Slice.Eq.{bytes_eq-Decides}
use Rattle.std.proofs.lemmas.Str.{IsUtf8-from_ascii}
use Rattle.audit.specs.SheetRecords.{number_in}

-- the text of a number is read as it
pub some-number : (bits : ℕ) (field : List ℕ) (n : ℕ) → n < 2 ^ bits → n < 2 ^ 64 → field ≡ decimal n → number_in bits field ≡ Some n
unfolding number_in
some-number bits field n few fits spelled =
    let value : digits_value 10 field ≡ n = ap (digits_value 10) spelled ∙ (decimal_is_IsNumeral n fits).1 in
    let same : bytes_eq field (decimal n) ≡ true = (bytes_eq-Decides field (decimal n)).1 spelled in
    rw (value, lt-ltb n (2 ^ bits) few, same) refl

-- what is read is the text of it
pub number-text : (bits : ℕ) (field : List ℕ) (n : ℕ) → number_in bits field ≡ Some n → (n < 2 ^ bits) × (field ≡ decimal n)
unfolding number_in
number-text bits field n =
    cond_both (nat_lt (digits_value 10 field) (2 ^ bits) && bytes_eq field (decimal (digits_value 10 field))) (Some (digits_value 10 field)) None (λ o. o ≡ Some n → (n < 2 ^ bits) × (field ≡ decimal n))
    (λ both same.
    let parts = and_parts (nat_lt (digits_value 10 field) (2 ^ bits)) (bytes_eq field (decimal (digits_value 10 field))) both in
    let is : digits_value 10 field ≡ n = cc in
    rw (← is) (ltb-true (digits_value 10 field) (2 ^ bits) parts.0, (bytes_eq-Decides field (decimal (digits_value 10 field))).0 parts.1))
    (λ other same. absurd (cc))

-- a field that is the text of none
none-number : (bits : ℕ) (field : List ℕ) → ((n : ℕ) → n < 2 ^ bits → field ≢ decimal n) → number_in bits field ≡ None
none-number bits field none = by (number_in bits field) refl
  where
    by : (o : Option ℕ) → number_in bits field ≡ o → o ≡ None
    by None is = refl
    by (Some n) is = let (few, spelled) = number-text bits field n is in absurd (none n few spelled)

-- what a reader of words answers
pub number-read : (bits : ℕ) (field : List ℕ) (o : Option ℕ) → 2 ^ bits ≤ 2 ^ 64 → IfSome o (λ n. n < 2 ^ bits) → IfSome o (λ n. field ≡ decimal n) → IfNone o ((n : ℕ) → n < 2 ^ bits → field ≢ decimal n) → o ≡ number_in bits field
number-read bits field (Some n) fits few some none = sym (some-number bits field n few (omega (arith, few, fits)) some)
number-read bits field None fits few some none = sym (none-number bits field none)

-- what is no text is the text of no number
pub no-text : (bits : ℕ) (field : List ℕ) → 2 ^ bits ≤ 2 ^ 64 → (IsUtf8 field → ⊥) → None ≡ number_in bits field
no-text bits field fits other =
    sym (none-number bits field (λ n few spelled. other (rw spelled (IsUtf8-from_ascii (decimal n) (IsAscii-decimal n (omega (arith, few, fits)))))))

-- a number from 0 to 255
pub byte-read : (field : List ℕ) (n : ℕ) → (field ≡ decimal n) × (0 ≤ n) × (n ≤ 255) → Some n ≡ number_in 8 field
byte-read field n (spelled, low, high) = sym (some-number 8 field n (omega (arith, high)) (omega (arith, high)) spelled)

pub byte-none : (field : List ℕ) → ((n : ℕ) → 0 ≤ n → n ≤ 255 → field ≢ decimal n) → None ≡ number_in 8 field
byte-none field none = sym (none-number 8 field (λ n few. none n (omega arith) (omega (arith, few))))

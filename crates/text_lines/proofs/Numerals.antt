-- A word that is the text of a number.
use Rattle.std.proofs.Common.{◌≡◌, ℕ, ◌<◌, ◌≤◌, ◌^◌, List, [], ◌∷◌, length, get_or, Result, Ok, Err, Option, Some, None, inl, inr, sym, ap, ◌∙◌, arith}
use Rattle.std.specs.Prelude.{◌≢◌, IfNone, IfSome}
use Rattle.std.specs.Fmt.{decimal}
use Rattle.std.specs.Result.{result_ok}
use Rattle.std.specs.Str.Parse.{AllDigits, ParsesUnsigned, digits_value}
use Rattle.std.proofs.lemmas.Bool.{cases_lt}
use Rattle.std.proofs.lemmas.Fmt.{decimal-digits_value, decimal_digit, decimal_is_IsNumeral, first_decimal}
use Rattle.std.proofs.lemmas.Str.Parse.{IsNumeralModel, numerals_by_value, parse_plain, tells_digits}

-- digits and their value, in words of std
own : IsNumeralModel (AllDigits 10) (digits_value 10)
own = numerals_by_value (AllDigits 10) tells_digits

-- a word has no sign in front, and no zero before further digits
pub record IsPlain (word : List ℕ) : Type 0 where
  pub no_sign : get_or word 0 0 ≢ 43
  pub no_zero : get_or word 0 0 ≡ 48 → length word ≡ 1

-- the digits of a number are plain
pub plain : (n : ℕ) → n < 2 ^ 64 → IsPlain (decimal n)
plain n lt =
    elim (cases_lt 0 n) [
      | inl some ↦
          let first : 48 < get_or (decimal n) 0 0 = first_decimal n some lt in
          record { no_sign = λ e. omega (arith, first, e); no_zero = λ e. absurd (omega (arith, first, e)) }
      | inr none ↦
          let is_0 : n ≡ 0 = omega (arith, none) in
          let is : decimal n ≡ 48 ∷ [] = ap decimal is_0 ∙ decimal_digit 0 (omega arith) in
          let head : get_or (decimal n) 0 0 ≡ 48 = ap (λ (x : List ℕ). get_or x 0 0) is in
          record { no_sign = λ e. omega (arith, head, e); no_zero = λ e. ap length is }
    ]

-- what is parsed of a plain word is the number that it is the text of
pub parsed : (E : Type 0) (bits : ℕ) (word : List ℕ) (r : Result ℕ E) (o : Option ℕ) → 2 ^ bits ≤ 2 ^ 64 → ParsesUnsigned bits 10 word r → IsPlain word → o ≡ result_ok r → IfSome o (λ n. word ≡ decimal n)
parsed E bits word r None fits parses is_plain e = tt
parsed E bits word (Err f) (Some n) fits parses is_plain e = absurd (cc)
parsed E bits word (Ok m) (Some n) fits parses is_plain e =
    let is = parse_plain own {E = E} bits word (Ok m) parses is_plain.no_sign in
    let same : m ≡ n = cc in
    sym (decimal-digits_value own word is.0.0 is.0.1 is_plain.no_zero (omega (arith, is.0.2, fits))) ∙ ap decimal (sym is.1 ∙ same)

-- a plain word of which nothing is parsed is the text of no number
pub not_parsed : (E : Type 0) (bits : ℕ) (word : List ℕ) (r : Result ℕ E) (o : Option ℕ) → 2 ^ bits ≤ 2 ^ 64 → ParsesUnsigned bits 10 word r → IsPlain word → o ≡ result_ok r → IfNone o ((n : ℕ) → n < 2 ^ bits → word ≢ decimal n)
not_parsed E bits word r (Some n) fits parses is_plain e = tt
not_parsed E bits word (Ok m) None fits parses is_plain e = absurd (cc)
not_parsed E bits word (Err f) None fits parses is_plain e = λ n lt spelled.
    let numeral = decimal_is_IsNumeral n (omega (arith, lt, fits)) in
    let value : digits_value 10 word < 2 ^ bits = rw spelled (rw numeral.1 lt) in
    parse_plain own {E = E} bits word (Err f) parses is_plain.no_sign (rw spelled numeral.0.1, rw spelled numeral.0.0, value)

-- Where a number, an entry or a literal is not read.
use Rattle.std.proofs.Common.{◌≡◌, ◌≢◌, ℕ, ◌^◌, ◌<◌, ◌≤◌, List, [], ◌∷◌, ◌++◌, length, get_or, Option, Some, None, refl, subst, arith}
use Rattle.std.specs.Char.{IsAsciiDigit}
use Rattle.std.specs.Fmt.{decimal}
use Rattle.std.specs.Str.Parse.{AllDigits}
use Rattle.std.proofs.lemmas.Fmt.{decimal_is_IsNumeral}
use Rattle.std.proofs.lemmas.Str.Parse.{digit_from_value}
use Rattle.text_lines.specs.Fields.{literal_at, field_at}
use Rattle.text_lines.proofs.Units.{literal_takes, field_takes}
use Rattle.text_lines.proofs.Digits.{digits, goes_on}

-- the separators are no digits
pub space : ¬ IsAsciiDigit 32
space h = omega arith

pub line_feed : ¬ IsAsciiDigit 10
line_feed h = omega arith

-- what is read of nothing that is there
pub none_if : {A : Type 0} (o : Option A) → ((x : A) → o ≡ Some x → ⊥) → o ≡ None
none_if (Some x) never = absurd (never x refl)
none_if None never = refl

-- a literal is not read where the bytes differ from it at some place
pub literal_apart : (text bytes : List ℕ) → ((rest : List ℕ) → bytes ≡ text ++ rest → ⊥) → literal_at text bytes ≡ None
literal_apart text bytes never = none_if (literal_at text bytes) (λ rest h. never rest (literal_takes text bytes rest h))

-- of two numbers with other separators neither is read as the other
two_ends : (n m s z : ℕ) (x y : List ℕ) → n < 2 ^ 64 → m < 2 ^ 64 → ¬ IsAsciiDigit s → ¬ IsAsciiDigit z → z ≢ s → decimal n ++ z ∷ x ≡ decimal m ++ s ∷ y → ⊥
two_ends n m s z x y n_lt m_lt s_no z_no other e =
    let more = goes_on (decimal n) (decimal m) (z ∷ x) y s (digits n n_lt) (digits m m_lt) s_no e in
    only_tail more.0 more.2 more.3
  where
    only_tail : (t : List ℕ) → z ∷ x ≡ t ++ s ∷ y → AllDigits 10 t → ⊥
    only_tail [] rest all = other (let head : z ≡ s = cc in head)
    only_tail (c ∷ cs) rest all = let head : c ≡ z = cc in z_no (subst IsAsciiDigit head (digit_from_value c all.0))

pub field_apart : (limit s z n : ℕ) (rest : List ℕ) → limit ≤ 2 ^ 64 → n < 2 ^ 64 → ¬ IsAsciiDigit s → ¬ IsAsciiDigit z → z ≢ s → field_at limit s (decimal n ++ z ∷ rest) ≡ None
field_apart limit s z n rest wide n_lt s_no z_no other =
    none_if (field_at limit s (decimal n ++ z ∷ rest)) (λ x h.
    let read = field_takes limit s (decimal n ++ z ∷ rest) x.0 x.1 h in
    let lt = read.0 in
    two_ends n x.0 s z rest x.1 n_lt (omega arith) s_no z_no other read.1)

-- a number begins with a digit
pub first_digit : (n : ℕ) (rest : List ℕ) → n < 2 ^ 64 → IsAsciiDigit (get_or (decimal n ++ rest) 0 0)
first_digit n rest lt = at_first (decimal n) (decimal_is_IsNumeral n lt).0.0 (digits n lt)
  where
    at_first : (ds : List ℕ) → 0 < length ds → AllDigits 10 ds → IsAsciiDigit (get_or (ds ++ rest) 0 0)
    at_first [] some all = absurd (omega arith)
    at_first (c ∷ cs) some all = digit_from_value c all.0

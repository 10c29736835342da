-- Where the digits of a number end, and how large a number is whose digits are known in part.
use Rattle.std.proofs.Common.{◌≡◌, ℕ, zero, suc, ◌+◌, ◌*◌, ◌-◌, ◌/◌, ◌%◌, ◌^◌, ◌<◌, ◌≤◌, ◌⊎◌, List, [], ◌∷◌, ◌++◌, length, get_or, take, drop, refl, sym, ap, subst, ◌∙◌, inl, inr, append_assoc, lit≤, arith}
use Rattle.std.specs.Char.{IsAsciiDigit, digit_value}
use Rattle.std.specs.Fmt.{decimal}
use Rattle.std.specs.Str.Parse.{AllDigits, digits_value}
use Rattle.std.proofs.lemmas.Fmt.{decimal_is_IsNumeral, decimal_injective, first_decimal, decimal_digit, decimal_step}
use Rattle.std.proofs.lemmas.Int.Digits.{digits_value_push}
use Rattle.std.proofs.lemmas.Bool.{cases_lt}
use Rattle.std.proofs.lemmas.List.{append-nil, take_at, take_more, drop_more, drop_all, drop-drop, take-append-drop}
use Rattle.std.proofs.Math.Nat.{pow-le-pow_right}
use Rattle.std.proofs.lemmas.Grind.{pow_more}
use Rattle.std.proofs.lemmas.Str.{digit_value_digit}
use Rattle.std.proofs.lemmas.Str.Parse.{digit_from_value, digits_value-take-le}

-- the digits of a number of 64 bits
pub digits : (n : ℕ) → n < 2 ^ 64 → AllDigits 10 (decimal n)
digits n lt = (decimal_is_IsNumeral n lt).0.1

-- Of two lists of digits, the one that ends at the separator goes on where the other ends.
pub goes_on : (a b d r : List ℕ) (s : ℕ) → AllDigits 10 a → AllDigits 10 b → ¬ IsAsciiDigit s → a ++ d ≡ b ++ s ∷ r
    → (t : List ℕ) × (b ≡ a ++ t) × (d ≡ t ++ s ∷ r) × AllDigits 10 t
goes_on [] b d r s all_a all_b apart e = (b, refl, e, all_b)
goes_on (x ∷ a) [] d r s all_a all_b apart e =
    let head : x ≡ s = cc in
    absurd (apart (subst IsAsciiDigit head (digit_from_value x all_a.0)))
goes_on (x ∷ a) (y ∷ b) d r s all_a all_b apart e =
    let tails : a ++ d ≡ b ++ s ∷ r = cc in
    let more = goes_on a b d r s all_a.1 all_b.1 apart tails in
    let head : x ≡ y = cc in
    let whole : y ∷ b ≡ x ∷ (a ++ more.0) = let h = more.1 in cc in
    (more.0, whole, more.2, more.3)

-- A number whose digits go on after those of another is at least ten times as large.
at_least : (v n c : ℕ) (cs : List ℕ) → v < 2 ^ 64 → n < 2 ^ 64 → IsAsciiDigit c → decimal n ≡ decimal v ++ c ∷ cs → v * 10 + (c - 48) ≤ n
at_least v n c cs v_lt n_lt digit e =
    let front : List ℕ = decimal v ++ c ∷ [] in
    let k = length front in
    let parts : decimal n ≡ front ++ cs = e ∙ sym (append_assoc (decimal v) (c ∷ []) cs) in
    let taken : take k (decimal n) ≡ front = ap (take k) parts ∙ take_at front cs k refl in
    let below = digits_value-take-le 10 (decimal n) k (omega arith) in
    let value : digits_value 10 front ≡ v * 10 + digit_value c = digits_value_push 10 (decimal v) c ∙ ap (λ x. x * 10 + digit_value c) (decimal_is_IsNumeral v v_lt).1 in
    let is : digits_value 10 (take k (decimal n)) ≡ v * 10 + digit_value c = ap (digits_value 10) taken ∙ value in
    let whole : digits_value 10 (decimal n) ≡ n = (decimal_is_IsNumeral n n_lt).1 in
    omega (arith, below, is, whole, digit_value_digit c digit)

-- Only 0 begins with the digit 0.
zero_alone : (n c : ℕ) (cs : List ℕ) → n < 2 ^ 64 → decimal n ≡ 48 ∷ c ∷ cs → ⊥
zero_alone zero c cs lt e = let is : decimal 0 ≡ 48 ∷ [] = decimal_digit 0 (omega arith) in cc
zero_alone (suc n) c cs lt e =
    let some : 0 < suc n = omega arith in
    let first : 48 < get_or (decimal (suc n)) 0 0 = first_decimal (suc n) some lt in
    let zero_first : get_or (decimal (suc n)) 0 0 ≡ 48 = ap (λ (x : List ℕ). get_or x 0 0) e in
    omega arith

no_zero_first : (v n c : ℕ) (cs : List ℕ) → n < 2 ^ 64 → decimal n ≡ decimal v ++ c ∷ cs → 0 < v
no_zero_first zero n c cs lt e = absurd (zero_alone n c cs lt (e ∙ ap (λ (x : List ℕ). x ++ c ∷ cs) (decimal_digit 0 (omega arith))))
no_zero_first (suc v) n c cs lt e = omega arith

-- what was read of a number after this many bytes
pub record IsFront (i v : ℕ) (bytes : List ℕ) : Type 0 where
  pub nothing : i ≡ 0 → v ≡ 0
  pub digits_so_far : 0 < i → take i bytes ≡ decimal v

-- the number ends here
pub record Ends (i v n : ℕ) (bytes : List ℕ) (s : ℕ) (r : List ℕ) : Type 0 where
  pub some : 0 < i
  pub rest : drop i bytes ≡ s ∷ r
  pub value : v ≡ n

-- the number goes on here
pub record HasFurtherDigit (i v n : ℕ) (bytes : List ℕ) : Type 0 where
  pub within : i < length bytes
  pub digit : IsAsciiDigit (get_or bytes i 0)
  pub no_zero : 0 < i → 0 < v
  pub bound : v * 10 + (get_or bytes i 0 - 48) ≤ n

-- the byte at a place where the rest begins with it
at_rest : (i c : ℕ) (cs bytes : List ℕ) → drop i bytes ≡ c ∷ cs → (i < length bytes) × (get_or bytes i 0 ≡ c)
at_rest i c cs bytes e =
    elim (cases_lt i (length bytes)) [
      | inl lt ↦ (lt, let m : drop i bytes ≡ get_or bytes i 0 ∷ drop (i + 1) bytes = drop_more bytes i 0 lt in cc)
      | inr ge ↦ absurd (let m : drop i bytes ≡ [] = drop_all i bytes ge in cc)
    ]

later : (i v n s : ℕ) (bytes r t : List ℕ) → v < 2 ^ 64 → n < 2 ^ 64 → 0 < i → decimal n ≡ decimal v ++ t → drop i bytes ≡ t ++ s ∷ r → AllDigits 10 t
    → Ends i v n bytes s r ⊎ HasFurtherDigit i v n bytes
later i v n s bytes r [] v_lt n_lt some whole rest all =
    let same : decimal v ≡ decimal n = sym (append-nil (decimal v)) ∙ sym whole in
    inl (record { some = some; rest = rest; value = decimal_injective v n v_lt n_lt same })
later i v n s bytes r (c ∷ cs) v_lt n_lt some whole rest all =
    let at = at_rest i c (cs ++ s ∷ r) bytes rest in
    let is : get_or bytes i 0 ≡ c = at.1 in
    let digit : IsAsciiDigit c = digit_from_value c all.0 in
    inr (record {
      within = at.0;
      digit = rw is digit;
      no_zero = λ _. no_zero_first v n c cs n_lt whole;
      bound = rw is (at_least v n c cs v_lt n_lt digit whole);
    })

first : (n s : ℕ) (bytes r ds : List ℕ) → n < 2 ^ 64 → decimal n ≡ ds → 0 < length ds → AllDigits 10 ds → bytes ≡ decimal n ++ s ∷ r → HasFurtherDigit 0 0 n bytes
first n s bytes r [] n_lt is some all e = absurd (omega arith)
first n s bytes r (c ∷ cs) n_lt is some all e =
    let spelled : bytes ≡ c ∷ (cs ++ s ∷ r) = e ∙ ap (λ (x : List ℕ). x ++ s ∷ r) is in
    let at = at_rest 0 c (cs ++ s ∷ r) bytes spelled in
    let at_0 : get_or bytes 0 0 ≡ c = at.1 in
    let digit : IsAsciiDigit c = digit_from_value c all.0 in
    let below = digits_value-take-le 10 (decimal n) 1 (omega arith) in
    let one : digits_value 10 (take 1 (decimal n)) ≡ 0 * 10 + digit_value c = ap (λ (x : List ℕ). digits_value 10 (take 1 x)) is in
    let whole : digits_value 10 (decimal n) ≡ n = (decimal_is_IsNumeral n n_lt).1 in
    record {
      within = at.0;
      digit = rw at_0 digit;
      no_zero = λ h. absurd (omega arith);
      bound = rw at_0 (omega (arith, below, one, whole, digit_value_digit c digit));
    }

-- bytes that begin with a number begin with a digit
pub first_is_digit : (n s : ℕ) (bytes r : List ℕ) → n < 2 ^ 64 → bytes ≡ decimal n ++ s ∷ r → IsAsciiDigit (get_or bytes 0 0)
first_is_digit n s bytes r lt e =
    let numeral = decimal_is_IsNumeral n lt in
    let on = first n s bytes r (decimal n) lt refl numeral.0.0 numeral.0.1 e in
    on.digit

-- Wherever reading has come to in a number before its separator, the number ends there or has a further digit.
next_is : (i v n s : ℕ) (bytes r : List ℕ) → v < 2 ^ 64 → n < 2 ^ 64 → ¬ IsAsciiDigit s → IsFront i v bytes → bytes ≡ decimal n ++ s ∷ r
    → Ends i v n bytes s r ⊎ HasFurtherDigit i v n bytes
next_is i v n s bytes r v_lt n_lt apart front e =
    elim (cases_lt 0 i) [
      | inl some ↦
          let joined : decimal v ++ drop i bytes ≡ decimal n ++ s ∷ r = ap (λ (x : List ℕ). x ++ drop i bytes) (sym (front.digits_so_far some)) ∙ take-append-drop i bytes ∙ e in
          let more = goes_on (decimal v) (decimal n) (drop i bytes) r s (digits v v_lt) (digits n n_lt) apart joined in
          later i v n s bytes r more.0 v_lt n_lt some more.1 more.2 more.3
      | inr none ↦
          let i_0 : i ≡ 0 = omega arith in
          let v_0 : v ≡ 0 = front.nothing i_0 in
          let numeral = decimal_is_IsNumeral n n_lt in
          inr (rw (i_0, v_0) (first n s bytes r (decimal n) n_lt refl numeral.0.0 numeral.0.1 e))
    ]

one_more : (i v c : ℕ) (bytes : List ℕ) → v * 10 + (c - 48) < 2 ^ 64 → IsAsciiDigit c → i < length bytes → get_or bytes i 0 ≡ c → (0 < i → 0 < v) → IsFront i v bytes → IsFront (i + 1) (v * 10 + (c - 48)) bytes
one_more i v c bytes fits digit lt at no_zero front =
    let taken : take (i + 1) bytes ≡ take i bytes ++ c ∷ [] = take_more bytes i 0 lt ∙ ap (λ x. take i bytes ++ x ∷ []) at in
    let m = v * 10 + (c - 48) in
    elim (cases_lt 0 i) [
      | inl some ↦
          let pos : 0 < v = no_zero some in
          let step = decimal_step m (omega arith) fits in
          let tens : m / 10 ≡ v = omega arith in
          let ones : 48 + m % 10 ≡ c = omega arith in
          let spelled : decimal m ≡ decimal v ++ c ∷ [] = step ∙ ap (λ x. decimal x ++ (48 + m % 10) ∷ []) tens ∙ ap (λ x. decimal v ++ x ∷ []) ones in
          record { nothing = λ h. absurd (omega arith); digits_so_far = λ _. taken ∙ ap (λ (x : List ℕ). x ++ c ∷ []) (front.digits_so_far some) ∙ sym spelled }
      | inr none ↦
          let i_0 : i ≡ 0 = omega arith in
          let v_0 : v ≡ 0 = front.nothing i_0 in
          let m_is : m ≡ c - 48 = omega arith in
          let spelled : decimal m ≡ c ∷ [] = ap decimal m_is ∙ decimal_digit (c - 48) (omega arith) ∙ ap (λ x. x ∷ []) (let h : 48 + (c - 48) ≡ c = omega arith in h) in
          let empty : take i bytes ≡ [] = ap (λ x. take x bytes) i_0 in
          record { nothing = λ h. absurd (omega arith); digits_so_far = λ _. taken ∙ ap (λ (x : List ℕ). x ++ c ∷ []) empty ∙ sym spelled }
    ]

-- Bytes begin with at most one number before a separator.
pub one_number : (m n s : ℕ) (x y : List ℕ) → m < 2 ^ 64 → n < 2 ^ 64 → ¬ IsAsciiDigit s → decimal m ++ s ∷ x ≡ decimal n ++ s ∷ y → (m ≡ n) × (x ≡ y)
one_number m n s x y m_lt n_lt apart e =
    let more = goes_on (decimal m) (decimal n) (s ∷ x) y s (digits m m_lt) (digits n n_lt) apart e in
    only_tail more.0 more.1 more.2 more.3
  where
    only_tail : (t : List ℕ) → decimal n ≡ decimal m ++ t → s ∷ x ≡ t ++ s ∷ y → AllDigits 10 t → (m ≡ n) × (x ≡ y)
    only_tail [] whole rest all = (decimal_injective m n m_lt n_lt (sym (append-nil (decimal m)) ∙ sym whole), cc)
    only_tail (c ∷ cs) whole rest all =
        let head : c ≡ s = cc in
        absurd (apart (subst IsAsciiDigit head (digit_from_value c all.0)))

-- what follows from the text of a number that is at most m, wherever reading has come to
record Reading (i v m s : ℕ) (bytes : List ℕ) : Type 0 where
  pub front : IsFront i v bytes
  pub bound : v ≤ m
  pub wide : m < 2 ^ 64
  pub apart : ¬ IsAsciiDigit s

cases : (i v m s : ℕ) (bytes : List ℕ) → Reading i v m s bytes → (n : ℕ) (r : List ℕ) → n ≤ m → bytes ≡ decimal n ++ s ∷ r → Ends i v n bytes s r ⊎ HasFurtherDigit i v n bytes
cases i v m s bytes h n r le e =
    let bound = h.bound in
    let wide = h.wide in
    next_is i v n s bytes r (omega arith) (omega arith) h.apart h.front e

-- where no further digit can be read
at_other : (i v m s : ℕ) (bytes : List ℕ) → Reading i v m s bytes → (0 < i → get_or bytes i 0 ≡ s → ⊥)
    → (n : ℕ) (r : List ℕ) → n ≤ m → bytes ≡ decimal n ++ s ∷ r → HasFurtherDigit i v n bytes
at_other i v m s bytes h other n r le e =
    elim (cases i v m s bytes h n r le e) [
      | inl ends ↦ absurd (other ends.some (at_rest i s r bytes ends.rest).1)
      | inr on ↦ on
    ]

-- at the end of the bytes
at_end : (i v m s : ℕ) (bytes : List ℕ) → Reading i v m s bytes → length bytes ≤ i → (n : ℕ) (r : List ℕ) → n ≤ m → bytes ≡ decimal n ++ s ∷ r → ⊥
at_end i v m s bytes h past n r le e =
    elim (cases i v m s bytes h n r le e) [
      | inl ends ↦ let within = (at_rest i s r bytes ends.rest).0 in omega arith
      | inr on ↦ let within = on.within in omega arith
    ]

-- where no further digit stands the number ends
at_no_digit : (i v m s : ℕ) (bytes : List ℕ) → Reading i v m s bytes → (0 < i) × ((v ≡ 0) ⊎ (IsAsciiDigit (get_or bytes i 0) → ⊥)) → (n : ℕ) (r : List ℕ) → n ≤ m → bytes ≡ decimal n ++ s ∷ r
    → (get_or bytes i 0 ≡ s) × (i < length bytes) × (v ≡ n) × (drop (i + 1) bytes ≡ r)
at_no_digit i v m s bytes h other n r le e =
    elim (cases i v m s bytes h n r le e) [
      | inl ends ↦ let at = at_rest i s r bytes ends.rest in (at.1, at.0, ends.value, rw (← drop-drop 1 i bytes) (ap (drop 1) ends.rest))
      | inr on ↦ absurd (elim other.1 [ inl zero_now ↦ let some = on.no_zero other.0 in omega arith | inr none ↦ none on.digit ])
    ]

-- the digits so far are the bytes before a place
reading : (i v m s : ℕ) (bytes : List ℕ) → 0 < i → take i bytes ≡ decimal v → v ≤ m → m < 2 ^ 64 → ¬ IsAsciiDigit s → Reading i v m s bytes
reading i v m s bytes some front le wide apart = record { front = record { nothing = λ h. absurd (omega arith); digits_so_far = λ _. front }; bound = le; wide = wide; apart = apart }

-- the first digit alone
pub one_digit : (bytes : List ℕ) (c : ℕ) → 0 < length bytes → get_or bytes 0 0 ≡ c → IsAsciiDigit c → take 1 bytes ≡ decimal (c - 48)
one_digit bytes c some at digit =
    let front : IsFront 1 (0 * 10 + (c - 48)) bytes = one_more 0 0 c bytes (omega arith) digit some at (λ h. absurd (omega arith)) (record { nothing = λ _. refl; digits_so_far = λ h. absurd (omega arith) }) in
    front.digits_so_far (omega arith) ∙ ap decimal (omega arith)

-- what the text of a number that is at most `most` says, where reading has come to a place at which it can't go on
pub ends_here : (most place number s : ℕ) (bytes : List ℕ) → 0 < place → take place bytes ≡ decimal number → (number ≡ 0) ⊎ (IsAsciiDigit (get_or bytes place 0) → ⊥) → number < 2 ^ 64 → most < 2 ^ 64 → ¬ IsAsciiDigit s
    → (n : ℕ) (r : List ℕ) → n ≤ most → bytes ≡ decimal n ++ s ∷ r → (get_or bytes place 0 ≡ s) × (place < length bytes) × (number ≡ n) × (drop (place + 1) bytes ≡ r)
ends_here most place number s bytes some front last fits wide apart n r le e =
    at_no_digit place number 18446744073709551615 s bytes (reading place number 18446744073709551615 s bytes some front (omega arith) (omega arith) apart) (some, last) n r (omega arith) e

-- and where it has come to a further digit
pub goes_past : (most place number s : ℕ) (bytes : List ℕ) → 0 < place → take place bytes ≡ decimal number → IsAsciiDigit (get_or bytes place 0) → number < 2 ^ 64 → most < 2 ^ 64 → ¬ IsAsciiDigit s
    → (n : ℕ) (r : List ℕ) → n ≤ most → bytes ≡ decimal n ++ s ∷ r → number * 10 + (get_or bytes place 0 - 48) ≤ n
goes_past most place number s bytes some front digit fits wide apart n r le e =
    let h = reading place number 18446744073709551615 s bytes some front (omega arith) (omega arith) apart in
    let on = at_other place number 18446744073709551615 s bytes h (λ _ here. apart (subst IsAsciiDigit here digit)) n r (omega arith) e in
    on.bound

-- and where nothing is left
pub goes_out : (most place number s : ℕ) (bytes : List ℕ) → 0 < place → take place bytes ≡ decimal number → length bytes ≤ place → number < 2 ^ 64 → most < 2 ^ 64 → ¬ IsAsciiDigit s → (n : ℕ) (r : List ℕ) → n ≤ most → bytes ≡ decimal n ++ s ∷ r → ⊥
goes_out most place number s bytes some front past fits wide apart n r le e =
    at_end place number 18446744073709551615 s bytes (reading place number 18446744073709551615 s bytes some front (omega arith) (omega arith) apart) past n r (omega arith) e

-- one digit more
pub digit-more : (i v c : ℕ) (bytes : List ℕ) → 0 < i → take i bytes ≡ decimal v → 0 < v → v * 10 + (c - 48) < 2 ^ 64 → IsAsciiDigit c → i < length bytes → get_or bytes i 0 ≡ c → take (i + 1) bytes ≡ decimal (v * 10 + (c - 48))
digit-more i v c bytes some front positive fits digit lt at =
    let more = one_more i v c bytes fits digit lt at (λ _. positive) (record { nothing = λ h. absurd (omega arith); digits_so_far = λ _. front }) in
    more.digits_so_far (omega arith)

-- this many digits make less than this
pub short : (i v c : ℕ) → IsAsciiDigit c → v < 10 ^ i → v * 10 + (c - 48) < 10 ^ (i + 1)
short i v c digit h = omega (arith, pow_more 10 i)

pub fits : (i v : ℕ) → i ≤ 19 → v < 10 ^ i → v < 10000000000000000000
fits i v h below = let most : 10 ^ i ≤ 10 ^ 19 = pow-le-pow_right (lit≤ tt) h in omega arith

-- one more digit of a short number
pub short-fits : (i v c : ℕ) → i + 1 ≤ 19 → IsAsciiDigit c → v < 10 ^ i → v * 10 + (c - 48) < 10000000000000000000
short-fits i v c few digit h = fits (i + 1) (v * 10 + (c - 48)) few (short i v c digit h)

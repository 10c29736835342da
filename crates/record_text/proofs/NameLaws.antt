-- What is no text is no name.
use Rattle.std.proofs.Common.{◌≡◌, ℕ, ◌<◌, List, length, get_or, Option, Some, None, All, Contains, IsUtf8, IsNone, refl, sym, inl, inr, arith}
use Rattle.std.proofs.lemmas.Bool.{cases_lt, false≢true}
use Rattle.std.proofs.lemmas.List.{get_or_past}
use Rattle.std.proofs.lemmas.Str.{IsUtf8-from_ascii}
use Rattle.std.specs.Str.{IsAscii}
use Rattle.net_parts.specs.Bounds.{IsName, IsNameByte}
use Rattle.net_parts.specs.Numbers.{number_of}
use Rattle.net_parts.proofs.Distinct.{number_of-none}

small : (b : ℕ) → IsNameByte b → b < 128
small b (inl letter) = omega (arith, letter.1)
small b (inr (inl digit)) = omega (arith, digit.1)
small b (inr (inr line)) = omega (arith, line)

-- a name is text
name-ascii : (name : List ℕ) → IsName name → IsAscii name
name-ascii name is i = elim (cases_lt i (length name)) [
  | inl h ↦ small (get_or name i 0) (is.bytes i 0 h)
  | inr h ↦ omega (arith, get_or_past name i 0 h)
]

-- what is no text is no name of a list of names
no-name : (names : List (List ℕ)) (name : List ℕ) → All IsName names → (IsUtf8 name → ⊥) → Contains names name → ⊥
no-name names name are other (k, below, at) = other (IsUtf8-from_ascii name (name-ascii name (rw at at (are k name below))))

is_none-from : {X : Type 0} (o : Option X) → IsNone o → None ≡ o
is_none-from None none = refl
is_none-from (Some x) none = absurd (false≢true (sym none))

-- what is no text has no number
pub no-number : (names : List (List ℕ)) (name : List ℕ) → All IsName names → (IsUtf8 name → ⊥) → None ≡ number_of names name
no-number names name are other = is_none-from (number_of names name) ((number_of-none names name).1 (no-name names name are other))

-- The number that digits are.
use Rattle.std.specs.Prelude.{ℕ, ◌+◌, ◌-◌, ◌*◌, ◌^◌, min, nat_le, ◌&&◌, Bool, if◌then◌else◌, List, Option, Some, None, length, fold}
use Rattle.std.specs.List.{list_all}
use Rattle.std.specs.Char.{is_ascii_digit}

-- the value of decimal digits
abbrev pub decimal_value : List ℕ → ℕ
decimal_value digits = fold (λ n digit. n * 10 + (digit - 48)) 0 digits

-- the greatest u32
abbrev pub greatest : ℕ
greatest = 2 ^ 32 - 1

-- 1 to 10 digits, and nothing else
abbrev pub are_digits : List ℕ → Bool
are_digits field = nat_le 1 (length field) && nat_le (length field) 10 && list_all is_ascii_digit field

-- the number of a field of digits; one past the greatest u32 stands as that one, which is out of every bound
abbrev pub number_of_digits : List ℕ → Option ℕ
number_of_digits field = if are_digits field then Some (min (decimal_value field) greatest) else None

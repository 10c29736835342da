-- A number out of two halves, and back.
use Rattle.std.specs.Prelude.{◌≡◌, ℕ, ◌+◌, ◌*◌, ◌/◌, ◌%◌, ◌<◌}
use Rattle.std.proofs.Common.{arith}

-- the halves of a number are its quotient and its remainder
pub halves-ok : (high low : ℕ) → low < 18446744073709551616
    → ((high * 18446744073709551616 + low) / 18446744073709551616 ≡ high)
    × ((high * 18446744073709551616 + low) % 18446744073709551616 ≡ low)
halves-ok high low h = (omega arith, omega arith)

use Rattle.std.proofs.Common.{◌≡◌, min, take}
use Rattle.record_text.specs.Decimals.{greatest, decimal_value}
use Rattle.record_text.proofs.decimals.decimal_value.Given as goal

-- the value of the digits so far, or the greatest u32
abbrev pub invariant-loop-digit : goal.invariant-loop-digit
invariant-loop-digit l = l.number ≡ min (decimal_value (take l.digit-index l.digits)) greatest

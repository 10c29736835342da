use Rattle.std.proofs.Common.{◌≡◌, ◌^◌, ◌<◌, take}
use Rattle.std.specs.Fmt.{decimal}
use Rattle.text_lines.proofs.fields.long_field.Given as goal

-- the bytes so far are the digits of the number so far, which is no 0
abbrev pub invariant-loop-index : goal.invariant-loop-index
invariant-loop-index l = record { front : take l.index l.bytes ≡ decimal l.longer; some : 0 < l.longer; fits : l.longer < 2 ^ 64 }

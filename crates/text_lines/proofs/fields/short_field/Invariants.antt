use Rattle.std.proofs.Common.{◌≡◌, ◌^◌, ◌<◌, take}
use Rattle.std.specs.Fmt.{decimal}
use Rattle.text_lines.proofs.fields.short_field.Given as goal

-- the bytes so far are the digits of the number so far, which is no 0
abbrev pub invariant-loop-index : goal.invariant-loop-index
invariant-loop-index l = record {
  front : take l.index l.bytes ≡ decimal l.number;
  some : 0 < l.number;
  short : l.number < 10 ^ l.index;
}

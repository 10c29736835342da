use Rattle.std.proofs.Common.{◌≡◌, ◌+◌, ◌*◌, ◌≤◌, ◌++◌, drop, length}
use Rattle.std.specs.List.{flat_map}
use Rattle.text_lines.specs.Numbers.{after_space}
use Rattle.text_lines.proofs.lines.put_numbers.Given as goal

-- the numbers from this place on are written
abbrev pub invariant-loop-place : goal.invariant-loop-place
invariant-loop-place l = record {
  text : l.filled ≡ flat_map after_space (drop l.place l.numbers) ++ l.initial.filled;
  room : length l.filled + 21 * l.place ≤ length l.initial.filled + 21 * length l.numbers;
}

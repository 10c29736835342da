use Rattle.std.proofs.Common.{◌≡◌, ℕ, [], get_or, length}
use Rattle.audit.proofs.sheet_reader.SheetReader.new.Given as goal

-- a line for each node so far, all of them empty
abbrev pub invariant-loop : goal.invariant-loop
invariant-loop l = record {
  count : length l.lines.items ≡ l.counter;
  empty : (k : ℕ) → get_or l.lines.items k [] ≡ [];
}

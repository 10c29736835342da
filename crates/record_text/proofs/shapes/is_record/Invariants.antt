use Rattle.std.proofs.Common.{◌≡◌, ℕ, ◌<◌, [], get_or, map}
use Rattle.csv.specs.Records.{fields_of}
use Rattle.record_text.proofs.shapes.is_record.Given as goal

-- the fields so far are the same
abbrev pub invariant-loop-place : goal.invariant-loop-place
invariant-loop-place l = (k : ℕ) → k < l.place → get_or (fields_of l.row) k [] ≡ get_or (map (λ f. f.now) l.fields) k []

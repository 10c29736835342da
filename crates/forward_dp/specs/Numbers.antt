-- No public clause names these: counts and sequences as numbers.
use Rattle.std.specs.Prelude.{ℕ, ◌+◌, ◌*◌, List, slice_index, fold}

-- four counts as digits to the base 64
abbrev pub counts_number : List ℕ → ℕ
counts_number counts =
    ((slice_index counts 0 * 64 + slice_index counts 1) * 64 + slice_index counts 2) * 64 + slice_index counts 3

-- the number of a sequence: its phases as digits to the base 4
abbrev pub order_number : List ℕ → ℕ
order_number sequence = fold (λ n k. n * 4 + k) 0 sequence

-- What leaves the end of a link where at most so much, `sat`, can leave in a second.
use Rattle.std.specs.Prelude.{ℕ, zero, suc, ◌+◌, ◌-◌, ◌*◌, List, length, map, min, sum, take}
use Rattle.std.specs.List.{range_with_len}

-- the least of f 0, f 1, .., f n
unfoldable pub least_to : (ℕ → ℕ) → ℕ → ℕ
least_to f zero = f zero
least_to f (suc n) = min (least_to f n) (f (suc n))

-- How much has left in the first n seconds: the least, over all m up to n, of what came in the first m of them together with as
-- much as can leave in the others.
unfoldable pub left_by : ℕ → List ℕ → ℕ → ℕ
left_by sat amounts n = least_to (λ m. sum (take m amounts) + sat * (n - m)) n

-- how much leaves in each second
unfoldable pub smoothed : ℕ → List ℕ → List ℕ
smoothed sat amounts =
    map (λ k. left_by sat amounts (k + 1) - left_by sat amounts k) (range_with_len 0 (length amounts))

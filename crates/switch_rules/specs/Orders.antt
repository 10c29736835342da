-- The orders in which clusters can be served, and how many there are.
use Rattle.std.specs.Prelude.{ℕ, zero, suc, ◌+◌, ◌-◌, ◌*◌, nat_lt, if◌then◌else◌, List, [], ◌∷◌, length, map, sum, slice_index, slice_set}
use Rattle.std.specs.List.{flat_map, range_with_len}

-- the counts with one less of phase p
abbrev pub one_less : List ℕ → ℕ → List ℕ
one_less counts p = slice_set counts p (slice_index counts p - 1)

-- the orders of this many clusters in all: for each phase with a cluster left, in rising order, that phase followed by
-- each order of the others
abbrev pub orders_of : ℕ → List ℕ → List (List ℕ)
orders_of zero counts = [] ∷ []
orders_of (suc total) counts =
    flat_map (λ p. if nat_lt 0 (slice_index counts p)
    then map (λ order. p ∷ order) (orders_of total (one_less counts p)) else [])
    (range_with_len 0 (length counts))

-- every order in which the phases' clusters can be served, given how many each phase has: in lexicographic order,
-- each once
abbrev pub orders : List ℕ → List (List ℕ)
orders counts = orders_of (sum counts) counts

-- the number of ways to choose k of n things
abbrev pub choose : ℕ → ℕ → ℕ
choose n zero = 1
choose zero (suc k) = 0
choose (suc n) (suc k) = choose n k + choose n (suc k)

-- the number of ways to mix groups of things that keep their order, by the sizes of the groups
abbrev pub mixtures : List ℕ → ℕ
mixtures [] = 1
mixtures (n ∷ counts) = choose (n + sum counts) n * mixtures counts

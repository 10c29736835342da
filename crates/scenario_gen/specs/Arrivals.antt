-- What enters a square grid: the rows that words drawn one after another decide.
use Rattle.std.specs.Prelude.{ℕ, ◌*◌, ◌%◌, ◌==◌, if◌then◌else◌, List, [], ◌∷◌, length, filter, is_none, slice_index}
use Rattle.std.specs.List.{flat_map, range_with_len}
use Rattle.rand_pcg.specs.Lcg.{Lcg, advance, increment_of, started}
use Rattle.rand_pcg.specs.Pcg.{multiplier_64, pcg32}
use Rattle.net_parts.specs.Numbers.{Net}
use Rattle.net_parts.specs.Outline.{link_at}
use Rattle.arrivals.specs.declared.rows.ArrivalRow.{ArrivalRow}

-- the generator that a number starts, on stream 54: words of 32 bits over a state of 64
abbrev pub generator : ℕ → Lcg
generator number = started 64 multiplier_64 number (increment_of 64 54)

-- a generator after n words, and its word with this number, from 0
abbrev pub after_words : Lcg → ℕ → Lcg
after_words g words = advance 64 multiplier_64 words g

abbrev pub word : Lcg → ℕ → ℕ
word g index = (pcg32 (after_words g index)).0

-- the links of a network that are entered from outside, in their order
abbrev pub sources : Net → List ℕ
sources net = filter (λ l. is_none (link_at net l).from) (range_with_len 0 (length net.link_names))

-- a word that is divisible by 10 brings a vehicle
abbrev pub row_by : ℕ → ℕ → ℕ → List ArrivalRow
row_by second link word = if word % 10 == 0 then record { second = second; link = link; amount = 1000 } ∷ [] else []

-- In a second one word is drawn for each source, in their order.
abbrev pub rows_of_second : ℕ → List ℕ → Lcg → List ArrivalRow
rows_of_second second entered g =
    flat_map (λ place. row_by second (slice_index entered place) (word g place)) (range_with_len 0 (length entered))

-- The words of a second come after those of all seconds before it. There are 5 seconds for each round.
abbrev pub rows_from : Lcg → List ℕ → ℕ → List ArrivalRow
rows_from g entered seconds =
    flat_map (λ second. rows_of_second second entered (after_words g (second * length entered)))
    (range_with_len 0 seconds)

abbrev pub rows : ℕ → ℕ → Net → List ArrivalRow
rows number rounds net = rows_from (generator number) (sources net) (5 * rounds)

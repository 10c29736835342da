-- Sequences as numbers, and the best answer by them.
use Rattle.std.proofs.Common.{◌≡◌, ℕ, zero, suc, ◌+◌, ◌*◌, ◌^◌, ◌<◌, ◌≤◌, ◌⊎◌, nat_lt, cond, List, [], ◌∷◌, ◌++◌, length, map, fold, sum, get_or, take, drop, All, Option, Some, None, IfSome, refl, sym, ap, subst, ◌∙◌, inl, inr, arith}
use Rattle.std.specs.List.{Contains, flat_map, range_with_len}
use Rattle.std.specs.Option.{option_map}
use Rattle.std.proofs.Math.Nat.{pow-suc, mul-le-mul_right}
use Rattle.std.proofs.lemmas.Bool.{cases_lt, cond_below, cond_above}
use Rattle.std.proofs.lemmas.List.{length-map, take-append-drop, drop_more}
use Rattle.std.proofs.lemmas.List.Elements.{All-nil, All-cons, All-head, All-tail, All-append, All-map, All-weaker, All-contains_itself}
use Rattle.std.proofs.lemmas.List.Sums.{fold-append}
use Rattle.switch_rules.specs.Orders.{one_less, orders, orders_of}
use Rattle.switch_rules.specs.declared.Head.{Head}
use Rattle.switch_rules.specs.declared.Served.{Served}
use Rattle.switch_rules.proofs.Counting.{length-one_less}
use Rattle.schedule_meaning.specs.Instances.{Problem, counts_of}
use Rattle.schedule_meaning.specs.Timing.{timed, delay_of, total_cost}
use Rattle.schedule_meaning.specs.Best.{IsBest}
use Rattle.schedule_meaning.specs.declared.planners.Answer.TheVariants.{Plan, NoPlan}
use Rattle.schedule_meaning.proofs.Sequences.{option-cases}
use Rattle.schedule_meaning.proofs.Choosing.{timed-among}
use Rattle.forward_dp.specs.Numbers.{order_number}

-- one more phase at the end
pub order-push : (s : List ℕ) (k : ℕ) → order_number (s ++ k ∷ []) ≡ order_number s * 4 + k
order-push s k = fold-append (λ n k. n * 4 + k) 0 s (k ∷ [])

spread : (n k unit rest : ℕ) → (n * 4 + k) * unit + rest ≡ n * (unit * 4) + ((0 * 4 + k) * unit + rest)
spread n k unit rest = omega arith

-- the phases of a sequence after a number
order-behind : (n : ℕ) (s : List ℕ) → fold (λ n k. n * 4 + k) n s ≡ n * 4 ^ length s + order_number s
order-behind n [] = omega arith
order-behind n (k ∷ s) =
    order-behind (n * 4 + k) s ∙ spread n k (4 ^ length s) (order_number s)
    ∙ ap (λ m. m + ((0 * 4 + k) * 4 ^ length s + order_number s)) (ap (λ u. n * u) (sym (pow-suc 4 (length s))))
    ∙ ap (λ m. n * 4 ^ length (k ∷ s) + m) (sym (order-behind (0 * 4 + k) s))

-- one sequence after another
pub order-append : (s t : List ℕ) → order_number (s ++ t) ≡ order_number s * 4 ^ length t + order_number t
order-append s t = fold-append (λ n k. n * 4 + k) 0 s t ∙ order-behind (order_number s) t

-- one more phase at the front
pub order-cons : (k : ℕ) (s : List ℕ) → order_number (k ∷ s) ≡ k * 4 ^ length s + order_number s
order-cons k s = order-behind (0 * 4 + k) s ∙ ap (λ n. n * 4 ^ length s + order_number s) (omega arith)

-- a number with this many digits
pub order-below : (s : List ℕ) → All (λ k. k < 4) s → order_number s < 4 ^ length s
order-below [] all = omega arith
order-below (k ∷ s) all =
    let first : k ≤ 3 = omega (arith, All-head (λ k. k < 4) k s all) in
    omega (arith, order-cons k s, order-below s (All-tail (λ k. k < 4) k s all), pow-suc 4 (length s), mul-le-mul_right (4 ^ length s) first)

-- the numbers of sequences rise, from low on and below high
abbrev AreRising : ℕ → ℕ → List (List ℕ) → Type 0
AreRising low high [] = low ≤ high
AreRising low high (s ∷ rest) = (low ≤ order_number s) × AreRising (order_number s + 1) high rest

rising-wider : (low low' high high' : ℕ) (xs : List (List ℕ)) → low ≤ low' → high' ≤ high → AreRising low' high' xs → AreRising low high xs
rising-wider low low' high high' [] e f h = omega arith
rising-wider low low' high high' (s ∷ rest) e f h = (omega arith, rising-wider (order_number s + 1) (order_number s + 1) high high' rest (omega arith) f h.1)

rising-append : (low middle high : ℕ) (xs ys : List (List ℕ)) → AreRising low middle xs → AreRising middle high ys → AreRising low high (xs ++ ys)
rising-append low middle high [] ys h i = rising-wider low middle high high ys h (omega arith) i
rising-append low middle high (s ∷ rest) ys h i = (h.0, rising-append (order_number s + 1) middle high rest ys h.1 i)

-- one phase before each
rising-behind : (k total low high : ℕ) (xs : List (List ℕ)) → All (λ s. length s ≡ total) xs → AreRising low high xs → AreRising (k * 4 ^ total + low) (k * 4 ^ total + high) (map (λ s. k ∷ s) xs)
rising-behind k total low high [] long h = omega arith
rising-behind k total low high (s ∷ rest) long h =
    let e : order_number (k ∷ s) ≡ k * 4 ^ total + order_number s = order-cons k s ∙ ap (λ n. k * 4 ^ n + order_number s) (All-head (λ s. length s ≡ total) s rest long) in (
      omega arith,
      rising-wider (order_number (k ∷ s) + 1) (k * 4 ^ total + (order_number s + 1)) (k * 4 ^ total + high) (k * 4 ^ total + high) (map (λ s. k ∷ s) rest) (omega arith) (omega arith)
          (rising-behind k total (order_number s + 1) high rest (All-tail (λ s. length s ≡ total) s rest long) h.1),
    )

-- blocks, one for each phase
rising-blocks : (f : ℕ → List (List ℕ)) (unit : ℕ) → ((k : ℕ) → AreRising (k * unit) ((k + 1) * unit) (f k)) → (a n : ℕ) → AreRising (a * unit) ((a + n) * unit) (flat_map f (range_with_len a n))
rising-blocks f unit each a zero = omega arith
rising-blocks f unit each a (suc n) =
    rising-append (a * unit) ((a + 1) * unit) ((a + suc n) * unit) (f a) (flat_map f (range_with_len (a + 1) n)) (each a)
    (subst (λ m. AreRising ((a + 1) * unit) (m * unit) (flat_map f (range_with_len (a + 1) n))) (omega arith) (rising-blocks f unit each (a + 1) n))

all-blocks : (P : List ℕ → Type 0) (f : ℕ → List (List ℕ)) → ((k : ℕ) → All P (f k)) → (a n : ℕ) → All P (flat_map f (range_with_len a n))
all-blocks P f each a zero = All-nil P
all-blocks P f each a (suc n) = All-append P (f a) (flat_map f (range_with_len (a + 1) n)) (each a) (all-blocks P f each (a + 1) n)

-- the orders of this many clusters have that length
orders-long : (total : ℕ) (counts : List ℕ) → All (λ s. length s ≡ total) (orders_of total counts)
orders-long zero counts = All-cons (λ s. length s ≡ zero) [] [] refl (All-nil (λ s. length s ≡ zero))
orders-long (suc total) counts =
    let P : List ℕ → Type 0 = λ s. length s ≡ suc total in
    let block : ℕ → List (List ℕ) = λ k. map (λ order. k ∷ order) (orders_of total (one_less counts k)) in
    let each : (k : ℕ) → All P (cond (nat_lt 0 (get_or counts k 0)) (block k) []) = λ k. elim (cases_lt 0 (get_or counts k 0)) [
      | inl some ↦
          subst (All P) (cond_below 0 (get_or counts k 0) (block k) [] some)
          (All-map P (λ order. k ∷ order) (orders_of total (one_less counts k))
          (All-weaker (λ s. length s ≡ total) (λ s. P (k ∷ s)) (λ s e. omega arith) (orders_of total (one_less counts k)) (orders-long total (one_less counts k))))
      | inr none ↦ subst (All P) (cond_above 0 (get_or counts k 0) (block k) [] [] none refl) (All-nil P)
    ] in
    all-blocks P (λ k. cond (nat_lt 0 (get_or counts k 0)) (block k) []) each 0 (length counts)

-- their numbers rise
orders-rising : (total : ℕ) (counts : List ℕ) → length counts ≤ 4 → AreRising 0 (4 ^ total) (orders_of total counts)
orders-rising zero counts few = (omega arith, omega arith)
orders-rising (suc total) counts few =
    let unit = 4 ^ total in
    let block : ℕ → List (List ℕ) = λ k. map (λ order. k ∷ order) (orders_of total (one_less counts k)) in
    let each : (k : ℕ) → AreRising (k * unit) ((k + 1) * unit) (cond (nat_lt 0 (get_or counts k 0)) (block k) []) = λ k. elim (cases_lt 0 (get_or counts k 0)) [
      | inl some ↦
          subst (AreRising (k * unit) ((k + 1) * unit)) (cond_below 0 (get_or counts k 0) (block k) [] some)
          (rising-wider (k * unit) (k * unit + 0) ((k + 1) * unit) (k * unit + unit) (block k) (omega arith) (omega arith)
          (rising-behind k total 0 unit (orders_of total (one_less counts k)) (orders-long total (one_less counts k)) (orders-rising total (one_less counts k) (omega (arith, length-one_less counts k)))))
      | inr none ↦ subst (AreRising (k * unit) ((k + 1) * unit)) (cond_above 0 (get_or counts k 0) (block k) [] [] none refl) (omega arith)
    ] in
    rising-wider 0 (0 * unit) (4 ^ suc total) ((0 + length counts) * unit) (orders_of (suc total) counts) (omega arith)
    (omega (arith, pow-suc 4 total, mul-le-mul_right unit few))
    (rising-blocks (λ k. cond (nat_lt 0 (get_or counts k 0)) (block k) []) unit each 0 (length counts))

rising-from : (low high : ℕ) (before : List (List ℕ)) (t : List ℕ) (after : List (List ℕ)) → AreRising low high (before ++ t ∷ after) → low ≤ order_number t
rising-from low high [] t after h = h.0
rising-from low high (s ∷ before) t after h =
    let later = rising-from (order_number s + 1) high before t after h.1 in
    omega (arith, h.0, later)

rising-before : (low high : ℕ) (before : List (List ℕ)) (t : List ℕ) (after : List (List ℕ)) → AreRising low high (before ++ t ∷ after) → All (λ s. order_number s < order_number t) before
rising-before low high [] t after h = All-nil (λ s. order_number s < order_number t)
rising-before low high (s ∷ before) t after h =
    let later = rising-from (order_number s + 1) high before t after h.1 in
    All-cons (λ s. order_number s < order_number t) s before (omega (arith, later)) (rising-before (order_number s + 1) high before t after h.1)

-- an order that stands before another has a lesser number
pub order-ranks : (counts : List ℕ) (before : List (List ℕ)) (t : List ℕ) (after : List (List ℕ)) → length counts ≤ 4 → orders counts ≡ before ++ t ∷ after → All (λ s. order_number s < order_number t) before
order-ranks counts before t after few e =
    rising-before 0 (4 ^ sum counts) before t after (subst (AreRising 0 (4 ^ sum counts)) e (orders-rising (sum counts) counts few))

-- a list is cut at an element of it
cut-at : (xs : List (List ℕ)) (i : ℕ) (x : List ℕ) → i < length xs → get_or xs i x ≡ x → xs ≡ take i xs ++ x ∷ drop (i + 1) xs
cut-at xs i x inside e =
    sym (take-append-drop i xs) ∙ ap (λ rest. take i xs ++ rest) (drop_more xs i x inside) ∙ ap (λ y. take i xs ++ y ∷ drop (i + 1) xs) e

-- a feasible sequence is one of the orders
feasible-among : (p : Problem) (u : List ℕ) (d : ℕ) → delay_of p u ≡ Some d → Contains (orders (counts_of p.lists)) u
feasible-among p u d e = option-cases (timed p u)
    (λ none. let gone = ap (option_map (λ (t : List Served × Head). total_cost t.0)) none in absurd (cc))
    (λ t h. timed-among (Contains (orders (counts_of p.lists))) p (counts_of p.lists) p.head u t h (All-contains_itself (orders (counts_of p.lists))))

above-before : (o : Option ℕ) (d n m : ℕ) → IfSome o (λ e. (d < e) ⊎ ((d ≡ e) × (n ≤ m))) → m < n → IfSome o (λ e. d < e)
above-before None d n m h less = tt
above-before (Some e) d n m h less = elim h [ inl below ↦ below | inr equal ↦ absurd (omega (arith, equal.1)) ]

above-after : (o : Option ℕ) (d n m : ℕ) → IfSome o (λ e. (d < e) ⊎ ((d ≡ e) × (n ≤ m))) → IfSome o (λ e. d ≤ e)
above-after None d n m h = tt
above-after (Some e) d n m h = elim h [ inl below ↦ omega arith | inr equal ↦ omega (arith, equal.0) ]

-- a feasible sequence that is no worse than any is the best plan
pub best-plan : (p : Problem) (u : List ℕ) (d : ℕ) → length p.lists ≤ 4 → delay_of p u ≡ Some d → ((s : List ℕ) → IfSome (delay_of p s) (λ e. (d < e) ⊎ ((d ≡ e) × (order_number u ≤ order_number s)))) → IsBest p (Plan u d)
best-plan p u d few e least =
    let all = orders (counts_of p.lists) in
    let place : Contains all u = feasible-among p u d e in
    let cut : all ≡ take place.0 all ++ u ∷ drop (place.0 + 1) all = cut-at all place.0 u place.1 place.2 in
    let ranks = order-ranks (counts_of p.lists) (take place.0 all) u (drop (place.0 + 1) all) (omega (arith, length-map p.lists length)) cut in
    record {
      feasible = e;
      before = take place.0 all;
      after = drop (place.0 + 1) all;
      among = cut;
      first = All-weaker (λ s. order_number s < order_number u) (λ s. IfSome (delay_of p s) (λ e. d < e))
          (λ s less. above-before (delay_of p s) d (order_number u) (order_number s) (least s) less) (take place.0 all) ranks;
      least = λ k x inside. above-after (delay_of p (get_or (drop (place.0 + 1) all) k x)) d (order_number u) (order_number (get_or (drop (place.0 + 1) all) k x)) (least (get_or (drop (place.0 + 1) all) k x));
    }

-- where no sequence is feasible there is no plan
pub best-none : (p : Problem) → ((s : List ℕ) → delay_of p s ≡ None) → IsBest p NoPlan
best-none p none = λ k s inside. none (get_or (orders (counts_of p.lists)) k s)

-- The loops over numbers and words.
use Rattle.std.proofs.Common.{◌≡◌, ℕ, zero, suc, ◌+◌, List, [], ◌∷◌, ◌++◌, map, refl, sym, ap, ◌∙◌, arith, append-nil, append_assoc, All, length, get_or, ◌<◌, ◌*◌, filter, is_none, Bool, if◌then◌else◌}
use Rattle.std.specs.List.{flat_map, range_with_len}
use Rattle.std.proofs.lemmas.List.{map-id}
use Rattle.std.proofs.lemmas.List.Concat.{flat_map-append}
use Rattle.std.proofs.lemmas.List.FromFn.{map-range_with_len_more}
use Rattle.std.proofs.lemmas.List.Elements.{All-append, All-head, All-tail, All-map, All-nil}
use Rattle.std.proofs.lemmas.List.FromFn.{get_or-range_with_len, length-range_with_len, filter_of_map_range_with_len_more}
use Rattle.rand_pcg.specs.Lcg.{Lcg, next_state, state_after}
use Rattle.rand_pcg.specs.Pcg.{multiplier_64, pcg32}
use Rattle.scenario_gen.specs.declared.layout.Road.{Road}
use Rattle.scenario_gen.specs.Layout.{directions, entry_roads, entering_by, exit_roads, leaving_by, neighbour, nodes, roads}
use Rattle.scenario_gen.specs.Arrivals.{after_words}

-- the numbers below one more
pub range-more : (n : ℕ) → range_with_len 0 (n + 1) ≡ range_with_len 0 n ++ n ∷ []
range-more n = sym (map-id (range_with_len 0 (n + 1))) ∙ map-range_with_len_more (λ k. k) 0 n n (omega arith) ∙ ap (λ l. l ++ n ∷ []) (map-id (range_with_len 0 n))

-- what is made of the numbers below one more
pub flat-more : {X : Type 0} (f : ℕ → List X) (n : ℕ) → flat_map f (range_with_len 0 (n + 1)) ≡ flat_map f (range_with_len 0 n) ++ f n
flat-more f n = ap (flat_map f) (range-more n) ∙ flat_map-append f (range_with_len 0 n) (n ∷ []) ∙ ap (λ l. flat_map f (range_with_len 0 n) ++ l) (append-nil (f n))

-- some words, and then some more
pub after-add : (w m increment a b state : ℕ) → state_after w m increment (a + b) state ≡ state_after w m increment b (state_after w m increment a state)
unfolding state_after
after-add w m increment zero b state = ap (λ n. state_after w m increment n state) (let e : 0 + b ≡ b = omega arith in e)
after-add w m increment (suc a) b state =
    ap (λ n. state_after w m increment n state) (let e : suc a + b ≡ suc (a + b) = omega arith in e)
    ∙ after-add w m increment a b (next_state w m increment state)

-- a loop over numbers that appends a piece for each
pub flat-step : {X : Type 0} (f : ℕ → List X) (n : ℕ) (start now next piece : List X) → now ≡ start ++ flat_map f (range_with_len 0 n) → next ≡ now ++ piece → piece ≡ f n → next ≡ start ++ flat_map f (range_with_len 0 (n + 1))
flat-step f n start now next piece was is same =
    is ∙ ap (λ l. l ++ piece) was ∙ append_assoc start (flat_map f (range_with_len 0 n)) piece
    ∙ ap (λ l. start ++ (flat_map f (range_with_len 0 n) ++ l)) same ∙ ap (λ l. start ++ l) (sym (flat-more f n))

-- and one that puts one element for each
pub map-step : {X : Type 0} (f : ℕ → X) (n : ℕ) (now next : List X) (x : X) → now ≡ map f (range_with_len 0 n) → next ≡ now ++ x ∷ [] → x ≡ f n → next ≡ map f (range_with_len 0 (n + 1))
map-step f n now next x was is same = is ∙ ap (λ l. l ++ x ∷ []) was ∙ ap (λ y. map f (range_with_len 0 n) ++ y ∷ []) same ∙ sym (map-range_with_len_more f 0 n n (omega arith))

-- and one that picks
pub filter-step : (test : ℕ → Bool) (n : ℕ) (now next : List ℕ) → now ≡ filter test (range_with_len 0 n) → next ≡ now ++ (if test n then n ∷ [] else []) → next ≡ filter test (range_with_len 0 (n + 1))
filter-step test n now next was is =
    is ∙ ap (λ l. l ++ (if test n then n ∷ [] else [])) (was ∙ ap (filter test) (sym (map-id (range_with_len 0 n))))
    ∙ sym (filter_of_map_range_with_len_more test (λ k. k) 0 n n (omega arith)) ∙ ap (filter test) (map-id (range_with_len 0 (n + 1)))

-- a generator after some words, and some more
pub words-add : (g : Lcg) (a b : ℕ) → after_words (after_words g a) b ≡ after_words g (a + b)
words-add g a b = ap (λ s. record g { state = s }) (sym (after-add 64 multiplier_64 g.increment a b g.state))

after-one : (g : Lcg) → (pcg32 g).1 ≡ after_words g 1
unfolding state_after
after-one g = refl

pub words-more : (g : Lcg) (n : ℕ) → (pcg32 (after_words g n)).1 ≡ after_words g (n + 1)
words-more g n = after-one (after_words g n) ∙ words-add g n 1

pub words-none : (g : Lcg) → g ≡ after_words g 0
unfolding state_after
words-none g = refl

-- the nodes of roads
pub all-flat : {X Y : Type 0} (P : Y → Type 0) (f : X → List Y) (xs : List X) → All (λ x. All P (f x)) xs → All P (flat_map f xs)
all-flat P f [] are = All-nil P
all-flat P f (x ∷ xs) are = All-append P (f x) (flat_map f xs) (All-head (λ y. All P (f y)) x xs are) (all-flat P f xs (All-tail (λ y. All P (f y)) x xs are))

pub below : (m : ℕ) (P : ℕ → Type 0) → ((n : ℕ) → n < m → P n) → All P (range_with_len 0 m)
below m P holds k d inside =
    let h : k < m = omega (arith, inside, length-range_with_len 0 m) in
    rw (get_or-range_with_len 0 m k d h) (holds (0 + k) (omega (arith, h)))

abbrev IsInside : ℕ → Road → Type 0
IsInside side r = r.node < side * side

roads-inside : (side : ℕ) → All (IsInside side) (roads side)
roads-inside side =
    All-append (IsInside side) (flat_map exit_roads (nodes side)) (flat_map (entry_roads side) (nodes side))
    (all-flat (IsInside side) exit_roads (nodes side) (below (side * side) (λ n. All (IsInside side) (exit_roads n)) (λ n h. All-map (IsInside side) (leaving_by n) directions (λ k d inside. h))))
    (all-flat (IsInside side) (entry_roads side) (nodes side) (below (side * side) (λ n. All (IsInside side) (entry_roads side n)) (λ n h. All-map (IsInside side) (entering_by n) (filter (λ d. is_none (neighbour side n d)) directions) (λ k d inside. h))))

pub node-inside : (side i : ℕ) (rs : List Road) (d : Road) → rs ≡ roads side → i < length rs → (get_or rs i d).node < side * side
node-inside side i rs d are h = (rw (sym are) at (roads-inside side)) i d h

-- The places of the turn order: when a node reads in a round, the nodes with lesser numbers have done their steps of the round,
-- and those with greater numbers have not begun.
use Rattle.std.proofs.Common.{◌≡◌, ℕ, zero, suc, ◌+◌, ◌-◌, ◌*◌, ◌<◌, ◌≤◌, List, [], ◌∷◌, ◌++◌, length, get_or, take, refl, sym, ap, ◌∙◌, inl, inr, arith, append_assoc}
use Rattle.std.specs.Prelude.{replicate}
use Rattle.std.specs.List.{concat}
use Rattle.std.proofs.lemmas.Bool.{cases_lt}
use Rattle.std.proofs.lemmas.List.{take_at, take_more}
use Rattle.histories.specs.Histories.{count, turn_order, turns}
use Rattle.histories.specs.Steps.{board_steps}
use Rattle.histories.proofs.Counts.{comes-first, count-append, count-else, count-grows, count-here, count-one, in-spread, past-spread, spread}
use Rattle.histories.proofs.Rounds.{rounds-count, rounds-cut}
use Rattle.histories.proofs.StepLaws.{steps-beyond}
use Rattle.histories.proofs.TurnOrder.{turns-rounds}
use Rattle.net_parts.specs.Numbers.{Net}
use Rattle.road_net.specs.Network.{IsNetwork}
use Rattle.runs.proofs.Places.{StandsAt}

-- A place of n among the n's that stand between a beginning and a rest: of another node as many stand before it as in the
-- beginning.
squeezed : (n f p : ℕ) (h xs ws ts : List ℕ) → h ≡ xs ++ (ws ++ ts) → get_or h p 0 ≡ n → p < length h → count n xs ≤ count n (take p h) → count n (take p h) < count n xs + count n ws → count f ws ≡ 0
    → count f (take p h) ≡ count f xs
squeezed n f p h xs ws ts is here inside least most none =
    let first : ℕ = length xs in
    let last : ℕ = length (xs ++ ws) in
    let begins : take first h ≡ xs = ap (take first) is ∙ take_at xs (ws ++ ts) first refl in
    let ends : take last h ≡ xs ++ ws = ap (take last) (is ∙ sym (append_assoc xs ws ts)) ∙ take_at (xs ++ ws) ts last refl in
    let both : count n (take last h) ≡ count n xs + count n ws = ap (count n) ends ∙ count-append n xs ws in
    let before : p < last = comes-first n p last h (omega arith) in
    let one : count n (take (p + 1) h) ≡ count n (take p h) + 1 = ap (count n) (take_more h p 0 inside) ∙ count-append n (take p h) (get_or h p 0 ∷ []) ∙ ap (λ m. count n (take p h) + count n (m ∷ [])) here ∙ ap (λ c. count n (take p h) + c) (count-one n) in
    let after : first ≤ p = elim (cases_lt p first) [
      | inl early ↦ absurd (let g = count-grows n (p + 1) first h (omega arith) in omega (arith, g, one, ap (count n) begins))
      | inr late ↦ late
    ] in
    let low = count-grows f first p h after in
    let high = count-grows f p last h (omega arith) in
    omega (arith, low, high, ap (count f) begins, ap (count f) ends, count-append f xs ws)

module _ (f : ℕ → ℕ) where
  spread-append : (from a b : ℕ) → spread f from (a + b) ≡ spread f from a ++ spread f (from + a) b
  spread-append from zero b = ap (spread f from) (let e : zero + b ≡ b = omega arith in e) ∙ ap (λ s. spread f s b) (let e : from ≡ from + zero = omega arith in e)
  spread-append from (suc a) b =
      ap (spread f from) (let e : suc a + b ≡ suc (a + b) = omega arith in e) ∙ ap (λ l. replicate (f from) from ++ l) (spread-append (from + 1) a b)
      ∙ sym (append_assoc (replicate (f from) from) (spread f (from + 1) a) (spread f (from + 1 + a) b))
      ∙ ap (λ s. (replicate (f from) from ++ spread f (from + 1) a) ++ spread f s b) (let e : from + 1 + a ≡ from + suc a = omega arith in e)

module _ (net : Net) (network : IsNetwork net) (r n k place : ℕ) (less : r < net.run.rounds) (below : n < length net.node_names) (at : StandsAt net (turn_order net) r n k place) where
  abbrev w : ℕ → ℕ
  w m = length (board_steps net m)

  abbrev block : List ℕ
  block = turns (board_steps net) (length net.node_names)

  abbrev early : List ℕ
  early = concat (replicate r block)

  abbrev lesser : List ℕ
  lesser = spread w 0 n

  abbrev greater : List ℕ
  greater = spread w (n + 1) (length net.node_names - (n + 1)) ++ concat (replicate (net.run.rounds - (r + 1)) block)

  cut : block ≡ lesser ++ (replicate (w n) n ++ spread w (n + 1) (length net.node_names - (n + 1)))
  cut =
      ap (spread w 0) (let e : length net.node_names ≡ n + suc (length net.node_names - (n + 1)) = omega arith in e) ∙ spread-append w 0 n (suc (length net.node_names - (n + 1)))
      ∙ ap (λ s. lesser ++ spread w s (suc (length net.node_names - (n + 1)))) (let e : 0 + n ≡ n = omega arith in e)

  whole : turn_order net ≡ (early ++ lesser) ++ (replicate (w n) n ++ greater)
  whole =
      ap (λ m. concat (replicate m block)) (let e : net.run.rounds ≡ r + suc (net.run.rounds - (r + 1)) = omega arith in e) ∙ rounds-cut block r (net.run.rounds - (r + 1))
      ∙ ap (λ l. early ++ (l ++ concat (replicate (net.run.rounds - (r + 1)) block))) cut
      ∙ shape early lesser (replicate (w n) n) (spread w (n + 1) (length net.node_names - (n + 1))) (concat (replicate (net.run.rounds - (r + 1)) block))
    where
      shape : (a b c d e : List ℕ) → a ++ ((b ++ (c ++ d)) ++ e) ≡ (a ++ b) ++ (c ++ (d ++ e))
      shape a b c d e = simp (append_assoc) refl

  of-early : (m : ℕ) → count m early ≡ r * w m
  of-early m = rounds-count (board_steps net) r early (turns-rounds (board_steps net) (length net.node_names) (λ q past. steps-beyond net network q past) r) m

  own-run : (m : ℕ) → (m ≡ n → ⊥) → count m (replicate (w n) n) ≡ 0
  own-run m other = alone (w n)
    where
      alone : (len : ℕ) → count m (replicate len n) ≡ 0
      alone zero = refl
      alone (suc len) = count-else n m (replicate len n) (λ same. other (sym same)) ∙ alone len

  own-all : count n (replicate (w n) n) ≡ w n
  own-all = all (w n)
    where
      all : (len : ℕ) → count n (replicate len n) ≡ len
      all zero = refl
      all (suc len) = count-here n (replicate len n) ∙ ap suc (all len)

  before-own : count n lesser ≡ 0
  before-own = past-spread w n 0 n (omega arith)

  -- what stands before the place of another node
  pub stands-before : (f : ℕ) → (f ≡ n → ⊥) → count f (take place (turn_order net)) ≡ r * w f + count f lesser
  stands-before f other =
      let counted = at.counted in
      let small = at.small in
      let both = count-append n early lesser in
      squeezed n f place (turn_order net) (early ++ lesser) (replicate (w n) n) greater whole at.node_there at.inside
      (omega (arith, counted, both, of-early n, before-own)) (omega (arith, counted, small, both, of-early n, before-own, own-all)) (own-run f other)
      ∙ count-append f early lesser ∙ ap (λ c. c + count f lesser) (of-early f)

  pub lesser-all : (f : ℕ) → f < n → count f (take place (turn_order net)) ≡ r * w f + w f
  lesser-all f before = stands-before f (λ same. omega arith) ∙ ap (λ c. r * w f + c) (in-spread w f 0 n (omega arith) (omega arith))

  pub greater-none : (f : ℕ) → n < f → count f (take place (turn_order net)) ≡ r * w f
  greater-none f after = stands-before f (λ same. omega arith) ∙ ap (λ c. r * w f + c) (past-spread w f 0 n (omega arith)) ∙ (let e : r * w f + 0 ≡ r * w f = omega arith in e)

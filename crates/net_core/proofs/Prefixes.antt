-- A history with one step more.
use Rattle.std.proofs.Common.{◌≡◌, ℕ, zero, suc, ◌+◌, ◌-◌, ◌*◌, ◌/◌, ◌%◌, ◌<◌, ◌≤◌, cond, true, List, [], ◌∷◌, ◌++◌, Some, length, take, drop, get_or, refl, sym, ap, subst, ◌∙◌, inl, inr, arith, length-append}
use Rattle.std.proofs.lemmas.Bool.{cases_lt}
use Rattle.std.proofs.lemmas.List.{get_or_append_left, get_or_push, length_push, take-append-drop, take-append-le, take_all, take_at, take_more}
use Rattle.std.proofs.lemmas.Nat.{div-mul-add, mod-mul-add}
use Rattle.histories.specs.Histories.{count, CanGoOn, round_at, step_at, version_at}
use Rattle.histories.specs.Steps.{board_steps, is_publish_of}
use Rattle.histories.specs.declared.steps.BoardStep.{BoardStep}
use Rattle.histories.specs.declared.steps.BoardStep.TheVariants.{Read}
use Rattle.histories.proofs.Counts.{count-append, count-else, count-one}
use Rattle.histories.proofs.Rounds.{rounds-count}
use Rattle.histories.proofs.StepLaws.{steps-beyond}
use Rattle.histories.proofs.TurnOrder.{IsBegun, begun-on}
use Rattle.histories.proofs.Versions.{made, made-within, version-is, version-more}
use Rattle.net_parts.specs.Numbers.{Net}
use Rattle.net_parts.specs.Outline.{link_at}
use Rattle.road_net.specs.Network.{IsNetwork, heard_links}
use Rattle.runs.proofs.Places.{StandsAt, once, others, published, read-first, step-of}
use Rattle.runs.proofs.Heard.{Ends, heard-ends}

module _ (steps : ℕ → List BoardStep) (p more : List ℕ) where
  -- what stands before a place within a beginning is told by the beginning
  count-front : (n i : ℕ) → i ≤ length p → count n (take i (p ++ more)) ≡ count n (take i p)
  count-front n i inside = ap (count n) (take-append-le i p more inside)

  pub step-front : (i : ℕ) → i < length p → step_at steps (p ++ more) i ≡ step_at steps p i
  step-front i inside =
      let here : get_or (p ++ more) i 0 ≡ get_or p i 0 = get_or_append_left p more 0 i inside in
      ap (λ n. get_or (steps n) (count n (take i (p ++ more)) % length (steps n)) (Read 0)) here
      ∙ ap (λ c. get_or (steps (get_or p i 0)) (c % length (steps (get_or p i 0))) (Read 0)) (count-front (get_or p i 0) i (omega arith))

  pub round-front : (i : ℕ) → i < length p → round_at steps (p ++ more) i ≡ round_at steps p i
  round-front i inside =
      let here : get_or (p ++ more) i 0 ≡ get_or p i 0 = get_or_append_left p more 0 i inside in
      ap (λ n. count n (take i (p ++ more)) / length (steps n)) here
      ∙ ap (λ c. c / length (steps (get_or p i 0))) (count-front (get_or p i 0) i (omega arith))

  pub version-front : (link i : ℕ) → i ≤ length p → version_at steps (p ++ more) link i ≡ version_at steps p link i
  version-front link zero inside = refl
  version-front link (suc i) inside =
      let one : suc i ≡ i + 1 = omega arith in
      ap (version_at steps (p ++ more) link) one
      ∙ version-more steps (p ++ more) link i
      ∙ ap (λ s. version_at steps (p ++ more) link i + cond (is_publish_of link s) 1 0) (step-front i (omega arith))
      ∙ ap (λ v. v + cond (is_publish_of link (step_at steps p i)) 1 0) (version-front link i (omega arith))
      ∙ sym (version-more steps p link i)
      ∙ ap (version_at steps p link) (sym one)

module _ (steps : ℕ → List BoardStep) (p : List ℕ) (n : ℕ) where
  -- the step that is added
  pub last-node : get_or (p ++ n ∷ []) (length p) 0 ≡ n
  last-node = get_or_push p n 0 (length p) refl

  last-count : count n (take (length p) (p ++ n ∷ [])) ≡ count n p
  last-count = ap (count n) (take_at p (n ∷ []) (length p) refl)

  pub last-step : step_at steps (p ++ n ∷ []) (length p) ≡ get_or (steps n) (count n p % length (steps n)) (Read 0)
  last-step = ap (λ m. get_or (steps m) (count m (take (length p) (p ++ n ∷ [])) % length (steps m)) (Read 0)) last-node ∙ ap (λ c. get_or (steps n) (c % length (steps n)) (Read 0)) last-count

  pub last-round : round_at steps (p ++ n ∷ []) (length p) ≡ count n p / length (steps n)
  last-round = ap (λ m. count m (take (length p) (p ++ n ∷ [])) / length (steps m)) last-node ∙ ap (λ c. c / length (steps n)) last-count

  pub last-version : (link : ℕ) → version_at steps (p ++ n ∷ []) link (length (p ++ n ∷ [])) ≡ version_at steps p link (length p) + cond (is_publish_of link (step_at steps (p ++ n ∷ []) (length p))) 1 0
  last-version link = ap (version_at steps (p ++ n ∷ []) link) (length_push p n) ∙ version-more steps (p ++ n ∷ []) link (length p) ∙ ap (λ v. v + cond (is_publish_of link (step_at steps (p ++ n ∷ []) (length p))) 1 0) (version-front steps p (n ∷ []) link (length p) (omega arith))

  pub count-own : count n (p ++ n ∷ []) ≡ count n p + 1
  count-own = count-append n p (n ∷ []) ∙ ap (λ c. count n p + c) (count-one n)

  pub count-other : (m : ℕ) → (n ≡ m → ⊥) → count m (p ++ n ∷ []) ≡ count m p
  count-other m other = count-append m p (n ∷ []) ∙ (let e = count-else n m [] other in let z : count m p + count m (n ∷ []) ≡ count m p = omega arith in z)

pub beyond-of : (net : Net) → IsNetwork net → (n : ℕ) → length net.node_names ≤ n → board_steps net n ≡ []
beyond-of net network n past = steps-beyond net network n past

-- the history of a network has some rounds, and of the next one a part
abbrev pub Begun : (net : Net) → IsNetwork net → ℕ → List ℕ → Type 0
Begun net network round p = IsBegun (board_steps net) (length net.node_names) (beyond-of net network) net.run.rounds round p

-- a beginning has no more of a node
count-in : (n i : ℕ) (xs : List ℕ) → count n (take i xs) ≤ count n xs
count-in n i xs = omega (arith, ap (count n) (take-append-drop i xs), count-append n (take i xs) (drop i xs))

module _ (net : Net) (network : IsNetwork net) (p : List ℕ) (round : ℕ) (way : Begun net network round p) where
  -- a node has done all steps of the rounds before, and those of the part
  pub count-way : (n : ℕ) → count n p ≡ round * length (board_steps net n) + count n way.part
  count-way n = ap (count n) way.whole ∙ count-append n way.early way.part ∙ ap (λ c. c + count n way.part) (rounds-count (board_steps net) round way.early way.rounds_done n)

  pub onward : CanGoOn (board_steps net) net.run.rounds p
  onward = begun-on (board_steps net) (length net.node_names) (beyond-of net network) net.run.rounds round p way

  -- A node that has not read all yet has published no version of this round.
  pub not-yet : (link f t : ℕ) → (link_at net link).from ≡ Some f → (link_at net link).to ≡ Some t → count f way.part ≤ length (heard_links net f) → version_at (board_steps net) p link (length p) ≤ round
  not-yet link f t from to few = by (version_at (board_steps net) p link (length p)) refl
    where
      by : (v : ℕ) → version_at (board_steps net) p link (length p) ≡ v → v ≤ round
      by zero e = omega arith
      by (suc k) e = elim (cases_lt k round) [
        | inl less ↦ omega arith
        | inr later ↦ absurd (
            let rest : List ℕ = onward.0 in
            let h : List ℕ = p ++ rest in
            let long : length h ≡ length p + length rest = length-append p rest in
            let version : version_at (board_steps net) h link (length p) ≡ suc k = version-front (board_steps net) p rest link (length p) (omega arith) ∙ e in
            let (place, w, before, below, told, at) = published net network h onward.1 link f t from to (length p) k (omega arith) version in
            earlier k later place w before told at)
      ]
        where
          earlier : (k : ℕ) → round ≤ k → (place w : ℕ) → place < length p → length (heard_links net f) ≤ w → StandsAt net (p ++ onward.0) k f w place → ⊥
          earlier k later place w before told at =
              let counted : count f (take place (p ++ onward.0)) ≡ k * length (board_steps net f) + w = at.counted in
              let front : count f (take place (p ++ onward.0)) ≡ count f (take place p) = ap (count f) (take-append-le place p onward.0 (omega arith)) in
              let here : get_or p place 0 ≡ f = sym (get_or_append_left p onward.0 0 place before) ∙ at.node_there in
              let next : count f (take (place + 1) p) ≡ count f (take place p) + 1 = ap (count f) (take_more p place 0 before) ∙ count-append f (take place p) (get_or p place 0 ∷ []) ∙ ap (λ n. count f (take place p) + count f (n ∷ [])) here ∙ ap (λ c. count f (take place p) + c) (count-one f) in
              let within : count f (take (place + 1) p) ≤ count f p = count-in f (place + 1) p in
              let grown : round * length (board_steps net f) ≤ k * length (board_steps net f) = rounds-grow round k (length (board_steps net f)) later in
              omega (arith, counted, front, next, within, grown, count-way f, few, told)
            where
              rounds-grow : (r s w : ℕ) → r ≤ s → r * w ≤ s * w
              rounds-grow r s w less =
                  let d : ℕ = s - r in
                  let e : s ≡ r + d = omega arith in
                  let z : (r + d) * w ≡ r * w + d * w = omega arith in
                  omega (arith, ap (λ t. t * w) e, z)

  -- the step of a node that is in the part
  pub own-step : (n c : ℕ) → count n way.part ≡ c → c < length (board_steps net n) → step_at (board_steps net) (p ++ n ∷ []) (length p) ≡ get_or (board_steps net n) c (Read 0)
  own-step n c is small = last-step (board_steps net) p n ∙ ap (λ k. get_or (board_steps net n) (k % length (board_steps net n)) (Read 0)) (count-way n ∙ ap (λ k. round * length (board_steps net n) + k) is) ∙ ap (λ k. get_or (board_steps net n) k (Read 0)) (mod-mul-add round (length (board_steps net n)) c small)

  pub own-round : (n c : ℕ) → count n way.part ≡ c → c < length (board_steps net n) → round_at (board_steps net) (p ++ n ∷ []) (length p) ≡ round
  own-round n c is small = last-round (board_steps net) p n ∙ ap (λ k. k / length (board_steps net n)) (count-way n ∙ ap (λ k. round * length (board_steps net n) + k) is) ∙ div-mul-add round (length (board_steps net n)) c small

  -- where a node reads, it hears another one
  pub ends-at : (place link : ℕ) → place < length p → step_at (board_steps net) p place ≡ Read link → Ends net (get_or p place 0) link
  ends-at place link inside is =
      let h : List ℕ = p ++ onward.0 in
      let long : length h ≡ length p + length onward.0 = length-append p onward.0 in
      let (r, k, below, at) = step-of net network h onward.1 place (omega arith) in
      let node : get_or h place 0 ≡ get_or p place 0 = get_or_append_left p onward.0 0 place inside in
      let step : get_or (board_steps net (get_or h place 0)) k (Read 0) ≡ Read link = sym at.step_is ∙ step-front (board_steps net) p onward.0 place inside ∙ is in
      let (first, same) = read-first net (get_or h place 0) k link at.small step in
      subst (λ n. Ends net n link) node (subst (Ends net (get_or h place 0)) same (heard-ends net (get_or h place 0) k network first))

  -- A node that publishes a version publishes that of its round.
  pub now-published : (link f t c : ℕ) → (link_at net link).from ≡ Some f → (link_at net link).to ≡ Some t → count f way.part ≡ c → c < length (board_steps net f)
      → is_publish_of link (step_at (board_steps net) (p ++ f ∷ []) (length p)) ≡ true → version_at (board_steps net) p link (length p) ≡ round
  now-published link f t c from to is small told =
      let q : List ℕ = p ++ f ∷ [] in
      let w : ℕ = length (board_steps net f) in
      let long : length q ≡ length p + 1 = length_push p f in
      let h : List ℕ = p ++ onward.0 in
      let other = others net network h onward.1 link f t from to in
      let one = once net network h onward.1 link f t from to in
      let before : count f (take (length p) q) ≡ round * w + c = ap (count f) (take_at p (f ∷ []) (length p) refl) ∙ count-way f ∙ ap (λ k. round * w + k) is in
      let behind : count f (take (length q) q) ≡ round * w + c + 1 = ap (count f) (take_all (length q) q (omega arith)) ∙ count-own (board_steps net) p f ∙ ap (λ k. k + 1) (count-way f ∙ ap (λ k. round * w + k) is) in
      let low = made-within (board_steps net) link f other one round (count f (take (length p) q)) (omega arith) (omega arith) in
      let high = made-within (board_steps net) link f other one round (count f (take (length q) q)) (omega arith) (omega arith) in
      let here : version_at (board_steps net) q link (length p) ≡ made (board_steps net) link f other one (count f (take (length p) q)) = version-is (board_steps net) link f other one q (length p) (omega arith) in
      let next : version_at (board_steps net) q link (length q) ≡ made (board_steps net) link f other one (count f (take (length q) q)) = version-is (board_steps net) link f other one q (length q) (omega arith) in
      let more : version_at (board_steps net) q link (length q) ≡ version_at (board_steps net) p link (length p) + 1 = last-version (board_steps net) p f link ∙ ap (λ b. version_at (board_steps net) p link (length p) + cond b 1 0) told in
      omega (arith, low.0, high.1, here, next, more, version-front (board_steps net) p (f ∷ []) link (length p) (omega arith))

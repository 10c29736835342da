-- The places of a lawful history: each step of a node in a round has one, and a version was published before it is read.
use Rattle.std.proofs.Common.{◌≡◌, ℕ, zero, suc, ◌+◌, ◌-◌, ◌*◌, ◌/◌, ◌%◌, ◌<◌, ◌≤◌, Bool, true, false, cond, List, [], ◌∷◌, Some, length, take, get_or, filter, refl, sym, ap, subst, ◌∙◌, inl, inr, arith, ne_eqb, eq-eqb}
use Rattle.std.proofs.lemmas.Bool.{cases_eq, cases_lt, cases_Bool}
use Rattle.std.proofs.lemmas.List.{take_more}
use Rattle.std.proofs.lemmas.Nat.{mod-mul-add, div-mul-add}
use Rattle.net_parts.specs.Numbers.{Net}
use Rattle.net_parts.specs.Outline.{link_at}
use Rattle.road_net.specs.Network.{IsNetwork, heard_links}
use Rattle.histories.specs.Histories.{count, IsEntry, IsLawful, round_at, step_at, version_at}
use Rattle.histories.specs.Steps.{board_steps, is_publish_of}
use Rattle.histories.specs.declared.steps.BoardStep.TheVariants.{Read, Publish}
pub use Rattle.histories.proofs.Counts.{comes-first}
pub use Rattle.histories.proofs.StepLaws.{read-first, read-step}
use Rattle.histories.proofs.Counts.{count-append, count-one}
use Rattle.histories.proofs.Entries.{entry}
use Rattle.histories.proofs.Prefixes.{in-round}
use Rattle.histories.proofs.Rounds.{rounds-count}
use Rattle.histories.proofs.StepLaws.{step-count, steps-beyond}
use Rattle.histories.proofs.Versions.{version-more, none-found, version-is, made-within, publishes}

-- the step with this number of a node in a round stands at a place
pub record StandsAt (net : Net) (h : List ℕ) (round node k place : ℕ) : Type 0 where
  pub inside : place < length h
  pub small : k < length (board_steps net node)
  pub node_there : get_or h place 0 ≡ node
  pub counted : count node (take place h) ≡ round * length (board_steps net node) + k
  pub round_is : round_at (board_steps net) h place ≡ round
  pub step_is : step_at (board_steps net) h place ≡ get_or (board_steps net node) k (Read 0)

stands : (net : Net) (h : List ℕ) (round node k place : ℕ) → k < length (board_steps net node) → IsEntry h node (round * length (board_steps net node) + k) place → StandsAt net h round node k place
stands net h round node k place small e =
    let w : ℕ = length (board_steps net node) in
    let there : get_or h place 0 ≡ node = e.node_there in
    record {
      inside = e.inside;
      small = small;
      node_there = there;
      counted = e.counted;
      round_is = ap (λ n. count n (take place h) / length (board_steps net n)) there ∙ ap (λ c. c / w) e.counted ∙ div-mul-add round w k small;
      step_is = ap (λ n. get_or (board_steps net n) (count n (take place h) % length (board_steps net n)) (Read 0)) there ∙ ap (λ c. get_or (board_steps net node) (c % w) (Read 0)) e.counted ∙ ap (λ c. get_or (board_steps net node) c (Read 0)) (mod-mul-add round w k small);
    }

-- the steps of a node that are Reads are steps of the node
pub first-small : (net : Net) (n k : ℕ) → k < length (heard_links net n) → k < length (board_steps net n)
first-small net n k inside = omega (arith, step-count net n)

-- in rows of one width, a place of an early row is not past the rows
pub row-inside : (r s w k : ℕ) → r < s → k < w → r * w + k < s * w
row-inside r s w k less small =
    let d : ℕ = s - (r + 1) in
    let e : s ≡ r + 1 + d = omega arith in
    let z : (r + 1 + d) * w ≡ r * w + w + d * w = omega arith in
    omega (arith, ap (λ t. t * w) e, z)

module _ (net : Net) (network : IsNetwork net) (h : List ℕ) (lawful : IsLawful net h) where
  -- each step of a node in a round has a place
  pub place-of : (round node k : ℕ) → round < net.run.rounds → k < length (board_steps net node) → (place : ℕ) × StandsAt net h round node k place
  place-of round node k less small =
      let w : ℕ = length (board_steps net node) in
      let all : count node h ≡ net.run.rounds * w = rounds-count (board_steps net) net.run.rounds h lawful node in
      let e = entry h node (round * w + k) (let z : round * w + k < net.run.rounds * w = row-inside round net.run.rounds w k less small in omega arith) in
      (e.0, stands net h round node k e.0 small e.1)

  -- and each place has a step
  pub step-of : (place : ℕ) → place < length h → (round : ℕ) × (k : ℕ) × (round < net.run.rounds) × StandsAt net h round (get_or h place 0) k place
  step-of place inside =
      let (round, at) = in-round (board_steps net) (length net.node_names) (λ n past. steps-beyond net network n past) net.run.rounds h lawful place inside in
      let n : ℕ = get_or h place 0 in
      let w : ℕ = length (board_steps net n) in
      let least = at.least n in
      let own = at.own in
      let k : ℕ = count n (take place h) - round * w in
      let e : count n (take place h) ≡ round * w + k = omega arith in
      (round, k, at.below, stands net h round n k place (omega arith) (record { inside = inside; node_there = refl; counted = e }))

  module _ (link f t : ℕ) (from : (link_at net link).from ≡ Some f) (to : (link_at net link).to ≡ Some t) where
    pub others : (n : ℕ) → (n ≡ f → ⊥) → filter (is_publish_of link) (board_steps net n) ≡ []
    others n other = publishes net network link f t from to n ∙ ap (λ b. cond b (Publish link ∷ []) []) (ne_eqb f n (λ e. other (sym e)))

    pub once : filter (is_publish_of link) (board_steps net f) ≡ Publish link ∷ []
    once = publishes net network link f t from to f ∙ ap (λ b. cond b (Publish link ∷ []) []) (eq-eqb f f refl)

    abbrev passes : ℕ → Bool
    passes place = is_publish_of link (step_at (board_steps net) h place)

    -- the last publishing before a place that has a version
    last-publish : (i k : ℕ) → version_at (board_steps net) h link i ≡ suc k → (place : ℕ) × (place < i) × (passes place ≡ true) × (version_at (board_steps net) h link place ≡ k)
    last-publish zero k e = absurd (omega arith)
    last-publish (suc i) k e =
        let one : suc i ≡ i + 1 = omega arith in
        let more : version_at (board_steps net) h link i + cond (passes i) 1 0 ≡ suc k = sym (version-more (board_steps net) h link i) ∙ ap (version_at (board_steps net) h link) (sym one) ∙ e in
        elim (cases_Bool (passes i)) [
          | inl said ↦ (i, (omega arith), said, (let z : version_at (board_steps net) h link i + 1 ≡ suc k = ap (λ b. version_at (board_steps net) h link i + cond b 1 0) (sym said) ∙ more in omega arith))
          | inr unsaid ↦
              let z : version_at (board_steps net) h link i + 0 ≡ suc k = ap (λ b. version_at (board_steps net) h link i + cond b 1 0) (sym unsaid) ∙ more in
              let (place, before, said, v) = last-publish i k (omega arith) in
              (place, (omega arith), said, v)
        ]

    -- it is its publisher's
    by-publisher : (place : ℕ) → passes place ≡ true → get_or h place 0 ≡ f
    by-publisher place said = elim (cases_eq (get_or h place 0) f) [
      | inl same ↦ same
      | inr other ↦ absurd (
          let n : ℕ = get_or h place 0 in
          let none : passes place ≡ false = none-found (is_publish_of link) (board_steps net n) (count n (take place h) % length (board_steps net n)) (Read 0) (others n other) refl in
          apart said none)
    ]
      where
        apart : {b : Bool} → b ≡ true → b ≡ false → ⊥
        apart said none = (let e : true ≡ false = sym said ∙ none in cc)

    -- A version was published in the round before its number, by a step that stands before the place.
    pub published : (i k : ℕ) → i ≤ length h → version_at (board_steps net) h link i ≡ suc k → (place : ℕ) × (p : ℕ) × (place < i) × (k < net.run.rounds) × (length (heard_links net f) ≤ p) × StandsAt net h k f p place
    published i k inside e =
        let (place, before, said, v) = last-publish i k e in
        let there : get_or h place 0 ≡ f = by-publisher place said in
        let (round, p, below, at0) = step-of place (omega arith) in
        let at : StandsAt net h round f p place = subst (λ n. StandsAt net h round n p place) there at0 in
        let w : ℕ = length (board_steps net f) in
        let version : version_at (board_steps net) h link place ≡ _ = version-is (board_steps net) link f others once h place (omega arith) in
        let next : version_at (board_steps net) h link (place + 1) ≡ _ = version-is (board_steps net) link f others once h (place + 1) (omega arith) in
        let counted : count f (take place h) ≡ round * w + p = at.counted in
        let small : p < w = at.small in
        let more : count f (take (place + 1) h) ≡ round * w + p + 1 = ap (count f) (take_more h place 0 (omega arith)) ∙ count-append f (take place h) (get_or h place 0 ∷ []) ∙ ap (λ n. count f (take place h) + count f (n ∷ [])) there ∙ ap (λ c. count f (take place h) + c) (count-one f) ∙ ap (λ c. c + 1) counted in
        let low = made-within (board_steps net) link f others once round (count f (take place h)) (omega arith) (omega arith) in
        let high = made-within (board_steps net) link f others once round (count f (take (place + 1) h)) (omega arith) (omega arith) in
        let grown : version_at (board_steps net) h link (place + 1) ≡ k + 1 = version-more (board_steps net) h link place ∙ ap (λ b. version_at (board_steps net) h link place + cond b 1 0) said ∙ ap (λ c. c + 1) v in
        let same : round ≡ k = omega (arith, low.0, high.1, version, next, grown, v) in
        (place, p, before, (omega arith), told p place small at.step_is said, subst (λ r. StandsAt net h r f p place) same at)
      where
        told : (p place : ℕ) → p < length (board_steps net f) → step_at (board_steps net) h place ≡ get_or (board_steps net f) p (Read 0) → passes place ≡ true → length (heard_links net f) ≤ p
        told p place small is said = elim (cases_lt p (length (heard_links net f))) [
          | inr past ↦ past
          | inl first ↦ absurd (let e : false ≡ true = sym (ap (is_publish_of link) (is ∙ read-step net f p first)) ∙ said in cc)
        ]

-- Nothing is lost: what came from outside is on the links or has left the network.
use Rattle.std.proofs.Common.{◌≡◌, ℕ, zero, suc, ◌+◌, ◌-◌, ◌<◌, ◌≤◌, List, Option, Some, None, IsSome, length, refl, ap, subst, ◌∙◌, inl, inr, add-one, arith}
use Rattle.std.proofs.lemmas.Bool.{cases_lt}
use Rattle.net_parts.specs.declared.roads.Link.{Link}
use Rattle.net_parts.specs.declared.roads.Turn.{Turn}
use Rattle.net_parts.specs.Numbers.{Net}
use Rattle.net_parts.specs.Outline.{link_at, turns_at, AreTurns}
use Rattle.road_net.specs.Joins.{split_of, HasShares}
use Rattle.road_net.proofs.Everywhere.{everywhere}
use Rattle.road_net.specs.Totals.{total}
use Rattle.net_simulator.specs.Flow.{Cumulative, total_reached, waiting}
use Rattle.net_simulator.specs.Moves.{Moves}
use Rattle.net_simulator.specs.Sums.{outward, total_left, on_road}
use Rattle.road_net.proofs.TotalLaws.{total-same, total-add, total-swap, total-zero}
use Rattle.net_simulator.proofs.Sums.{total-part}
use Rattle.net_simulator.proofs.Sound.{IsSound, Continues, AreMoved}

-- what a link discharges into other links: all of it, where it ends at a node
abbrev pub onward : Option ℕ → ℕ → ℕ
onward None amount = 0
onward (Some node) amount = amount

-- the parts of what a link discharges, over all links
pub total-parts : (links : List Link) (turns : List Turn) (amount n : ℕ) (to : Option ℕ) → HasShares links turns to → AreTurns n turns → total (λ l. split_of turns amount l) n ≡ onward to amount
total-parts links turns amount n None none bounds = total-same (λ l. split_of turns amount l) (λ i. 0) n (λ l h. ap (λ ts. split_of ts amount l) none) ∙ total-zero n
total-parts links turns amount n (Some node) shares bounds = everywhere links turns n amount (Some node) bounds shares (let some : IsSome (Some node) = refl in some)

onward-add : (to : Option ℕ) (a b : ℕ) → onward to (a + b) ≡ onward to a + onward to b
onward-add None a b = omega arith
onward-add (Some node) a b = refl

both-ways : (to : Option ℕ) (a : ℕ) → a ≡ onward to a + outward to a
both-ways None a = omega arith
both-ways (Some node) a = omega arith

-- all that comes from outside in the first n seconds
abbrev pub come : Net → (ℕ → Moves) → ℕ → ℕ
come net moves n = total (λ x. total (moves x).comes (length net.link_names)) n

module _ (net : Net) (parts : (l : ℕ) → l < length net.link_names → HasShares net.links (turns_at net l) (link_at net l).to × AreTurns (length net.link_names) (turns_at net l))
    (moves : ℕ → Moves) (past : ℕ → ℕ → ℕ → Cumulative) (course : AreMoved net moves past) where
  abbrev all : (ℕ → ℕ) → ℕ
  all f = total f (length net.link_names)

  conserved-next : (c : ℕ) (m : Moves) (x : ℕ) (before after : ℕ → ℕ → Cumulative) → Continues net m x before after
      → all (λ l. (before x l).entered) ≡ c + all (λ l. onward (link_at net l).to (before x l).left)
      → all (λ l. (after (x + 1) l).entered) ≡ (c + all m.comes) + all (λ l. onward (link_at net l).to (after (x + 1) l).left)
  conserved-next c m x before after on was =
      let into : ℕ → ℕ = λ l. total (λ k. split_of (turns_at net k) (m.goes k) l) (length net.link_names) in
      let one = total-same (λ l. (after (x + 1) l).entered) (λ l. (before x l).entered + (m.comes l + into l)) (length net.link_names) (λ l h. ap (λ (q : Cumulative). q.entered) (on.next l h)) in
      let two = total-add (λ l. (before x l).entered) (λ l. m.comes l + into l) (length net.link_names) in
      let three = total-add m.comes into (length net.link_names) in
      let four = total-swap (λ l k. split_of (turns_at net k) (m.goes k) l) (length net.link_names) (length net.link_names) in
      let five = total-same (λ k. total (λ l. split_of (turns_at net k) (m.goes k) l) (length net.link_names)) (λ k. onward (link_at net k).to (m.goes k)) (length net.link_names) (λ k h. total-parts net.links (turns_at net k) (m.goes k) (length net.link_names) (link_at net k).to (parts k h).0 (parts k h).1) in
      let six = total-same (λ l. onward (link_at net l).to (after (x + 1) l).left) (λ l. onward (link_at net l).to (before x l).left + onward (link_at net l).to (m.goes l)) (length net.link_names) (λ l h. ap (λ (q : Cumulative). onward (link_at net l).to q.left) (on.next l h) ∙ onward-add (link_at net l).to (before x l).left (m.goes l)) in
      let seven = total-add (λ l. onward (link_at net l).to (before x l).left) (λ l. onward (link_at net l).to (m.goes l)) (length net.link_names) in
      omega (arith, was, one, two, three, four, five, six, seven)

  pub conserved : (n : ℕ) → all (λ l. (past n n l).entered) ≡ come net moves n + all (λ l. onward (link_at net l).to (past n n l).left)
  conserved zero =
      let one = total-same (λ l. (past 0 0 l).entered) (λ l. 0) (length net.link_names) (λ l h. ap (λ (q : Cumulative). q.entered) (course.first l)) in
      let two = total-same (λ l. onward (link_at net l).to (past 0 0 l).left) (λ l. 0) (length net.link_names) (λ l h. ap (λ (q : Cumulative). onward (link_at net l).to q.left) (course.first l) ∙ nothing-on (link_at net l).to) in
      omega (arith, one, two, total-zero (length net.link_names))
    where
      nothing-on : (to : Option ℕ) → onward to 0 ≡ 0
      nothing-on None = refl
      nothing-on (Some node) = refl
  conserved (suc x) =
      subst (λ n. all (λ l. (past (suc x) n l).entered) ≡ come net moves (suc x) + all (λ l. onward (link_at net l).to (past (suc x) n l).left)) (add-one x)
      (conserved-next (come net moves x) (moves x) x (past x) (past (suc x)) (course.next x) (conserved x))

  -- what is on the links and what has left the network is what came
  pub none-lost : (n : ℕ) → ((l : ℕ) → l < length net.link_names → (past n n l).left ≤ (past n n l).entered) → on_road net (past n) n + total_left net (past n) n ≡ come net moves n
  none-lost n below =
      let P : ℕ → ℕ → Cumulative = past n in
      let one = total-add (λ l. (P n l).entered - (P n l).left) (λ l. onward (link_at net l).to (P n l).left + outward (link_at net l).to (P n l).left) (length net.link_names) in
      let two = total-add (λ l. onward (link_at net l).to (P n l).left) (λ l. outward (link_at net l).to (P n l).left) (length net.link_names) in
      let three = total-same (λ l. (P n l).entered) (λ l. ((P n l).entered - (P n l).left) + (onward (link_at net l).to (P n l).left + outward (link_at net l).to (P n l).left)) (length net.link_names) (λ l h. omega (arith, both-ways (link_at net l).to (P n l).left, below l h)) in
      omega (arith, one, two, three, conserved n)

module _ (net : Net) (past : ℕ → ℕ → Cumulative) (n : ℕ) (sound : IsSound net past n) where
  -- amounts grow
  pub grown : (l j d : ℕ) → l < length net.link_names → j + d ≤ n → (past j l).entered ≤ (past (j + d) l).entered
  grown l j zero inside h = omega (arith, ap (λ i. (past i l).entered) (let e : j + zero ≡ j = omega arith in e))
  grown l j (suc d) inside h =
      let e : j + suc d ≡ (j + d) + 1 = omega arith in
      omega (arith, ap (λ i. (past i l).entered) e, grown l j d inside (omega arith), sound.grows (j + d) l (omega arith) inside)

  -- what reached the end entered before
  pub reached-entered : (l k : ℕ) → l < length net.link_names → k ≤ n → total_reached net past k l ≤ (past k l).entered
  reached-entered l k inside h = elim (cases_lt k (link_at net l).travel) [
    | inl less ↦
        let e : k - (link_at net l).travel ≡ 0 = omega arith in
        omega (arith, ap (λ i. (past i l).entered) e, ap (λ i. (past i l).entered) (let z : 0 + k ≡ k = omega arith in z), grown l 0 k inside (omega arith))
    | inr more ↦
        let e : (k - (link_at net l).travel) + (link_at net l).travel ≡ k = omega arith in
        omega (arith, ap (λ i. (past i l).entered) e, grown l (k - (link_at net l).travel) (link_at net l).travel inside (omega arith))
  ]

  -- what is on a link is on the road
  pub on-link : (l : ℕ) → l < length net.link_names → (past n l).entered - (past n l).left ≤ on_road net past n
  on-link l inside = total-part (λ k. (past n k).entered - (past n k).left) (length net.link_names) l inside

  -- what left a link had entered it
  pub left-entered : (l k : ℕ) → l < length net.link_names → k ≤ n → (past k l).left ≤ (past k l).entered
  left-entered l k inside h = omega (arith, sound.within k l h inside, reached-entered l k inside h)

  -- and so is what waits
  pub waiting-on : (l : ℕ) → l < length net.link_names → 1 ≤ (link_at net l).travel → waiting net past n l ≤ on_road net past n
  waiting-on l inside some =
      let e : (n + 1 - (link_at net l).travel) + (n - (n + 1 - (link_at net l).travel)) ≡ n = omega arith in
      omega (arith, on-link l inside, ap (λ i. (past i l).entered) e, grown l (n + 1 - (link_at net l).travel) (n - (n + 1 - (link_at net l).travel)) inside (omega arith))

-- What is true of every past that grows by moves: amounts only grow, and no more leaves than reached the end.
use Rattle.std.proofs.Common.{◌≡◌, ℕ, zero, suc, ◌+◌, ◌-◌, ◌<◌, ◌≤◌, min, List, Option, Some, None, length, ap, sym, subst, inl, inr, add-one, arith}
use Rattle.std.proofs.lemmas.Bool.{cond_both, cases_lt}
use Rattle.std.proofs.lemmas.Bool.Decides.{eqb_tells}
use Rattle.net_parts.specs.Numbers.{Net}
use Rattle.net_parts.specs.Outline.{link_at}
use Rattle.net_simulator.specs.Flow.{Cumulative, nothing, total_reached, waiting, may_go, rate, discharge_to, history, cumulative_under}
use Rattle.net_simulator.specs.Moves.{Moves, moved}
use Rattle.net_simulator.proofs.MoveLaws.{flowing, cumulative_by, moves_by, kept-by, next-by, none-by}
use Rattle.net_simulator.proofs.FlowLaws.{past-kept, past-next, past-none}
use Rattle.control_flow.specs.declared.greens.Sign.{Sign}

pub discharge_to-most : (net : Net) (shown : ℕ → ℕ → Sign) (past : ℕ → ℕ → Cumulative) (x l : ℕ) (to : Option ℕ) → discharge_to net shown past x l to ≤ waiting net past x l
discharge_to-most net shown past x l None = omega arith
discharge_to-most net shown past x l (Some node) = cond_both (may_go net shown past x l node) (min (rate net shown past x l) (waiting net past x l)) 0 (λ n. n ≤ waiting net past x l) (λ e. omega arith) (λ e. omega arith)

pub record IsSound (net : Net) (past : ℕ → ℕ → Cumulative) (n : ℕ) : Type 0 where
  pub grows : (k l : ℕ) → k < n → l < length net.link_names → (past k l).entered ≤ (past (k + 1) l).entered
  pub within : (k l : ℕ) → k ≤ n → l < length net.link_names → (past k l).left ≤ total_reached net past k l

-- a past that goes on from another one for one second, in which this moves
pub record Continues (net : Net) (m : Moves) (x : ℕ) (before after : ℕ → ℕ → Cumulative) : Type 0 where
  pub kept : (n l : ℕ) → n ≤ x → after n l ≡ before n l
  pub next : (l : ℕ) → l < length net.link_names → after (x + 1) l ≡ moved net m before x l

-- Pasts of 0, 1, .., n seconds, each of which goes on from the one before it. In no second does more leave a link than waits there.
pub record AreMoved (net : Net) (moves : ℕ → Moves) (past : ℕ → ℕ → ℕ → Cumulative) : Type 0 where
  pub first : (l : ℕ) → past 0 0 l ≡ nothing
  pub next : (x : ℕ) → Continues net (moves x) x (past x) (past (suc x))
  pub most : (x l : ℕ) → l < length net.link_names → (moves x).goes l ≤ waiting net (past x) x l

-- the same of the second x + 1
pub next-one : (net : Net) (moves : ℕ → Moves) (past : ℕ → ℕ → ℕ → Cumulative) → AreMoved net moves past → (x : ℕ) → Continues net (moves x) x (past x) (past (x + 1))
next-one net moves past all x = subst (λ n. Continues net (moves x) x (past x) (past n)) (sym (add-one x)) (all.next x)

-- what a rule moves goes on, where it takes no more than waits
pub rule-moved : (net : Net) (rule : List (List Cumulative) → ℕ → Moves) → ((x l : ℕ) → l < length net.link_names → (moves_by net rule x).goes l ≤ waiting net (cumulative_by net rule x) x l) → AreMoved net (moves_by net rule) (cumulative_by net rule)
rule-moved net rule most = record {
  first = none-by net rule zero;
  next = λ x. record { kept = kept-by net rule x; next = next-by net rule x };
  most = most;
}

-- what moves in the world that stands
abbrev pub flows : Net → (ℕ → ℕ → ℕ) → (ℕ → ℕ → Sign) → ℕ → Moves
flows net arriving shown x = flowing net arriving shown (history net arriving shown x) x

pub flow-moved : (net : Net) (arriving : ℕ → ℕ → ℕ) (shown : ℕ → ℕ → Sign) → AreMoved net (flows net arriving shown) (cumulative_under net arriving shown)
flow-moved net arriving shown = record {
  first = past-none net arriving shown 0;
  next = λ x. record { kept = past-kept net arriving shown x; next = past-next net arriving shown x };
  most = λ x l h. discharge_to-most net shown (cumulative_under net arriving shown x) x l (link_at net l).to;
}

grows-step : (net : Net) (m : Moves) (x : ℕ) (before after : ℕ → ℕ → Cumulative) → Continues net m x before after → IsSound net before x
    → (k l : ℕ) → k < x + 1 → l < length net.link_names → (after k l).entered ≤ (after (k + 1) l).entered
grows-step net m x before after on sound k l h inside = elim (eqb_tells k x) [
  | inl p ↦
      let here = ap (λ (q : Cumulative). q.entered) (on.kept x l (omega arith)) in
      let next = ap (λ (q : Cumulative). q.entered) (on.next l inside) in
      omega (arith, here, next, ap (λ i. (after i l).entered) p.1, ap (λ i. (after (i + 1) l).entered) p.1)
  | inr q ↦
      let less : k < x = (let ne = q.1 in omega arith) in
      let one = ap (λ (q : Cumulative). q.entered) (on.kept k l (omega arith)) in
      let two = ap (λ (q : Cumulative). q.entered) (on.kept (k + 1) l (omega arith)) in
      omega (arith, one, two, sound.grows k l less inside)
]

reached-more : (net : Net) (past : ℕ → ℕ → Cumulative) (n k l : ℕ) → ((j : ℕ) → j < n → (past j l).entered ≤ (past (j + 1) l).entered) → k < n + 1 → 1 ≤ (link_at net l).travel → total_reached net past k l ≤ total_reached net past (k + 1) l
reached-more net past n k l grows h some = elim (cases_lt k (link_at net l).travel) [
  | inl less ↦
      let one : k - (link_at net l).travel ≡ 0 = omega arith in
      let two : (k + 1) - (link_at net l).travel ≡ 0 = omega arith in
      omega (arith, ap (λ i. (past i l).entered) one, ap (λ i. (past i l).entered) two)
  | inr more ↦
      let at : (k + 1) - (link_at net l).travel ≡ (k - (link_at net l).travel) + 1 = omega arith in
      omega (arith, ap (λ i. (past i l).entered) at, grows (k - (link_at net l).travel) (omega arith))
]

within-step : (net : Net) (m : Moves) (x : ℕ) (before after : ℕ → ℕ → Cumulative) → Continues net m x before after → IsSound net before x
    → ((l : ℕ) → l < length net.link_names → m.goes l ≤ waiting net before x l) → ((l : ℕ) → l < length net.link_names → 1 ≤ (link_at net l).travel)
    → (k l : ℕ) → k ≤ x + 1 → l < length net.link_names → (after k l).left ≤ total_reached net after k l
within-step net m x before after on sound most travels k l h inside = elim (eqb_tells k (x + 1)) [
  | inl p ↦
      let next = ap (λ (q : Cumulative). q.left) (on.next l inside) in
      let some = travels l inside in
      let more = reached-more net before x x l (λ j b. sound.grows j l b inside) (omega arith) some in
      let back = ap (λ (q : Cumulative). q.entered) (on.kept ((x + 1) - (link_at net l).travel) l (omega arith)) in
      let own = sound.within x l (omega arith) inside in
      let fits : (after (x + 1) l).left ≤ total_reached net after (x + 1) l = omega (arith, next, most l inside, more, back, own) in
      rw p.1 fits
  | inr q ↦
      let less : k ≤ x = (let ne = q.1 in omega arith) in
      let one = ap (λ (q : Cumulative). q.left) (on.kept k l less) in
      let two = ap (λ (q : Cumulative). q.entered) (on.kept (k - (link_at net l).travel) l (omega arith)) in
      omega (arith, one, two, sound.within k l less inside)
]

pub sound-next : (net : Net) (m : Moves) (x : ℕ) (before after : ℕ → ℕ → Cumulative) → Continues net m x before after → IsSound net before x
    → ((l : ℕ) → l < length net.link_names → m.goes l ≤ waiting net before x l) → ((l : ℕ) → l < length net.link_names → 1 ≤ (link_at net l).travel) → IsSound net after (x + 1)
sound-next net m x before after on sound most travels = record {
  grows = grows-step net m x before after on sound;
  within = within-step net m x before after on sound most travels;
}

pub is-sound : (net : Net) (moves : ℕ → Moves) (past : ℕ → ℕ → ℕ → Cumulative) → AreMoved net moves past → ((l : ℕ) → l < length net.link_names → 1 ≤ (link_at net l).travel) → (n : ℕ) → IsSound net (past n) n
is-sound net moves past all travels zero = record {
  grows = λ k l h inside. absurd (omega arith);
  within = λ k l h inside. let none : k ≡ 0 = omega arith in
      let left = ap (λ (q : Cumulative). q.left) (all.first l) in
      omega (arith, left, ap (λ i. (past 0 i l).left) none);
}
is-sound net moves past all travels (suc x) = subst (IsSound net (past (suc x))) (add-one x) (sound-next net (moves x) x (past x) (past (suc x)) (all.next x) (is-sound net moves past all travels x) (all.most x) travels)

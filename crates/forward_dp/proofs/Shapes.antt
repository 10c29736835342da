-- The shapes of served clusters: new greens by their waits, and greens that go on, which rise with what they go on from.
use Rattle.std.proofs.Common.{◌≡◌, ℕ, ◌+◌, ◌-◌, ◌*◌, ◌<◌, ◌≤◌, ◌⊎◌, ◌&&◌, ◌==◌, nat_lt, nat_le, max, Bool, true, false, cond, List, Result, Ok, Err, refl, sym, ap, subst, ◌∙◌, inl, inr, arith}
use Rattle.std.proofs.lemmas.Bool.{and_parts, cond_both, cases_lt, eqb-true}
use Rattle.std.proofs.lemmas.Bool.Decides.{nat_tests}
use Rattle.phase_plan.specs.Phases.{phase_at}
use Rattle.phase_plan.specs.declared.Phase.{Phase}
use Rattle.switch_rules.specs.Serving.{serving, served_from, served_anew, start_in_green, earliest_green, goes_on}
use Rattle.switch_rules.specs.declared.Head.{Head}
use Rattle.switch_rules.specs.declared.Served.{Served}
use Rattle.switch_rules.specs.declared.Cluster.{Cluster}
use Rattle.switch_rules.specs.declared.Unfit.{Unfit}
use Rattle.switch_rules.specs.declared.Unfit.TheVariants.{TooLong, TooLate}
use Rattle.dp_certificate.proofs.Servings.{cond-ok, ok-same}
use Rattle.forward_dp.specs.Greens.{IsGoingOn, IsNewGreen, IsShaped, head_time}

abbrev Shapes : Phase → Head → ℕ → Cluster → Result (Served × Head) Unfit → Type 0
Shapes times head k c o = (r : Served × Head) → o ≡ Ok r → IsShaped times head k c r

from-shapes : (times : Phase) (head : Head) (k : ℕ) (c : Cluster) (green start : ℕ) (kept : Bool) → c.arr ≤ start
    → (kept ≡ true → (k ≡ head.phase) × (green ≡ head.since) × (start ≡ start_in_green times head c))
    → (kept ≡ false → ((start - c.arr ≡ 0) × (green ≡ c.arr)) ⊎ ((times.loss ≤ start - c.arr) × (green + times.loss ≡ start)))
    → Shapes times head k c (served_from times k c green start kept)
from-shapes times head k c green start kept arrived on anew r e =
    let x : Served × Head = (record { green = green; start = start; finish = start + c.len; cost = c.load * (start - c.arr); kept = kept }, record { phase = k; since = green; at = start + c.len; fresh = false }) in
    let y : Result (Served × Head) Unfit = Ok x in
    let long = cond-ok (nat_lt (green + times.greatest) (start + c.len)) TooLong (cond (nat_lt times.wait (start - c.arr)) (Err TooLate) y) r e in
    let late = cond-ok (nat_lt times.wait (start - c.arr)) TooLate y r long.1 in
    let shaped : IsShaped times head k c x = record {
      phase = refl;
      arrived = arrived;
      waited = grind (arith, nat_tests, late.0);
      kept = λ h. record { phase = (on h).0; since = (on h).1; at = ap (λ n. n + c.len) (on h).2 };
      anew = λ h. record {
        since = elim (anew h) [ inl a ↦ inl a | inr a ↦ inr (a.0, omega (arith, a.1, arrived)) ];
        at = omega (arith, arrived);
      };
    } in
    subst (IsShaped times head k c) (ok-same x r y refl late.1) shaped

start-later : (times : Phase) (head : Head) (c : Cluster) → c.arr ≤ start_in_green times head c
start-later times head c =
    cond_both (head.fresh && nat_le c.arr head.at) (max head.at (head.since + times.loss)) (max c.arr head.at) (λ n. c.arr ≤ n)
    (λ h.
    let early = (and_parts head.fresh (nat_le c.arr head.at) h).1 in
    let before : c.arr ≤ head.at = grind (arith, nat_tests, early) in
    omega (arith, before)) (λ _. omega arith)

-- every fit serving
pub serving-shapes : (plan : List Phase) (head : Head) (k : ℕ) (c : Cluster) → Shapes (phase_at plan k) head k c (serving plan head k c)
serving-shapes plan head k c =
    let times = phase_at plan k in
    let earliest = earliest_green plan head k in
    cond_both (goes_on times head k c) (served_from times k c head.since (start_in_green times head c) true) (served_anew times k c earliest) (Shapes times head k c)
    (λ on. from-shapes times head k c head.since (start_in_green times head c) true (start-later times head c) (λ _. (eqb-true k head.phase (and_parts (k == head.phase) (nat_le (start_in_green times head c + c.len) (head.since + times.greatest)) on).0, refl, refl)) (λ h. absurd (cc)))
    (λ _. cond_both (nat_le c.arr earliest) (served_from times k c earliest (earliest + times.loss) false) (served_from times k c c.arr c.arr false) (Shapes times head k c)
    (λ early. from-shapes times head k c earliest (earliest + times.loss) false (grind (arith, nat_tests, early)) (λ h. absurd (cc)) (λ _. inr (grind (arith, nat_tests, early), refl)))
    (λ _. from-shapes times head k c c.arr c.arr false (omega arith) (λ h. absurd (cc)) (λ _. inl (omega arith, refl))))

-- of two new greens for one cluster the one that waits longer is later, and with one wait they have the same times
pub new-rises : (times : Phase) (c : Cluster) (v w : ℕ) (a b : Head) → IsNewGreen times c v a → IsNewGreen times c w b → v < w → head_time a < head_time b
new-rises times c v w a b x y less = elim x.since [
  | inl p ↦ elim y.since [ inl q ↦ omega (arith, q.0, less) | inr q ↦ omega (arith, p.0, p.1, q.0, q.1, x.at, y.at, less) ]
  | inr p ↦ elim y.since [ inl q ↦ omega (arith, q.0, less) | inr q ↦ omega (arith, p.0, p.1, q.0, q.1, x.at, y.at, less) ]
]

pub new-same : (times : Phase) (c : Cluster) (w : ℕ) (a b : Head) → IsNewGreen times c w a → IsNewGreen times c w b → head_time a ≡ head_time b
new-same times c w a b x y = elim x.since [
  | inl p ↦ elim y.since [ inl q ↦ omega (arith, p.0, p.1, q.0, q.1, x.at, y.at) | inr q ↦ omega (arith, p.0, p.1, q.0, q.1, x.at, y.at) ]
  | inr p ↦ elim y.since [ inl q ↦ omega (arith, p.0, p.1, q.0, q.1, x.at, y.at) | inr q ↦ omega (arith, p.0, p.1, q.0, q.1, x.at, y.at) ]
]

-- a fresh green whose time is spent after the arrival
start-fresh : (fresh : Bool) (arr at : ℕ) → (fresh && nat_le arr at) ≡ false → fresh ≡ true → arr ≤ at → ⊥
start-fresh true arr at h e early = grind (arith, nat_tests, h, early)
start-fresh false arr at h e early = absurd (cc)

-- where two greens began together, the one that is free later goes on no earlier
start-rises : (times : Phase) (a b : Head) (c : Cluster) → a.since ≡ b.since → a.fresh ≡ b.fresh → a.at ≤ b.at → start_in_green times a c ≤ start_in_green times b c
start-rises times a b c since fresh at =
    cond_both (a.fresh && nat_le c.arr a.at) (max a.at (a.since + times.loss)) (max c.arr a.at) (λ n. n ≤ start_in_green times b c)
    (λ h.
    let both = and_parts a.fresh (nat_le c.arr a.at) h in
    let before : c.arr ≤ a.at = grind (arith, nat_tests, both.1) in
    cond_both (b.fresh && nat_le c.arr b.at) (max b.at (b.since + times.loss)) (max c.arr b.at) (λ n. max a.at (a.since + times.loss) ≤ n)
    (λ _. omega (arith, since, at)) (λ k. absurd (start-fresh b.fresh c.arr b.at k (sym fresh ∙ both.0) (omega (arith, before, at)))))
    (λ _. cond_both (b.fresh && nat_le c.arr b.at) (max b.at (b.since + times.loss)) (max c.arr b.at) (λ n. max c.arr a.at ≤ n)
    (λ h.
    let before : c.arr ≤ b.at = grind (arith, nat_tests, (and_parts b.fresh (nat_le c.arr b.at) h).1) in
    omega (arith, before, at)) (λ _. omega (arith, at)))

-- greens that go on rise with what they go on from
pub kept-rises : (times : Phase) (a b : Head) (k : ℕ) (c : Cluster) (x y : Head) → a.fresh ≡ b.fresh → a.at < 4294967296 → b.at < 4294967296 → x.at < 4294967296 → head_time a ≤ head_time b
    → IsGoingOn times a k c x → IsGoingOn times b k c y → head_time x ≤ head_time y
kept-rises times a b k c x y fresh small_a small_b small_x rise on_a on_b = elim (cases_lt a.since b.since) [
  | inl less ↦ omega (arith, less, on_a.since, on_b.since, small_x)
  | inr other ↦
      let same : a.since ≡ b.since = omega (arith, other, rise, small_a, small_b) in
      let later : a.at ≤ b.at = omega (arith, same, rise) in
      omega (arith, on_a.since, on_b.since, on_a.at, on_b.at, same, start-rises times a b c same fresh later)
]

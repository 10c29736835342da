-- The rows of a lawful timeline stand apart.
use Rattle.std.proofs.Common.{◌≡◌, ℕ, zero, suc, ◌+◌, ◌-◌, ◌<◌, ◌≤◌, List, length, subst, arith}
use Rattle.std.proofs.lemmas.List.Elements.{All-get_or}
use Rattle.phase_plan.specs.Phases.{IsRing, phase_at}
use Rattle.phase_plan.specs.declared.Phase.{Phase}
use Rattle.control_flow.specs.declared.greens.Green.{Green}
use Rattle.control_flow.specs.Greens.{no_green, row_at, AreApart, IsGreen, IsLawful}
use Rattle.control_flow.proofs.OrderLaws.{order-lawful, order-one}

-- between the end of a row and the begin of each later one lie at least its yellow and all-red
rows-apart : (plan : List Phase) (rows : List Green) (i d : ℕ) → IsLawful plan rows → i + 1 + d < length rows
    → (row_at rows i).to + (phase_at plan (row_at rows i).phase).yellow + (phase_at plan (row_at rows i).phase).clear ≤ (row_at rows (i + 1 + d)).from
rows-apart plan rows i zero lawful h =
    let e : i + 1 + zero ≡ i + 1 = omega arith in
    rw e ((lawful.order i (omega arith)).begins)
rows-apart plan rows i (suc d) lawful h =
    let before = rows-apart plan rows i d lawful (omega arith) in
    let green = All-get_or (IsGreen plan) rows (i + 1 + d) no_green (omega arith) lawful.greens in
    let next = (lawful.order (i + 1 + d) (omega arith)).begins in
    let e : i + 1 + suc d ≡ i + 1 + d + 1 = omega arith in
    rw e (omega (arith, before, green.least, next))

pub are-apart : (plan : List Phase) (rows : List Green) → IsRing plan → IsLawful plan rows → AreApart plan rows
are-apart plan rows p lawful = record {
  apart = λ i j h inside.
      let e : i + 1 + (j - i - 1) ≡ j = omega arith in
      subst (λ k. (row_at rows i).to + (phase_at plan (row_at rows i).phase).yellow + (phase_at plan (row_at rows i).phase).clear ≤ (row_at rows k).from) e (rows-apart plan rows i (j - i - 1) lawful (omega arith));
  one = λ i j second hi hj a b. order-one rows (order-lawful plan rows p lawful) i j second hi hj a b;
}

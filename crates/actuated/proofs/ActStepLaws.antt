-- How long the rounds of the controller are.
use Rattle.std.proofs.Common.{◌≡◌, ℕ, ◌+◌, ◌*◌, ◌/◌, ◌%◌, ◌<◌, ◌≤◌, Option, Some, None, IfSome, unwrap_or, ap, ◌∙◌, inl, inr, arith}
use Rattle.std.proofs.lemmas.Bool.{cases_lt}
use Rattle.std.proofs.lemmas.Nat.{div-add-mod'}
use Rattle.std.proofs.Math.Nat.{mod-eq_of_lt, mod_self, mul-le-mul_right, mul_assoc}
use Rattle.net_parts.specs.Bounds.{IsActStep}
use Rattle.net_parts.specs.Limits.{most_seconds}
use Rattle.net_parts.specs.Numbers.{Net}
use Rattle.road_net.specs.Network.{IsNetwork}
use Rattle.actuated.specs.ActSteps.{AreActRounds, act_rounds, act_step}

-- rounds of a step that divides the seconds of a round
divided : (rounds step act : ℕ) → 1 ≤ step → step % act ≡ 0 → (act ≤ step) × (rounds * (step / act) * act ≡ rounds * step)
divided rounds step act some whole =
    let parts : step / act * act ≡ step = omega (arith, div-add-mod' step act, whole) in (
      elim (cases_lt step act) [
        | inl less ↦ absurd (omega (arith, mod-eq_of_lt {n = step} {m = act} less, whole, some))
        | inr not ↦ omega (arith, not)
      ],
      mul_assoc rounds (step / act) act ∙ ap (λ n. rounds * n) parts,
    )

-- the step that a run has for actuated control, or else its own
some-step : (step : ℕ) (act : Option ℕ) → 1 ≤ step → IfSome act (IsActStep step) → 1 ≤ unwrap_or act step
some-step step None some is = some
some-step step (Some act) some is = is.bounds.0

rounds-of : (rounds step : ℕ) (act : Option ℕ) → 1 ≤ step → IfSome act (IsActStep step) → (unwrap_or act step ≤ step) × (rounds * (step / unwrap_or act step) * unwrap_or act step ≡ rounds * step)
rounds-of rounds step None some is = divided rounds step step some (mod_self step)
rounds-of rounds step (Some act) some is = divided rounds step act some is.whole

pub act-rounds : (net : Net) → IsNetwork net → AreActRounds net
unfolding act_step act_rounds
act-rounds net network =
    let run = network.outline.run in
    let are = rounds-of net.run.rounds net.run.step net.run.act_step run.step.0 run.act_step in
    record { some = some-step net.run.step net.run.act_step run.step.0 run.act_step; within = are.0; whole = are.1 }

-- all of them are over within a day
pub end-by : (net : Net) → IsNetwork net → act_rounds net * act_step net ≤ most_seconds
end-by net network = omega (arith, network.outline.run.seconds, (act-rounds net network).whole)

-- in a round there is time for its seconds
pub time-for : (net : Net) → IsNetwork net → (r : ℕ) → r < act_rounds net → r * act_step net + act_step net ≤ most_seconds
time-for net network r less =
    let all : (r + 1) * act_step net ≤ act_rounds net * act_step net = mul-le-mul_right {m = r + 1} {n = act_rounds net} (act_step net) (omega arith) in
    let one : (r + 1) * act_step net ≡ r * act_step net + act_step net = omega arith in
    omega (arith, all, one, end-by net network)

-- so one begins by then
pub begins-by : (net : Net) → IsNetwork net → (r : ℕ) → r < act_rounds net → r * act_step net ≤ most_seconds
begins-by net network r less = omega (arith, time-for net network r less)

pub one-round : (net : Net) (r : ℕ) → (r + 1) * act_step net ≡ r * act_step net + act_step net
one-round net r = omega arith

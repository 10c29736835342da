-- What every fit serving keeps, as the table asks for it.
use Rattle.std.specs.Prelude.{unwrap_or}
use Rattle.std.proofs.Common.{◌≡◌, ℕ, ◌<◌, Bool, true, false, cond, List, length, Result, Ok, Err, refl, sym, ap, ◌∙◌}
use Rattle.std.specs.Result.{result_ok}
use Rattle.phase_plan.specs.Phases.{IsPhase, phase_at}
use Rattle.phase_plan.specs.declared.Phase.{Phase}
use Rattle.switch_rules.specs.Serving.{IsHead, IsCluster, IsServing, serving}
use Rattle.switch_rules.specs.declared.Head.{Head}
use Rattle.switch_rules.specs.declared.Served.{Served}
use Rattle.switch_rules.specs.declared.Cluster.{Cluster}
use Rattle.switch_rules.specs.declared.Unfit.{Unfit}
use Rattle.switch_rules.proofs.ServingLaws as law

-- a test whose first way is a fault has answered otherwise
pub cond-ok : {X E : Type 0} (b : Bool) (e : E) (y : Result X E) (r : X) → cond b (Err e) y ≡ Ok r → (b ≡ false) × (y ≡ Ok r)
cond-ok true e y r h = absurd (cc)
cond-ok false e y r h = (refl, h)

pub ok-same : {X E : Type 0} (x y : X) (o : Result X E) → o ≡ Ok x → o ≡ Ok y → x ≡ y
ok-same {X} {E} x y o h k = ap (λ (o : Result X E). unwrap_or (result_ok o) x) (sym h ∙ k)

-- a serving within its bounds, after which the green is not fresh
abbrev pub Keeps : List Phase → Result (Served × Head) Unfit → Type 0
Keeps plan o = (r : Served × Head) → o ≡ Ok r → IsServing plan r × (r.1.fresh ≡ false)

-- every fit serving of a phase of the plan
pub serving-keeps : (plan : List Phase) (head : Head) (k : ℕ) (c : Cluster) → k < length plan → IsPhase (phase_at plan k) → IsHead plan head → IsCluster c → Keeps plan (serving plan head k c)
serving-keeps plan head k c inside phase begun cluster r e =
    let fit = law.serving-keeps plan head k c r.0 r.1 inside phase begun cluster e in
    (fit.bounds, ap (λ (h : Head). h.fresh) fit.behind)

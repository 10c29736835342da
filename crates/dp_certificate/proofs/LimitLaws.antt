-- What is within a limit.
use Rattle.std.proofs.Common.{◌≡◌, ℕ, ◌≤◌, length, Option, Some, None, IfSome, refl, arith}
use Rattle.schedule_meaning.specs.Instances.{Problem, IsInstance}
use Rattle.dp_certificate.specs.Limits.{IsSomeDelay, IsWithin}
use Rattle.dp_certificate.specs.Prefixes.{Stage, first_stage, stage_after}
use Rattle.dp_certificate.proofs.RestLaws.{IsAllServed, no-rest, rest-below, step-rest}
use Rattle.dp_certificate.proofs.Stages.{ends-delay}

-- what leads to a stage within the limit is within it
pub step-within : (p : Problem) (limit : Option ℕ) → IsInstance p → (s t : Stage) (k : ℕ) → length s.counts ≡ 4 → stage_after p s k ≡ Some t → IsWithin p limit t → IsWithin p limit s
step-within p None lawful s t k places e h = tt
step-within p (Some most) lawful s t k places e h = omega (arith, step-rest p lawful s t k places e, h)

-- so is a stage with less delay
pub within-less : (p : Problem) (limit : Option ℕ) (s : Stage) (d : ℕ) → d ≤ s.delay → IsWithin p limit s → IsWithin p limit (record { counts = s.counts; head = s.head; delay = d })
within-less p None s d less h = tt
within-less p (Some most) s d less h = omega (arith, less, h)

-- the first stage is within a limit that is the delay of a feasible sequence
pub first-within : (p : Problem) (limit : Option ℕ) → IsInstance p → IsSomeDelay p limit → IsWithin p limit (first_stage p)
first-within p None lawful delay = tt
first-within p (Some most) lawful delay =
    let there = ends-delay p lawful delay.0 most delay.1 in
    omega (arith, rest-below p lawful delay.0 (first_stage p) there.end refl there.leads there.all, there.delay)

-- where all clusters are served the delay alone counts
pub served-within : (p : Problem) (limit : Option ℕ) (s : Stage) → IsAllServed p s.counts → IfSome limit (λ most. s.delay ≤ most) → IsWithin p limit s
served-within p None s all h = tt
served-within p (Some most) s all h = omega (arith, h, no-rest p s.counts s.head.at all)

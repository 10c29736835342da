-- A splice begins as the line before it did.
use Rattle.std.proofs.Common.{◌≡◌, ℕ, List, [], ◌∷◌, ap, ◌∙◌, arith}
use Rattle.control_flow.specs.Greens.{GoesOn, IsLawful, row_at, spliced}
use Rattle.control_flow.specs.declared.greens.Green.{Green}
use Rattle.control_flow.proofs.SpliceLaws.{row-of-head}
use Rattle.phase_plan.specs.Phases.{IsRing}
use Rattle.phase_plan.specs.declared.Phase.{Phase}
use Rattle.waits.specs.Rounds.{IsRound}
use Rattle.waits.proofs.Intergreens.{first-from}

pub splice-begins : (plan : List Phase) (p : IsRing plan) (intergreen : ℕ → ℕ) (now : ℕ) (old new : List Green) (lawful : IsLawful plan old) → (one : IsRound plan intergreen now old new) → (row_at new 0).from ≡ (row_at old 0).from
splice-begins plan p intergreen now old new lawful one = by one.next one.goes one.line
  where
    by : (next : List Green) → GoesOn one.head next → new ≡ spliced old next → (row_at new 0).from ≡ (row_at old 0).from
    by [] goes is = absurd (omega (arith, goes.some))
    by (first ∷ more) goes is =
        let row = row-of-head plan old now one.head one.at in
        ap (λ (rows : List Green). (row_at rows 0).from) is ∙ first-from plan p.phases intergreen old now row.row first more lawful row.found (goes.begin ∙ row.since)

-- A signal's timeline round by round.
use Rattle.std.specs.Prelude.{◌≡◌, ℕ, suc, ◌<◌, List, Some}
use Rattle.phase_plan.specs.declared.Phase.{Phase}
use Rattle.switch_rules.specs.declared.Head.{Head}
use Rattle.control_flow.specs.Greens.{GoesOn, IsLawful, head_at, spliced}
use Rattle.control_flow.specs.declared.greens.Green.{Green}
use Rattle.waits.specs.Waits.{AreIntergreensWithin}

-- a round that begins in second `now` continues a timeline from its head by lawful rows with intergreens within these
pub record IsRound (plan : List Phase) (intergreen : ℕ → ℕ) (now : ℕ) (old new : List Green) : Type 0 where
  pub head : Head
  pub next : List Green
  pub at : head_at plan old now ≡ Some head
  pub goes : GoesOn head next
  pub lawful : IsLawful plan next
  pub intergreens : AreIntergreensWithin intergreen next
  pub line : new ≡ spliced old next

-- `line r` is the timeline before round r, which begins in second `begins r`: the first is lawful with intergreens within these, and each
-- of this many rounds continues it by such rows
pub record AreRounds (plan : List Phase) (intergreen : ℕ → ℕ) (rounds : ℕ) (begins : ℕ → ℕ)
    (line : ℕ → List Green) : Type 0 where
  pub lawful : IsLawful plan (line 0)
  pub intergreens : AreIntergreensWithin intergreen (line 0)
  pub each : (r : ℕ) → r < rounds → IsRound plan intergreen (begins r) (line r) (line (suc r))

-- What rounds keep.
use Rattle.std.proofs.Common.{ℕ, zero, suc, ◌≤◌, List, sym, subst, arith}
use Rattle.phase_plan.specs.Phases.{IsRing}
use Rattle.phase_plan.specs.declared.Phase.{Phase}
use Rattle.control_flow.specs.Greens.{IsContinued, IsLawful, spliced}
use Rattle.control_flow.specs.declared.greens.Green.{Green}
use Rattle.control_flow.proofs.SpliceLaws.{continued}
use Rattle.waits.specs.Rounds.{AreRounds}
use Rattle.waits.specs.Waits.{AreIntergreensWithin}
use Rattle.waits.proofs.Intergreens.{spliced-intergreens}

module _ (plan : List Phase) (p : IsRing plan) (intergreen : ℕ → ℕ) (rounds : ℕ) (begins : ℕ → ℕ) (line : ℕ → List Green) (are : AreRounds plan intergreen rounds begins line) where
  pub kept : (r : ℕ) → r ≤ rounds → IsLawful plan (line r) × AreIntergreensWithin intergreen (line r)
  kept zero few = (are.lawful, are.intergreens)
  kept (suc r) few =
      let before = kept r (omega (arith, few)) in
      let one = are.each r (omega (arith, few)) in
      let new : IsContinued plan (line r) (begins r) one.next (spliced (line r) one.next) = continued plan (line r) (begins r) one.head one.next p before.0 one.at one.lawful one.goes in
      let intergreens : AreIntergreensWithin intergreen (spliced (line r) one.next) = spliced-intergreens plan p.phases intergreen (line r) one.next (begins r) one.head before.0 one.at one.goes before.1 one.intergreens in
      (subst (IsLawful plan) (sym one.line) new.lawful, subst (AreIntergreensWithin intergreen) (sym one.line) intergreens)

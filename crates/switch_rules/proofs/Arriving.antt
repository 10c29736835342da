-- Of two different phases one comes first.
use Rattle.std.proofs.Common.{◌≡◌, ℕ, inl, inr, arith}
use Rattle.switch_rules.specs.Arriving.{ComesFirst}

-- of two different phases not both come first
pub one-first : (a p b q : ℕ) → ComesFirst a p b q → ComesFirst b q a p → p ≡ q
one-first a p b q (inl h) (inl g) = absurd (omega arith)
one-first a p b q (inl h) (inr g) = absurd (omega (arith, g.0))
one-first a p b q (inr h) (inl g) = absurd (omega (arith, h.0))
one-first a p b q (inr h) (inr g) = omega (arith, h.1, g.1)

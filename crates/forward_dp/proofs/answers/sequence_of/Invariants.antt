use Rattle.std.proofs.Common.{◌≡◌, ℕ, ◌-◌, ◌<◌, List, length, take, All}
use Rattle.forward_dp.specs.Numbers.{order_number}
use Rattle.forward_dp.proofs.answers.sequence_of.Given as goal

-- so far it is the front of each sequence with this number
abbrev pub invariant-loop-place : goal.invariant-loop-place
invariant-loop-place l = (s : List ℕ) → length s ≡ l.places → All (λ k. k < 4) s → order_number s ≡ l.order → l.sequence.items ≡ take (l.places - l.place) s

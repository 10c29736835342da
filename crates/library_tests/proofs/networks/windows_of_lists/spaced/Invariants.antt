use Rattle.std.proofs.Common.{◌≡◌, ℕ, ◌+◌, ◌*◌, ◌<◌, length, get_or}
use Rattle.clusters.specs.Windows.{arrivals}
use Rattle.library_tests.proofs.networks.windows_of_lists.spaced.Given as goal

abbrev pub invariant-loop-place : goal.invariant-loop-place
invariant-loop-place l = (length l.list.items ≡ l.place) × ((k : ℕ) → k < l.place → get_or (arrivals l.list.items) k 0 ≡ l.first + l.space * k)

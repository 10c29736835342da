use Rattle.std.proofs.Common.{◌≡◌, All, length}
use Rattle.clusters.specs.Windows.{IsRising}
use Rattle.library_tests.proofs.networks.windows_of_lists.lists_of.Given as goal

abbrev pub invariant-loop-first : goal.invariant-loop-first
invariant-loop-first l = (length l.lists.items ≡ l.first-index) × All IsRising l.lists.items

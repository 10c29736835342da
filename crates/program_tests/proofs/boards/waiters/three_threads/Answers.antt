use Rattle.std.proofs.Common.{◌≡◌, sym, subst}
use Rattle.std.specs.Prelude.{All}
use Rattle.link_boards.proofs.OpenLaws.{all-of-boards}
use Rattle.program_tests.proofs.boards.waiters.three_threads.Goals as goal

pub make_rounds_at_once-requires-clause-passes : goal.make_rounds_at_once-requires-clause-passes
make_rounds_at_once-requires-clause-passes g c =
    let boards = c.in_ok-boards.boards in
    λ κs outlives. subst (All (λ p. p.boards ≡ boards.id)) (sym c.as_mut_slice.ensures.value) (all-of-boards boards c.in_ok-boards.passes.items c.in_ok-boards.ensures.all)

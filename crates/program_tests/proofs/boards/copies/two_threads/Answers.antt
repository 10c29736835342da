use Rattle.std.proofs.Common.{◌≡◌, sym, subst}
use Rattle.std.specs.Prelude.{All}
use Rattle.link_boards.proofs.OpenLaws.{all-of-boards}
use Rattle.snap_boards.specs.Boards.{shared_of}
use Rattle.program_tests.proofs.boards.copies.two_threads.Goals as goal

pub call_at_once-requires-clause-passes : goal.call_at_once-requires-clause-passes
call_at_once-requires-clause-passes g c =
    let boards = c.in_ok-boards.boards in
    λ κs outlives. subst (All (λ p. p.boards ≡ boards.id)) (sym c.as_mut_slice.ensures.value) (all-of-boards (shared_of boards) c.in_ok-boards.passes.items c.in_ok-boards.ensures.all)

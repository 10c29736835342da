use Rattle.net_build.proofs.numbering.yields.Goals as goal

pub returns-in-Some : goal.returns-in-Some
returns-in-Some c = rw c.in-Some.is (rw c.as_slice.ensures at c.numbers.ensures)

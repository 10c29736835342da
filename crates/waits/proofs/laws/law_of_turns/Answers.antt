use Rattle.waits.proofs.Turns.{within}
use Rattle.waits.proofs.laws.law_of_turns.Goals as goal

pub returns : goal.returns
returns c = λ plan p intergreen rows lawful intergreens k below free. within plan p.phases intergreen k below free rows lawful intergreens

use Rattle.std.proofs.Common.{false, get_or, ap, ◌∙◌, arith, get_or-set_other}
use mathlib.Core.Logic.{dite}
use native.Mathlib.Decide.{ℕ_discrete}
use Rattle.link_boards.proofs.CloseLaws.{taken-here}
use Rattle.link_boards.proofs.boards.Boards.take_apart.Goals as goal

pub loop-k-preserved : goal.loop-k-preserved
loop-k-preserved g c =
    let old = c.loop-k.invariant in
    let k = c.loop-k.k in
    let o = c.take.ensures.others in
    record {
      count = o.2 ∙ old.count;
      full = λ j from below. ap (λ l. get_or l j false) o.1 ∙ get_or-set_other _ k j false false (λ same. omega arith) ∙ old.full j (omega arith) below;
      taken = λ j before. ap (λ l. get_or l j false) o.1 ∙ dite (ℕ_discrete j k) (λ same. taken-here _ k j same) (λ other. get_or-set_other _ k j false false other ∙ old.taken j (omega arith));
    }

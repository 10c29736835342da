use Rattle.std.proofs.Common.{rules, ◌≤◌, length, ap, sym, ◌∙◌, subst, arith}
use Rattle.link_boards.specs.Views.{number_of}
use Rattle.link_boards.proofs.TurnLaws.{takes-turn}
use Rattle.link_boards.specs.Slots.{stands_for}
use Rattle.link_boards.proofs.boards.Boards.take.Goals as goal

pub compare_exchange-found-requires : goal.compare_exchange-found-requires
compare_exchange-found-requires g c = let p = c.requires.pass in let same = c.loop.invariant.4 in (
  search rules,
  search rules,
  takes-turn (stands_for g.S.LinkSlot.log g.S.LinkSlot.settled) _ _ _ _ _ _ (search rules)
      (ap (λ m. m.0.flight) same ∙ p.landed)
      (ap (λ m. number_of m.0.entries) same ∙ ap number_of p.own)
      (subst (λ es. 1 ≤ length es) (sym (ap (λ m. m.0.entries) same ∙ p.own)) (omega arith)),
)

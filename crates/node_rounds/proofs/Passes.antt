-- Passes by their places.
use Rattle.std.proofs.Common.{◌≡◌, ℕ, zero, suc, ◌<◌, ◌≤◌, List, [], ◌∷◌, All, length, map, get_or, refl, sym, ap, subst, ◌∙◌, inl, inr, arith}
use Rattle.std.specs.Prelude.{IfSome}
use Rattle.std.proofs.lemmas.Bool.{cases_lt}
use Rattle.std.proofs.lemmas.List.{get_or-map, get_or_past, length-map}
use Rattle.std.proofs.lemmas.Option.{slice_get-get_or, slice_get_past}
use Rattle.atomic_table.specs.Seated.{TableId}
use Rattle.link_boards.specs.Passes.{AreAllPasses, BoardsView, PassView, calls_in, highest, raised}
use Rattle.node_rounds.specs.Rounds.{AreSamePasses}

-- some pass, to read a list by
abbrev pub no_pass : BoardsView → PassView
no_pass boards = record { boards = boards.id; number = 0; left = 0; known = 0; calls = [] }

-- the calls of a pass by its place
pub calls-at : (passes : List PassView) (n : ℕ) (p : PassView) → n < length passes → calls_in passes n ≡ (get_or passes n p).calls
calls-at passes n p inside = get_or-map (λ (q : PassView). q.calls) passes n p [] inside

pub calls-past : (passes : List PassView) (n : ℕ) → length passes ≤ n → calls_in passes n ≡ []
calls-past passes n past = get_or_past (map (λ (q : PassView). q.calls) passes) n [] (omega (arith, length-map passes (λ (q : PassView). q.calls)))

-- passes that know more
pub raised-calls : (h : ℕ) (passes : List PassView) (n : ℕ) → calls_in (map (raised h) passes) n ≡ calls_in passes n
raised-calls h passes n = ap (λ l. get_or l n []) (same passes)
  where
    same : (ps : List PassView) → map (λ (q : PassView). q.calls) (map (raised h) ps) ≡ map (λ (q : PassView). q.calls) ps
    same [] = refl
    same (p ∷ ps) = ap (λ l. p.calls ∷ l) (same ps)

pub raised-names : (h : ℕ) (passes : List PassView) → AreSamePasses passes (map (raised h) passes)
raised-names h [] = refl
raised-names h (p ∷ ps) = ap (λ l. (p.boards, p.number) ∷ l) (raised-names h ps)

pub raised-at : (h : ℕ) (passes : List PassView) (n : ℕ) (p : PassView) → n < length passes → get_or (map (raised h) passes) n p ≡ raised h (get_or passes n p)
raised-at h passes n p inside = get_or-map (raised h) passes n p p inside

pub at-most-highest : (passes : List PassView) (n : ℕ) (p : PassView) → n < length passes → (get_or passes n p).known ≤ highest passes
at-most-highest [] n p inside = absurd (omega arith)
at-most-highest (q ∷ qs) zero p inside = omega arith
at-most-highest (q ∷ qs) (suc n) p inside = (let h = at-most-highest qs n p (omega arith) in omega arith)

-- passes with the same names
pub same-length : (old new : List PassView) → AreSamePasses old new → length new ≡ length old
same-length old new same = sym (length-map new (λ (p : PassView). (p.boards, p.number))) ∙ ap length same ∙ length-map old (λ (p : PassView). (p.boards, p.number))

abbrev IsNamed : BoardsView → ℕ → TableId × ℕ → Type 0
IsNamed boards k name = (name.0 ≡ boards.id) × (name.1 ≡ k)

pub own-at : (boards : BoardsView) (passes : List PassView) (k : ℕ) (p : PassView) → AreAllPasses boards passes → k < length passes → ((get_or passes k p).boards ≡ boards.id) × ((get_or passes k p).number ≡ k)
own-at boards passes k p own inside = subst (λ o. IfSome o (λ (q : PassView). (q.boards ≡ boards.id) × (q.number ≡ k))) (slice_get-get_or passes k p inside) (own.each k)

pub own-same : (boards : BoardsView) (old new : List PassView) → AreSamePasses old new → AreAllPasses boards old → AreAllPasses boards new
own-same boards old new same own = record {
  count = same-length old new same ∙ own.count;
  each = λ k. elim (cases_lt k (length new)) [
    | inl inside ↦
        let p : PassView = no_pass boards in
        let name : (PassView → TableId × ℕ) = λ q. (q.boards, q.number) in
        let there : k < length old = omega (arith, same-length old new same) in
        let e : name (get_or new k p) ≡ name (get_or old k p) = sym (get_or-map name new k p (name p) inside) ∙ ap (λ l. get_or l k (name p)) same ∙ get_or-map name old k p (name p) there in
        let was : IsNamed boards k (name (get_or old k p)) = own-at boards old k p own there in
        let is : IsNamed boards k (name (get_or new k p)) = subst (IsNamed boards k) (sym e) was in
        subst (λ o. IfSome o (λ (q : PassView). (q.boards ≡ boards.id) × (q.number ≡ k))) (sym (slice_get-get_or new k p inside)) is
    | inr past ↦ subst (λ o. IfSome o (λ (q : PassView). (q.boards ≡ boards.id) × (q.number ≡ k))) (sym (slice_get_past new k past)) tt
  ];
}

pub all-boards : (boards : BoardsView) (passes : List PassView) → AreAllPasses boards passes → All (λ (p : PassView). p.boards ≡ boards.id) passes
all-boards boards passes own k p inside = (own-at boards passes k p own inside).0

-- Lists of passes: what all know together, and which have ended.
use Rattle.std.proofs.Common.{◌≡◌, ℕ, zero, suc, ◌+◌, ◌<◌, ◌≤◌, max, List, [], ◌∷◌, ◌++◌, map, length, get_or, set, take, drop, sym, refl, ap, ◌∙◌, subst, arith}
use Rattle.std.specs.Prelude.{Some, IfSome, slice_get}
use mathlib.Core.Logic.{dite}
use native.Mathlib.Decide.{ℕ_discrete}
use Rattle.link_boards.specs.declared.views.Entry.{Entry}
use Rattle.link_boards.specs.Views.{entry}
use Rattle.link_boards.specs.Passes.{PassView, highest}
use Rattle.link_boards.specs.Gathered.{Has}
use Rattle.link_boards.proofs.CloseLaws.{some-weaker, has-left, has-last}

step-suc : (ps : List PassView) (k : ℕ) (p d : PassView) → k < length ps → p ≡ get_or ps k d → max (highest (take k ps)) p.known ≡ highest (take (suc k) ps)
step-suc [] k p d within is = absurd (omega arith)
step-suc (x ∷ xs) zero p d within is = let same : p.known ≡ x.known = ap (λ (q : PassView). q.known) is in omega arith
step-suc (x ∷ xs) (suc k) p d within is = let r : max (highest (take k xs)) p.known ≡ highest (take (suc k) xs) = step-suc xs k p d (omega arith) is in omega arith

-- what is known after one pass more
pub highest-step : (ps : List PassView) (k : ℕ) (p d : PassView) → k < length ps → p ≡ get_or ps k d → max (highest (take k ps)) p.known ≡ highest (take (k + 1) ps)
highest-step ps k p d within is = let next : suc k ≡ k + 1 = omega arith in step-suc ps k p d within is ∙ ap (λ n. highest (take n ps)) next

module _ (f : PassView → PassView) where
  abbrev pub partly : List PassView → ℕ → List PassView
  partly ps k = map f (take k ps) ++ drop k ps

  -- the next pass is as it was
  pub partly-get : (ps : List PassView) (k : ℕ) (d : PassView) → get_or (partly ps k) k d ≡ get_or ps k d
  partly-get [] zero d = refl
  partly-get [] (suc k) d = refl
  partly-get (x ∷ xs) zero d = refl
  partly-get (x ∷ xs) (suc k) d = partly-get xs k d

  partly-suc : (ps : List PassView) (k : ℕ) (p d : PassView) → k < length ps → p ≡ get_or ps k d → set (partly ps k) k (f p) ≡ partly ps (suc k)
  partly-suc [] k p d within is = absurd (omega arith)
  partly-suc (x ∷ xs) zero p d within is = ap (λ q. f q ∷ xs) is
  partly-suc (x ∷ xs) (suc k) p d within is = ap (λ l. f x ∷ l) (partly-suc xs k p d (omega arith) is)

  pub partly-step : (ps : List PassView) (k : ℕ) (p d : PassView) → k < length ps → p ≡ get_or ps k d → set (partly ps k) k (f p) ≡ partly ps (k + 1)
  partly-step ps k p d within is = let next : suc k ≡ k + 1 = omega arith in partly-suc ps k p d within is ∙ ap (partly ps) next

-- the pass after those before it
pub at-middle : (new rest : List PassView) (p : PassView) → slice_get (new ++ p ∷ rest) (length new) ≡ Some p
at-middle [] rest p = refl
at-middle (x ∷ xs) rest p = at-middle xs rest p

-- the entries with those of one pass more
pub gathers : (init new rest : List PassView) (p : PassView) (es es' : List Entry) → init ≡ new ++ p ∷ rest → ((k : ℕ) → length new + 1 ≤ k → IfSome (slice_get init k) (λ q. Has es (entry k q.calls)))
    → es' ≡ es ++ entry (length new) p.calls ∷ [] → (k : ℕ) → length new ≤ k → IfSome (slice_get init k) (λ q. Has es' (entry k q.calls))
gathers init new rest p es es' is old more k from = dite (ℕ_discrete k (length new))
    (λ here. subst (λ o. IfSome o (λ q. Has es' (entry k q.calls))) (sym (ap (slice_get init) here ∙ ap (λ l. slice_get l (length new)) is ∙ at-middle new rest p))
    (subst (λ l. Has l (entry k p.calls)) (sym (more ∙ ap (λ n. es ++ entry n p.calls ∷ []) (sym here))) (has-last es (entry k p.calls))))
    (λ other. some-weaker (slice_get init k) (λ q. Has es (entry k q.calls)) (λ q. Has es' (entry k q.calls)) (old k (omega arith))
    (λ q has. subst (λ l. Has l (entry k q.calls)) (sym more) (has-left es (entry (length new) p.calls ∷ []) (entry k q.calls) has)))

-- A function of rounds and nodes, changed at one of them.
use Rattle.std.proofs.Common.{◌≡◌, ℕ, cond, eqb, Bool, true, false, refl, ap, ◌∙◌, eq-eqb, ne_eqb}

module _ {A : Type 0} (f : ℕ → ℕ → A) (round node : ℕ) (x : A) where
  abbrev pub put : ℕ → ℕ → A
  put r n = cond (eqb r round) (cond (eqb n node) x (f r n)) (f r n)

  pub put-here : put round node ≡ x
  put-here = ap (λ b. cond b (cond (eqb node node) x (f round node)) (f round node)) (eq-eqb round round refl) ∙ ap (λ b. cond b x (f round node)) (eq-eqb node node refl)

  pub put-round : (r n : ℕ) → (r ≡ round → ⊥) → put r n ≡ f r n
  put-round r n other = ap (λ b. cond b (cond (eqb n node) x (f r n)) (f r n)) (ne_eqb r round other)

  pub put-node : (r n : ℕ) → (n ≡ node → ⊥) → put r n ≡ f r n
  put-node r n other = ap (λ b. cond (eqb r round) (cond b x (f r n)) (f r n)) (ne_eqb n node other) ∙ both (eqb r round)
    where
      both : (b : Bool) → cond b (f r n) (f r n) ≡ f r n
      both true = refl
      both false = refl

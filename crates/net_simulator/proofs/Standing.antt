-- For how long a queue has stood.
use Rattle.std.proofs.Common.{◌≡◌, ℕ, zero, suc, ◌+◌, ◌≤◌, ltb, refl, sym, ap, ◌∙◌, add-one, arith}
use Rattle.std.proofs.lemmas.Bool.{cond_both}
use Rattle.net_parts.specs.Numbers.{Net}
use Rattle.net_simulator.specs.Flow.{Cumulative, queue}
use Rattle.net_simulator.specs.Senses.{stood}
use Rattle.net_simulator.specs.LinkSeconds.{stands_on}

pub stood-none : (net : Net) (past : ℕ → ℕ → Cumulative) (l : ℕ) → stood net past 0 l ≡ 0
unfolding stood
stood-none net past l = refl

pub stood-next : (net : Net) (past : ℕ → ℕ → Cumulative) (n l : ℕ) → stood net past (n + 1) l ≡ stands_on (queue net past (n + 1) l) (stood net past n l)
unfolding stood
stood-next net past n l = ap (λ k. stood net past k l) (add-one n) ∙ ap (λ k. stands_on (queue net past k l) (stood net past n l)) (sym (add-one n))

-- for no more seconds than there were
pub stood-most : (net : Net) (past : ℕ → ℕ → Cumulative) (n l : ℕ) → stood net past n l ≤ n
unfolding stood
stood-most net past zero l = omega arith
stood-most net past (suc n) l =
    let before = stood-most net past n l in
    cond_both (ltb 0 (queue net past (suc n) l)) (stood net past n l + 1) 0 (λ s. s ≤ suc n) (λ e. omega (arith, before)) (λ e. omega arith)

-- only the queues of these seconds count
pub stood-kept : (net : Net) (past other : ℕ → ℕ → Cumulative) (n l : ℕ) → ((k : ℕ) → k ≤ n → queue net past k l ≡ queue net other k l) → stood net past n l ≡ stood net other n l
unfolding stood
stood-kept net past other zero l same = refl
stood-kept net past other (suc n) l same =
    ap (λ q. stands_on q (stood net past n l)) (same (suc n) (omega arith)) ∙ ap (stands_on (queue net other (suc n) l)) (stood-kept net past other n l (λ k h. same k (omega arith)))

-- How the past of a network grows.
use Rattle.std.proofs.Common.{◌≡◌, ℕ, suc, ◌+◌, ◌<◌, ◌≤◌, length, refl, sym, ◌∙◌}
use Rattle.net_parts.specs.Numbers.{Net}
use Rattle.control_flow.specs.declared.greens.Sign.{Sign}
use Rattle.net_simulator.specs.Flow.{nothing, passed_in, passing, history, cumulative_under}
use Rattle.net_simulator.specs.Moves.{history_by}
use Rattle.net_simulator.proofs.LightLaws.{AreAlike, alike-shown, discharge-same}
use Rattle.net_simulator.proofs.MoveLaws.{flowing, same-history, kept-by, next-by, none-by, by-same}

module _ (net : Net) (arriving : ℕ → ℕ → ℕ) (shown : ℕ → ℕ → Sign) where
  -- a further second leaves the past as it was
  pub past-kept : (x n l : ℕ) → n ≤ x → cumulative_under net arriving shown (suc x) n l ≡ cumulative_under net arriving shown x n l
  past-kept x n l h = rw (same-history net arriving shown (suc x), same-history net arriving shown x) (kept-by net (flowing net arriving shown) x n l h)

  -- and adds what passes in it
  pub past-next : (x l : ℕ) → l < length net.link_names → cumulative_under net arriving shown (suc x) (x + 1) l ≡ passing net (arriving x) shown (cumulative_under net arriving shown x) x l
  past-next x l h = rw (same-history net arriving shown (suc x), same-history net arriving shown x) (next-by net (flowing net arriving shown) x l h)

  -- at first nothing has passed
  pub past-none : (now l : ℕ) → cumulative_under net arriving shown now 0 l ≡ nothing
  past-none now l = rw (same-history net arriving shown now) (none-by net (flowing net arriving shown) now l)

-- signs under which the links are green alike move the world alike
pub history-alike : (net : Net) (arriving : ℕ → ℕ → ℕ) (shown seen : ℕ → ℕ → Sign) (n : ℕ) → AreAlike net n shown seen → history net arriving shown n ≡ history net arriving seen n
history-alike net arriving shown seen n alike =
    same-history net arriving shown n
    ∙ by-same net (flowing net arriving shown) (flowing net arriving seen) n (λ x h. record { goes = λ l b. discharge-same net n shown seen alike (passed_in (history_by net (flowing net arriving seen) x)) x l h; comes = λ l b. refl })
    ∙ sym (same-history net arriving seen n)

-- only what is shown and what arrives in the seconds below n counts for the first n seconds
pub history-same : (net : Net) (arriving others : ℕ → ℕ → ℕ) (shown seen : ℕ → ℕ → Sign) (n : ℕ)
    → ((x l : ℕ) → x < n → arriving x l ≡ others x l) → ((x node : ℕ) → x < n → shown x node ≡ seen x node)
    → history net arriving shown n ≡ history net others seen n
history-same net arriving others shown seen n a s =
    same-history net arriving shown n
    ∙ by-same net (flowing net arriving shown) (flowing net others seen) n (λ x h. record { goes = λ l b. discharge-same net n shown seen (alike-shown net n shown seen (λ y k node less to. s y node less)) (passed_in (history_by net (flowing net others seen) x)) x l h; comes = λ l b. a x l h })
    ∙ sym (same-history net others seen n)

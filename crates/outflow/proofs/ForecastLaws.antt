-- The rows of a forecast are those of what comes.
use Rattle.std.proofs.Common.{◌≡◌, ℕ, zero, suc, ◌+◌, ◌-◌, ◌<◌, ◌≤◌, List, ◌∷◌, ◌++◌, All, Contains, length, get_or, refl, sym, ap, subst, ◌∙◌, inl, inr, arith}
use Rattle.std.specs.List.{range_with_len}
use Rattle.std.proofs.lemmas.List.Elements.{All-cons, All-contains}
use Rattle.std.proofs.lemmas.Bool.{cases_lt, cond_below, cond_above}
use Rattle.board_model.specs.declared.forecasts.Row.{Row}
use Rattle.net_parts.specs.Numbers.{Net}
use Rattle.net_parts.specs.Outline.{link_at}
use Rattle.road_net.specs.Network.{IsNetwork, exit_links}
use Rattle.clusters.proofs.ListLaws.{range-append}
use Rattle.outflow.specs.Outflow.{Departure, coming_in, told_forecast, positive_rows}
use Rattle.outflow.specs.Steps.{AreArriving}
use Rattle.outflow.proofs.RowLaws.{positive-append, positive-none, positive-same}

pub exit-there : (net : Net) (node exit : ℕ) (exits : List ℕ) → IsNetwork net → All (λ l. l < length net.links) exits → exits ≡ exit_links net node → Contains (exit_links net node) exit
    → exit < length net.link_names
exit-there net node exit exits h all e has =
    let P : List ℕ → Type 0 = All (λ l. l < length net.links) in
    omega (arith, All-contains (λ l. l < length net.links) (exit_links net node) exit (subst P e all) has, h.outline.road_count)

pub forecast-made : (net : Net) (exit now : ℕ) (leave : List Departure) (amounts : List ℕ) → AreArriving net exit now leave amounts
    → positive_rows (λ d. get_or amounts (d - now) 0) (range_with_len now (length amounts)) ≡ told_forecast net exit now leave
unfolding told_forecast
forecast-made net exit now leave amounts h =
    let f : ℕ → ℕ = coming_in net exit leave in
    let start : 0 + now ≡ now = omega arith in
    ap (λ n. positive_rows (λ d. get_or amounts (d - now) 0) (range_with_len now n)) h.count
    ∙ positive-same (λ d. get_or amounts (d - now) 0) (coming_in net exit leave) now net.run.look
    (λ d lo hi. let back : now + (d - now) ≡ d = omega arith in h.value (d - now) (omega arith) ∙ ap (coming_in net exit leave) back)
    ∙ sym (
    ap (positive_rows (coming_in net exit leave)) (range-append 0 now net.run.look)
    ∙ positive-append (coming_in net exit leave) (range_with_len 0 now) (range_with_len (0 + now) net.run.look)
    ∙ ap (λ rs. rs ++ positive_rows (coming_in net exit leave) (range_with_len (0 + now) net.run.look)) (positive-none (coming_in net exit leave) 0 now (λ d lo hi. h.early d (omega arith)))
    ∙ ap (λ a. positive_rows (coming_in net exit leave) (range_with_len a net.run.look)) start)

pub positive-later : (f : ℕ → ℕ) (a n low : ℕ) → ((d : ℕ) → d < low → f d ≡ 0) → All (λ row. low ≤ row.second) (positive_rows f (range_with_len a n))
positive-later f a zero low h = λ k d lt. absurd (omega arith)
positive-later f a (suc n) low h = elim (cases_lt 0 (f a)) [
  | inl some ↦
      let P : List Row → Type 0 = All (λ row. low ≤ row.second) in
      let late : low ≤ a = elim (cases_lt a low) [
        | inl early ↦ absurd (let e : f a ≡ 0 = h a early in omega (arith, e))
        | inr fine ↦ fine
      ] in
      subst P (cond_below 0 (f a) (record { second = a; amount = f a } ∷ positive_rows f (range_with_len (a + 1) n)) (positive_rows f (range_with_len (a + 1) n)) some)
      (All-cons (λ (row : Row). low ≤ row.second) (record { second = a; amount = f a }) (positive_rows f (range_with_len (a + 1) n)) late (positive-later f (a + 1) n low h))
  | inr none ↦
      let P : List Row → Type 0 = All (λ row. low ≤ row.second) in
      subst P (cond_above 0 (f a) (record { second = a; amount = f a } ∷ positive_rows f (range_with_len (a + 1) n)) (positive_rows f (range_with_len (a + 1) n)) _ none refl)
      (positive-later f (a + 1) n low h)
]

pub forecast-later : (net : Net) (exit now : ℕ) (leave : List Departure) (amounts : List ℕ) → AreArriving net exit now leave amounts
    → All (λ row. now + (link_at net exit).travel ≤ row.second) (told_forecast net exit now leave)
unfolding told_forecast
forecast-later net exit now leave amounts h = positive-later (coming_in net exit leave) 0 (now + net.run.look) (now + (link_at net exit).travel) h.early

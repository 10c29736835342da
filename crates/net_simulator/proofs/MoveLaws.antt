-- How a past grows by what moves in each second, whatever the rule of that is.
use Rattle.std.proofs.Common.{◌≡◌, ℕ, zero, suc, ◌+◌, ◌<◌, ◌≤◌, List, [], ◌∷◌, ◌++◌, length, get_or, map, refl, sym, ap, ◌∙◌, arith, length-append}
use Rattle.std.specs.List.{range_with_len}
use Rattle.std.proofs.Math.ListN.{get_or-append}
use Rattle.std.proofs.Math.Seq.{get_or-append_seam}
use Rattle.std.proofs.lemmas.List.FromFn.{get_or-map-range_with_len}
use Rattle.net_parts.specs.Numbers.{Net}
use Rattle.net_parts.specs.Outline.{turns_at}
use Rattle.road_net.specs.Joins.{split_of}
use Rattle.road_net.proofs.TotalLaws.{total-same}
use Rattle.net_simulator.specs.Flow.{Cumulative, nothing, passed_in, discharge, history}
use Rattle.net_simulator.specs.Moves.{Moves, moved, history_by}
use Rattle.net_simulator.proofs.Sums.{range-same}
use Rattle.control_flow.specs.declared.greens.Sign.{Sign}

-- what moves in a second, where each link discharges into links that take whatever enters, and all that arrives enters
abbrev pub flowing : Net → (ℕ → ℕ → ℕ) → (ℕ → ℕ → Sign) → List (List Cumulative) → ℕ → Moves
flowing net arriving shown before x = record { goes = discharge net shown (passed_in before) x; comes = arriving x }

-- the world of these moves is the world that stands
pub same-history : (net : Net) (arriving : ℕ → ℕ → ℕ) (shown : ℕ → ℕ → Sign) (n : ℕ) → history net arriving shown n ≡ history_by net (flowing net arriving shown) n
unfolding history history_by
same-history net arriving shown zero = refl
same-history net arriving shown (suc x) = rw (same-history net arriving shown x) refl

-- the same moves on the links of a network
pub record MoveAlike (net : Net) (m k : Moves) : Type 0 where
  pub goes : (l : ℕ) → l < length net.link_names → m.goes l ≡ k.goes l
  pub comes : (l : ℕ) → l < length net.link_names → m.comes l ≡ k.comes l

moved-alike : (net : Net) (m k : Moves) (past : ℕ → ℕ → Cumulative) (x : ℕ) → MoveAlike net m k → (l : ℕ) → l < length net.link_names → moved net m past x l ≡ moved net k past x l
moved-alike net m k past x alike l inside =
    let parts = total-same (λ j. split_of (turns_at net j) (m.goes j) l) (λ j. split_of (turns_at net j) (k.goes j) l) (length net.link_names) (λ j h. ap (λ a. split_of (turns_at net j) a l) (alike.goes j h)) in
    let entered : (moved net m past x l).entered ≡ (moved net k past x l).entered = omega (arith, alike.comes l inside, parts) in
    let left : (moved net m past x l).left ≡ (moved net k past x l).left = ap (λ a. (past x l).left + a) (alike.goes l inside) in
    λ i. record { entered = entered i; left = left i }

module _ (net : Net) (rule : List (List Cumulative) → ℕ → Moves) where
  -- what passed each link in the first n seconds, for n up to `now`
  abbrev pub cumulative_by : ℕ → ℕ → ℕ → Cumulative
  cumulative_by now = passed_in (history_by net rule now)

  -- what moves in a second
  abbrev pub moves_by : ℕ → Moves
  moves_by x = rule (history_by net rule x) x

  abbrev row : ℕ → List Cumulative
  row x = map (moved net (moves_by x) (cumulative_by x) x) (range_with_len 0 (length net.link_names))

  -- there is one row more than seconds
  pub length-by : (n : ℕ) → length (history_by net rule n) ≡ n + 1
  unfolding history_by
  length-by zero = omega arith
  length-by (suc x) = omega (arith, length-by x, length-append (history_by net rule x) (row x ∷ []))

  -- a further second leaves the past as it was
  pub kept-by : (x n l : ℕ) → n ≤ x → cumulative_by (suc x) n l ≡ cumulative_by x n l
  unfolding history_by
  kept-by x n l h =
      let inside : n < length (history_by net rule x) = omega (arith, length-by x) in
      ap (λ r. get_or r l nothing) (get_or-append (history_by net rule x) (row x ∷ []) [] n inside)

  -- and adds what moves in it
  pub next-by : (x l : ℕ) → l < length net.link_names → cumulative_by (suc x) (x + 1) l ≡ moved net (moves_by x) (cumulative_by x) x l
  unfolding history_by
  next-by x l h =
      let at : get_or (history_by net rule x ++ row x ∷ []) (x + 1) [] ≡ row x = ap (λ i. get_or (history_by net rule x ++ row x ∷ []) i []) (sym (length-by x)) ∙ get_or-append_seam (history_by net rule x) (row x) [] [] in
      ap (λ r. get_or r l nothing) at ∙ get_or-map-range_with_len (moved net (moves_by x) (cumulative_by x) x) 0 (length net.link_names) l l nothing h (omega arith)

  -- at first nothing has passed
  pub none-by : (now l : ℕ) → cumulative_by now 0 l ≡ nothing
  unfolding history_by
  none-by zero l = refl
  none-by (suc x) l = kept-by x 0 l (omega arith) ∙ none-by x l

  -- before the first second nothing has passed
  pub zero-by : (n l : ℕ) → cumulative_by 0 n l ≡ nothing
  unfolding history_by
  zero-by zero l = refl
  zero-by (suc n) l = refl

-- only what moves in the seconds below n counts for the first n seconds
pub by-same : (net : Net) (rule other : List (List Cumulative) → ℕ → Moves) (n : ℕ) → ((x : ℕ) → x < n → MoveAlike net (rule (history_by net other x) x) (other (history_by net other x) x)) → history_by net rule n ≡ history_by net other n
unfolding history_by
by-same net rule other zero same = refl
by-same net rule other (suc x) same =
    let H : List (List Cumulative) = history_by net other x in
    let before = by-same net rule other x (λ y h. same y (omega arith)) in
    let here = range-same (moved net (rule H x) (passed_in H) x) (moved net (other H x) (passed_in H) x) (length net.link_names) (moved-alike net (rule H x) (other H x) (passed_in H) x (same x (omega arith))) in
    ap (λ (h : List (List Cumulative)). h ++ map (moved net (rule h x) (passed_in h) x) (range_with_len 0 (length net.link_names)) ∷ []) before ∙ ap (λ (r : List Cumulative). H ++ r ∷ []) here

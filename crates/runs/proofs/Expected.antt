-- What a node expects is one: a series is cut in one way, and one front is the longest that can be planned.
use Rattle.std.proofs.Common.{◌≡◌, ℕ, zero, suc, ◌+◌, ◌-◌, ◌*◌, ◌<◌, ◌≤◌, List, [], ◌∷◌, ◌++◌, All, length, map, get_or, take, sum, refl, sym, ap, subst, ◌∙◌, inl, inr, arith, length-append, append-nil}
use Rattle.std.specs.Prelude.{◌⊎◌}
use Rattle.std.specs.List.{concat}
use Rattle.std.proofs.Math.Seq.{take-append_seam}
use Rattle.std.proofs.lemmas.Bool.{cases_lt}
use Rattle.std.proofs.lemmas.List.{ext_get_or, get_or_append_left, get_or_at, length-map}
use Rattle.std.proofs.lemmas.List.Elements.{All-head, All-tail}
use Rattle.std.proofs.lemmas.List.Sums.{sum_by-cons}
use Rattle.board_model.specs.declared.boards.Heard.{Heard}
use Rattle.clusters.specs.Cuts.{CannotJoin, IsRun, first_of, last_of, peak, run_at}
use Rattle.clusters.specs.Platoons.{ArePlatoonsBy, platoon_of, platoons_at, together}
use Rattle.clusters.specs.Options.{AreExpected, AreExpectedIn, with_hold}
use Rattle.clusters.specs.Windows.{IsLongest, IsWindow, counts_of}
use Rattle.clusters.specs.declared.vehicle_groups.Part.{Part}
use Rattle.clusters.specs.declared.vehicle_groups.Platoon.{Platoon}
use Rattle.clusters.specs.declared.vehicle_groups.Window.{Window}
use Rattle.clusters.proofs.RunLaws.{Rise, filled-rise, rise-last, rise-left, rise-right}
use Rattle.clusters.proofs.WindowLaws.{front-within, sum-grows}
use Rattle.histories.proofs.Counts.{cuts}
use Rattle.net_parts.specs.Numbers.{Net}
use Rattle.road_net.specs.declared.senses.Sensed.{Sensed}
use Rattle.switch_rules.specs.declared.Head.{Head}

module _ (gap rate : ℕ) (span : ℕ → ℕ) (series : List ℕ) where
  -- a run within the span of its first second, and what could not have joined it
  abbrev Fits : List ℕ → Type 0
  Fits run = IsRun gap rate (span (first_of run)) series run

  abbrev StaysOut : List ℕ → ℕ → Type 0
  StaysOut run = CannotJoin gap rate (span (first_of run)) series run

  -- a second that could not have joined a run is in no longer one
  longer : (run zs : List ℕ) (z : ℕ) → Fits run → Fits (run ++ z ∷ zs) → Rise (run ++ z ∷ zs) → StaysOut run z → ⊥
  longer run zs z one other up cannot =
      let some : 1 ≤ length run = one.some in
      let long : length (run ++ z ∷ zs) ≡ length run + suc (length zs) = length-append run (z ∷ zs) in
      let here : get_or (run ++ z ∷ zs) (length run) 0 ≡ z = get_or_at run z zs 0 (length run) refl in
      let before : get_or (run ++ z ∷ zs) (length run - 1) 0 ≡ last_of run = get_or_append_left run (z ∷ zs) 0 (length run - 1) (omega arith) in
      let first : first_of (run ++ z ∷ zs) ≡ first_of run = get_or_append_left run (z ∷ zs) 0 0 (omega arith) in
      let wide : span (first_of (run ++ z ∷ zs)) ≡ span (first_of run) = ap span first in
      let next : get_or (run ++ z ∷ zs) (length run - 1 + 1) 0 ≡ z = ap (λ k. get_or (run ++ z ∷ zs) k 0) (let e : length run - 1 + 1 ≡ length run = omega arith in e) ∙ here in
      elim cannot [
        | inl far ↦ omega (arith, far, other.near (length run - 1) (omega arith), next, before)
        | inr (inl past) ↦ omega (arith, past, other.span, first, wide, rise-last (run ++ z ∷ zs) (length run) up (omega arith), here)
        | inr (inr below) ↦
            let at : length run - 1 + 1 ≡ length run = omega arith in
            let taken : take (length run - 1 + 1) (run ++ z ∷ zs) ≡ run = ap (λ n. take n (run ++ z ∷ zs)) at ∙ take-append_seam run (z ∷ zs) in
            omega (arith, below, other.flows (length run - 1) (omega arith), ap (λ r. rate * peak series r) taken, ap (λ y. get_or series y 0) next)
      ]

  abbrev Apart : List (List ℕ) → Type 0
  Apart runs = (k : ℕ) → k + 1 < length runs → StaysOut (run_at runs k) (first_of (run_at runs (k + 1)))

  abbrev Runs : List (List ℕ) → Type 0
  Runs runs = All Fits runs × Apart runs

  behind : (run : List ℕ) (runs : List (List ℕ)) → Apart (run ∷ runs) → Apart runs
  behind run runs apart k inside =
      let e : suc k + 1 ≡ suc (k + 1) = omega arith in
      subst (λ j. StaysOut (run_at runs k) (first_of (run_at (run ∷ runs) j))) e (apart (suc k) (omega arith))

  -- so a run is no part of a longer one that is cut off from the same seconds
  no-longer : (run : List ℕ) (runs : List (List ℕ)) (z : ℕ) (zs rest : List ℕ) → Runs (run ∷ runs) → concat runs ≡ (z ∷ zs) ++ rest → Fits (run ++ z ∷ zs) → Rise (run ++ z ∷ zs) → ⊥
  no-longer run [] z zs rest are e other up = omega (arith, ap length e)
  no-longer run ([] ∷ runs) z zs rest are e other up = (let some = (All-head Fits [] runs (All-tail Fits run ([] ∷ runs) are.0)).some in omega arith)
  no-longer run ((w ∷ ws) ∷ runs) z zs rest are e other up =
      let same : w ≡ z = (let f : w ∷ (ws ++ concat runs) ≡ z ∷ (zs ++ rest) = e in cc) in
      longer run zs z (All-head Fits run ((w ∷ ws) ∷ runs) are.0) other up (subst (StaysOut run) same (are.1 0 (omega arith)))

  same-cut : (a b : List (List ℕ)) → concat a ≡ concat b → Rise (concat a) → Runs a → Runs b → a ≡ b
  same-cut [] [] e up x y = refl
  same-cut [] (q ∷ qs) e up x y = absurd (let some = (All-head Fits q qs y.0).some in omega (arith, ap length e, length-append q (concat qs)))
  same-cut (r ∷ rs) [] e up x y = absurd (let some = (All-head Fits r rs x.0).some in omega (arith, ap length e, length-append r (concat rs)))
  same-cut (r ∷ rs) (q ∷ qs) e up x y = elim (cuts r (concat rs) q (concat qs) e) [
    | inl g ↦ first (same-cut rs qs) g.0 g.1 g.2
    | inr g ↦ second (same-cut rs qs) g.0 g.1 g.2
  ]
    where
      right : Rise (q ++ concat qs)
      right = subst Rise e up

      both : (concat rs ≡ concat qs → Rise (concat rs) → Runs rs → Runs qs → rs ≡ qs) → r ≡ q → concat rs ≡ concat qs → r ∷ rs ≡ q ∷ qs
      both others same rest = ap (λ l. l ∷ rs) same ∙ ap (λ l. q ∷ l) (others rest (rise-right r (concat rs) up) (All-tail Fits r rs x.0, behind r rs x.1) (All-tail Fits q qs y.0, behind q qs y.1))

      first : (concat rs ≡ concat qs → Rise (concat rs) → Runs rs → Runs qs → rs ≡ qs) → (zs : List ℕ) → q ≡ r ++ zs → concat rs ≡ zs ++ concat qs → r ∷ rs ≡ q ∷ qs
      first others [] s t = both others (sym (s ∙ append-nil r)) t
      first others (z ∷ zs) s t = absurd (no-longer r rs z zs (concat qs) x t (subst Fits s (All-head Fits q qs y.0)) (subst Rise s (rise-left q (concat qs) right)))

      second : (concat rs ≡ concat qs → Rise (concat rs) → Runs rs → Runs qs → rs ≡ qs) → (zs : List ℕ) → r ≡ q ++ zs → concat qs ≡ zs ++ concat rs → r ∷ rs ≡ q ∷ qs
      second others [] s t = both others (s ∙ append-nil q) (sym t)
      second others (z ∷ zs) s t = absurd (no-longer q qs z zs (concat rs) y t (subst Fits s (All-head Fits r rs x.0)) (subst Rise s (rise-left r (concat rs) up)))

same-platoons : (load : Part → ℕ) (gap rate : ℕ) (span : ℕ → ℕ) (now look : ℕ) (streams : List Part) (a b : List Platoon) → ArePlatoonsBy load gap rate span now look streams a → ArePlatoonsBy load gap rate span now look streams b → a ≡ b
same-platoons load gap rate span now look streams a b h g =
    h.each
    ∙ ap (map (platoon_of load now streams)) (same-cut gap rate span (together streams look) h.runs g.runs (h.cut.all ∙ sym g.cut.all) (subst Rise (sym h.cut.all) (filled-rise (together streams look))) (h.cut.each, h.cut.apart) (g.cut.each, g.cut.apart))
    ∙ sym g.each

same-expected : (net : Net) (node : ℕ) (head : Head) (sensed : Sensed) (k : ℕ) (streams : List Part) (a b : List Platoon) → AreExpectedIn net node head sensed k streams a → AreExpectedIn net node head sensed k streams b → a ≡ b
same-expected net node head sensed k streams a b h g = h.held ∙ ap (with_hold net head k) (same-platoons _ _ _ _ _ _ _ _ _ h.are g.are) ∙ sym g.held

-- the platoons of a node with a head are one
pub one-expected : (net : Net) (node : ℕ) (head : Head) (sensed : Sensed) (heard : List Heard) (a b : List (List Platoon)) → AreExpected net node head sensed heard a → AreExpected net node head sensed heard b → a ≡ b
one-expected net node head sensed heard a b h g = ext_get_or [] a b (h.count ∙ sym g.count) (λ k inside. same-expected net node head sensed k _ _ _ (h.each k inside) (g.each k (omega (arith, h.count, g.count))))

-- counts that are no more than others anywhere, and as many in all, are the same
same-counts : (a b : List ℕ) → length a ≡ length b → ((k : ℕ) → get_or a k 0 ≤ get_or b k 0) → sum b ≤ sum a → a ≡ b
same-counts [] [] e h all = refl
same-counts [] (y ∷ b) e h all = absurd (omega arith)
same-counts (x ∷ a) [] e h all = absurd (omega arith)
same-counts (x ∷ a) (y ∷ b) e h all =
    let one = sum_by-cons (λ n. n) x a in
    let two = sum_by-cons (λ n. n) y b in
    let least : x ≤ y = h 0 in
    let grows : sum a ≤ sum b = sum-grows a b (omega arith) (λ k. h (suc k)) in
    let same : x ≡ y = omega arith in
    ap (λ (n : ℕ). n ∷ a) same ∙ ap (λ l. y ∷ l) (same-counts a b (omega arith) (λ k. h (suc k)) (omega arith))

-- of two lists of counts one is no more anywhere, or is more somewhere
no-more-or-more : (a b : List ℕ) → ((k : ℕ) → get_or a k 0 ≤ get_or b k 0) ⊎ ((q : ℕ) × (get_or b q 0 < get_or a q 0))
no-more-or-more [] b = inl (λ k. omega arith)
no-more-or-more (x ∷ a) [] = elim (no-more-or-more a []) [
  | inr more ↦ inr (suc more.0, more.1)
  | inl none ↦ elim (cases_lt 0 x) [
    | inl some ↦ inr (0, some)
    | inr least ↦ inl (λ k. by none least k)
  ]
]
  where
    by : ((k : ℕ) → get_or a k 0 ≤ get_or [] k 0) → x ≤ 0 → (k : ℕ) → get_or (x ∷ a) k 0 ≤ get_or [] k 0
    by none least zero = least
    by none least (suc k) = none k
no-more-or-more (x ∷ a) (y ∷ b) = elim (no-more-or-more a b) [
  | inr more ↦ inr (suc more.0, more.1)
  | inl none ↦ elim (cases_lt y x) [
    | inl some ↦ inr (0, some)
    | inr least ↦ inl (λ k. by none least k)
  ]
]
  where
    by : ((k : ℕ) → get_or a k 0 ≤ get_or b k 0) → x ≤ y → (k : ℕ) → get_or (x ∷ a) k 0 ≤ get_or (y ∷ b) k 0
    by none least zero = least
    by none least (suc k) = none k

one-longest : (lists : List (List Platoon)) (a b : List ℕ) → IsLongest lists a → IsLongest lists b → a ≡ b
one-longest lists a b h g =
    let long : length a ≡ length b = h.front.phases ∙ sym g.front.phases in
    elim (no-more-or-more a b) [
      | inl none ↦ same-counts a b long none (h.longest b g.front g.small)
      | inr more ↦ sym (same-counts b a (sym long) (front-within lists b a more.0 g.front h.front more.1) (g.longest a h.front h.small))
    ]

-- and the window is one
pub one-window : (lists : List (List Platoon)) (a b : Window) → IsWindow lists a → IsWindow lists b → a ≡ b
one-window lists a b h g =
    let counts : counts_of a.lists ≡ counts_of b.lists = one-longest lists (counts_of a.lists) (counts_of b.lists) h.longest g.longest in
    let long : length a.lists ≡ length b.lists = sym (length-map a.lists length) ∙ ap length counts ∙ length-map b.lists length in
    let taken : a.lists ≡ b.lists = ext_get_or [] a.lists b.lists long (λ k inside. h.taken k ∙ ap (λ c. take (get_or c k 0) (platoons_at lists k)) counts ∙ sym (g.taken k)) in
    let waiting : a.waiting ≡ b.waiting = omega (arith, h.waiting, g.waiting, ap sum counts) in
    λ i. record { lists = taken i; waiting = waiting i }

-- One second of the code is one second of the past.
use Rattle.std.specs.List.{list_any}
use Rattle.std.proofs.Common.{◌≡◌, ◌≢◌, ℕ, suc, ◌+◌, ◌-◌, ◌*◌, ◌%◌, ◌<◌, ◌≤◌, Bool, true, not, ◌&&◌, ◌||◌, leb, ltb, min, cond, List, [], ◌∷◌, All, Option, Some, None, get_or, length, slice_index, slice_index_or, refl, sym, ap, ◌∙◌, inl, inr, add-one, arith}
use Rattle.std.proofs.Math.Nat.{add-mod_right}
use Rattle.std.proofs.lemmas.Bool.{cases_Bool, le-leb, le-ltb, lt-leb, ltb-true}
use Rattle.std.proofs.lemmas.Bool.Decides.{eqb_tells}
use Rattle.phase_plan.specs.Phases.{phase_at}
use Rattle.net_parts.specs.Numbers.{Net}
use Rattle.net_parts.specs.Outline.{link_at, plan_at, turns_at, yields_at}
use Rattle.road_net.specs.Joins.{split_of}
use Rattle.control_flow.specs.declared.greens.Sign.{Sign}
use Rattle.control_flow.specs.declared.greens.Sign.TheVariants.{Change, Dark, On}
use Rattle.road_net.specs.Totals.{total}
use Rattle.net_simulator.specs.Flow.{Cumulative, queue, waiting, is_busy, is_lost, may_go, rate, discharge_to, discharge}
use Rattle.net_simulator.specs.Moves.{Moves}
use Rattle.net_simulator.specs.Rows.{cell}
use Rattle.net_simulator.specs.Discharging.{begun}
use Rattle.net_simulator.specs.LinkGreens.{is_green, lit_since, loss_of, never}
use Rattle.net_simulator.specs.LinkSeconds.{is_busy_by, is_open, rate_by, waits_at}
use Rattle.net_simulator.specs.Steps.{goes}
use Rattle.net_simulator.specs.Worlds.{Keeps}
use Rattle.road_net.proofs.TotalLaws.{total-same}
use Rattle.net_simulator.proofs.LightLaws.{and-same, begun-by, green-none-at}
use Rattle.net_simulator.proofs.Sound.{IsSound, Continues}

-- one turn of the row later the cell is the same
cell-turn : (rows : List ℕ) (l y z : ℕ) → y ≡ z + 128 → cell rows l y ≡ cell rows l z
cell-turn rows l y z e = ap (λ i. slice_index rows (l * 128 + i % 128)) e ∙ ap (λ m. slice_index rows (l * 128 + m)) (add-mod_right z 128)

apart : (x d : ℕ) → 1 ≤ d → d ≤ 127 → (x + 128 - d) % 128 ≢ x % 128
apart x d some most same = omega arith

-- what holds of a network here
pub record HasBounds (net : Net) : Type 0 where
  pub some : (l : ℕ) → l < length net.link_names → 1 ≤ (link_at net l).travel
  pub most : (l : ℕ) → l < length net.link_names → (link_at net l).travel ≤ 120
  pub ends : (l node : ℕ) → l < length net.link_names → (link_at net l).to ≡ Some node → node < length net.node_names
  pub losses : (node k : ℕ) → (phase_at (plan_at net node) k).loss ≤ 10
  pub yields : (l : ℕ) → All (λ m. m < length net.link_names) (yields_at net l)

-- no green loses more
pub loss-small : (net : Net) → HasBounds net → (node : ℕ) (sign : Sign) → loss_of (plan_at net node) sign ≤ 10
loss-small net bounds node (On phase since) = bounds.losses node phase
loss-small net bounds node (Change from to) = bounds.losses node from
loss-small net bounds node Dark = omega arith

-- a second is open where the green has lasted for as long as it may lose
pub open-late : (loss from x before : ℕ) → from ≤ x → loss ≤ x - from → true ≡ (leb from x && not (is_lost loss from x before))
open-late loss from x before begun late = rw (le-leb from x begun, le-ltb x (from + loss) (omega (arith, begun, late))) refl

-- what waits is told by what entered before this second
pub waits-kept : (net : Net) → HasBounds net → (x : ℕ) (qs qs' rs rs' : List ℕ) (l : ℕ) → l < length net.link_names → slice_index qs' l ≡ slice_index qs l
    → ((k y : ℕ) → y % 128 ≢ x % 128 → cell rs' k y ≡ cell rs k y) → waits_at net qs' rs' x l ≡ waits_at net qs rs x l
waits-kept net bounds x qs qs' rs rs' l h queue others =
    let same = others l (x + 128 - (link_at net l).travel) (apart x (link_at net l).travel (bounds.some l h) (let most = bounds.most l h in omega arith)) in
    omega (arith, queue, same)

module _ (net : Net) (x : ℕ) (before : ℕ → ℕ → Cumulative) (qs rs ws : List ℕ) (bounds : HasBounds net) (sound : IsSound net before x) (keeps : Keeps net before qs rs ws x) where
  -- what waits
  pub waits-same : (arrived : List ℕ) → ((l y : ℕ) → y % 128 ≢ x % 128 → cell arrived l y ≡ cell rs l y) → (l : ℕ) → l < length net.link_names → waits_at net qs arrived x l ≡ waiting net before x l
  waits-same arrived others l h =
      let t = (link_at net l).travel in
      let some : 1 ≤ t = bounds.some l h in
      let most : t ≤ 120 = bounds.most l h in
      let same = others l (x + 128 - t) (apart x t some (omega arith)) in
      let kept = keeps.recent l t h some most in
      let here = keeps.queues l h in
      let within = sound.within x l (omega arith) h in
      let grown : (before (x - t) l).entered ≤ (before (x + 1 - t) l).entered = elim (eqb_tells (x - t) (x + 1 - t)) [
        | inl p ↦ omega (arith, ap (λ i. (before i l).entered) p.1)
        | inr q ↦
            let e : x + 1 - t ≡ (x - t) + 1 = (let ne = q.1 in omega arith) in
            omega (arith, ap (λ i. (before i l).entered) e, sound.grows (x - t) l (omega arith) h)
      ] in
      omega (arith, same, kept, here, within, grown)

  -- whether it may go
  lost-same : (l from loss : ℕ) → l < length net.link_names → from ≤ x → loss ≤ 10 → is_lost loss from x (cell ws l from) ≡ is_lost loss from x (queue net before from l)
  lost-same l from loss h begun small = and-same (ltb x (from + loss)) (ltb 0 (cell ws l from)) (ltb 0 (queue net before from l)) (λ e.
      let less = ltb-true x (from + loss) e in
      let d : x - (x - from) ≡ from = omega arith in
      let kept = keeps.waits l (x - from) h (omega arith) in
      let turned = cell-turn ws l (x + 128 - (x - from)) from (omega arith) in
      ap (ltb 0) (sym turned ∙ kept ∙ ap (λ n. queue net before n l) d))

  -- whether a link is green, by the second since which it is
  lit-tests : (shown : ℕ → ℕ → Sign) (since : List ℕ) (l : ℕ) → x < 4294967295 → slice_index since l ≡ lit_since (is_green net shown l) (x + 1) → leb (slice_index since l) x ≡ is_green net shown l x
  lit-tests shown since l early lit =
      let on = is_green net shown l in
      let here = lit ∙ ap (lit_since on) (add-one x) in
      elim (cases_Bool (on x)) [
        | inl is ↦ ap (λ b. leb b x) (here ∙ ap (λ (b : Bool). cond b (begun on x) never) is) ∙ le-leb (begun on x) x (begun-by on x) ∙ sym is
        | inr isnt ↦ ap (λ b. leb b x) (here ∙ ap (λ (b : Bool). cond b (begun on x) never) isnt) ∙ lt-leb never x early ∙ sym isnt
      ]

  pub open-same : (shown : ℕ → ℕ → Sign) (since : List ℕ) (l node : ℕ) → l < length net.link_names → (link_at net l).to ≡ Some node → x < 4294967295
      → slice_index since l ≡ lit_since (is_green net shown l) (x + 1) → is_open net ws since x l node (shown x node) ≡ may_go net shown before x l node
  open-same shown since l node h to early lit =
      let on = is_green net shown l in
      let loss = loss_of (plan_at net node) (shown x node) in
      let here = lit ∙ ap (lit_since on) (add-one x) in
      let by-code : ℕ → Bool = λ b. not (is_lost loss b x (cell ws l b)) in
      let by-past : Bool = not (is_lost loss (begun on x) x (queue net before (begun on x) l)) in
      ap (λ (b : Bool). b && by-code (slice_index since l)) (lit-tests shown since l early lit)
      ∙ and-same (on x) (by-code (slice_index since l)) by-past (λ is.
      ap by-code (here ∙ ap (λ (b : Bool). cond b (begun on x) never) is)
      ∙ ap not (lost-same l (begun on x) loss h (begun-by on x) (loss-small net bounds node (shown x node))))

  -- how much it discharges at the most
  any-same : (f g : ℕ → Bool) (xs : List ℕ) → All (λ m. f m ≡ g m) xs → list_any f xs ≡ list_any g xs
  any-same f g [] same = refl
  any-same f g (y ∷ ys) same =
      let here = same 0 y (omega arith) in
      let rest = any-same f g ys (λ i d h. same (suc i) d (omega arith)) in
      λ i. here i || rest i

  module _ (shown : ℕ → ℕ → Sign) (since ready : List ℕ) (early : x < 4294967295) (lit : (k : ℕ) → k < length net.link_names → slice_index since k ≡ lit_since (is_green net shown k) (x + 1))
      (same : (k node : ℕ) → k < length net.link_names → (link_at net k).to ≡ Some node → slice_index ready k ≡ waiting net before x k) where
    busy-same : (m : ℕ) → m < length net.link_names → is_busy_by since ready x m ≡ is_busy net shown before x m
    busy-same m inside = ap (λ (b : Bool). b && ltb 0 (slice_index ready m)) (lit-tests shown since m early (lit m inside)) ∙ by (link_at net m).to refl
      where
        by : (to : Option ℕ) → (link_at net m).to ≡ to → (is_green net shown m x && ltb 0 (slice_index ready m)) ≡ (is_green net shown m x && ltb 0 (waiting net before x m))
        by None to = ap (λ (b : Bool). b && ltb 0 (slice_index ready m)) (green-none-at net shown m x to) ∙ sym (ap (λ (b : Bool). b && ltb 0 (waiting net before x m)) (green-none-at net shown m x to))
        by (Some node) to = ap (λ w. is_green net shown m x && ltb 0 w) (same m node inside to)

    -- what waits at the ends of links that leave the network does not count
    pub rate-seen : (l : ℕ) → rate_by net since ready x l ≡ rate net shown before x l
    rate-seen l =
        let busy = any-same (is_busy_by since ready x) (is_busy net shown before x) (yields_at net l) (λ i d h. busy-same (get_or (yields_at net l) i d) (bounds.yields l i d h)) in
        ap (λ (b : Bool). cond b (link_at net l).yield_sat (link_at net l).sat) busy

  module _ (shown : ℕ → ℕ → Sign) (signs : List Sign) (since ready : List ℕ) (early : x < 4294967295)
      (lit : (k : ℕ) → k < length net.link_names → slice_index since k ≡ lit_since (is_green net shown k) (x + 1)) (seen : (n : ℕ) → n < length net.node_names → shown x n ≡ slice_index_or signs n Dark)
      (same : (k : ℕ) → k < length net.link_names → slice_index ready k ≡ waiting net before x k) where
    goes-to : (l : ℕ) (to : Option ℕ) → l < length net.link_names → (link_at net l).to ≡ to → goes net signs since ws ready x l to ≡ discharge_to net shown before x l to
    goes-to l None h to = same l h
    goes-to l (Some node) h to =
        let may = ap (is_open net ws since x l node) (sym (seen node (bounds.ends l node h to))) ∙ open-same shown since l node h to early (lit l h) in
        ap (λ b. cond b (min (rate_by net since ready x l) (slice_index ready l)) 0) may
        ∙ ap (λ a. cond (may_go net shown before x l node) (min a (slice_index ready l)) 0) (rate-seen shown since ready early lit (λ k n b at. same k b) l)
        ∙ ap (λ w. cond (may_go net shown before x l node) (min (rate net shown before x l) w) 0) (same l h)

    pub goes-same : (l : ℕ) → l < length net.link_names → goes net signs since ws ready x l (link_at net l).to ≡ discharge net shown before x l
    goes-same l h = goes-to l (link_at net l).to h refl

module _ (net : Net) (m : Moves) (x : ℕ) (before after : ℕ → ℕ → Cumulative) (qs rs ws : List ℕ)
    (bounds : HasBounds net) (on : Continues net m x before after) (keeps : Keeps net before qs rs ws x) where
  -- the queues after the second
  pub queue-next : (l : ℕ) → l < length net.link_names → queue net after (x + 1) l ≡ waiting net before x l - m.goes l
  queue-next l h =
      let t = (link_at net l).travel in
      let some : 1 ≤ t = bounds.some l h in
      let left = ap (λ (q : Cumulative). q.left) (on.next l h) in
      let back = ap (λ (q : Cumulative). q.entered) (on.kept ((x + 1) - t) l (omega arith)) in
      omega (arith, left, back)

  recent-next : (lv rs2 : List ℕ)
      → ((l : ℕ) → l < length net.link_names → slice_index lv l ≡ m.goes l)
      → ((l : ℕ) → l < length net.link_names → cell rs2 l x ≡ m.comes l + total (λ k. split_of (turns_at net k) (slice_index lv k) l) (length net.link_names))
      → ((l y : ℕ) → y % 128 ≢ x % 128 → cell rs2 l y ≡ cell rs l y)
      → (l d : ℕ) → l < length net.link_names → 1 ≤ d → d ≤ 120 → cell rs2 l (x + 1 + 128 - d) ≡ (after (x + 1 + 1 - d) l).entered - (after (x + 1 - d) l).entered
  recent-next lv rs2 leaves entered others l d h some most = elim (eqb_tells d 1) [
    | inl p ↦
        let turned = cell-turn rs2 l (x + 1 + 128 - d) x (let e = p.1 in omega arith) in
        let next = ap (λ (q : Cumulative). q.entered) (on.next l h) in
        let kept = ap (λ (q : Cumulative). q.entered) (on.kept x l (omega arith)) in
        let parts = total-same (λ k. split_of (turns_at net k) (slice_index lv k) l) (λ k. split_of (turns_at net k) (m.goes k) l) (length net.link_names) (λ k b. ap (λ a. split_of (turns_at net k) a l) (leaves k b)) in
        let one : x + 1 + 1 - d ≡ x + 1 = (let e = p.1 in omega arith) in
        let two : x + 1 - d ≡ x = (let e = p.1 in omega arith) in
        rw (one, two) (omega (arith, turned, entered l h, next, kept, parts))
    | inr q ↦
        let more : 2 ≤ d = (let ne = q.1 in omega arith) in
        let place : x + 1 + 128 - d ≡ x + 128 - (d - 1) = omega arith in
        let other = others l (x + 128 - (d - 1)) (apart x (d - 1) (omega arith) (omega arith)) in
        let was = keeps.recent l (d - 1) h (omega arith) (omega arith) in
        let up : x + 1 + 1 - d ≡ x + 1 - (d - 1) = omega arith in
        let to : x + 1 - d ≡ x - (d - 1) = omega arith in
        let one = ap (λ (q : Cumulative). q.entered) (on.kept (x + 1 - (d - 1)) l (omega arith)) in
        let two = ap (λ (q : Cumulative). q.entered) (on.kept (x - (d - 1)) l (omega arith)) in
        rw (place, up, to) (omega (arith, other, was, one, two))
  ]

  pub kept-queue : (n l : ℕ) → n ≤ x → queue net after n l ≡ queue net before n l
  kept-queue n l h =
      let one = ap (λ (q : Cumulative). q.entered) (on.kept (n - (link_at net l).travel) l (omega arith)) in
      let two = ap (λ (q : Cumulative). q.left) (on.kept n l h) in
      omega (arith, one, two)

  waits-next : (qs' ws' : List ℕ)
      → ((l : ℕ) → l < length net.link_names → slice_index qs' l ≡ queue net after (x + 1) l)
      → ((l : ℕ) → l < length net.link_names → cell ws' l (x + 1) ≡ slice_index qs' l)
      → ((l y : ℕ) → y % 128 ≢ (x + 1) % 128 → cell ws' l y ≡ cell ws l y)
      → (l d : ℕ) → l < length net.link_names → d ≤ 120 → cell ws' l (x + 1 + 128 - d) ≡ queue net after (x + 1 - d) l
  waits-next qs' ws' now here others l d h most = elim (eqb_tells d 0) [
    | inl p ↦
        let turned = cell-turn ws' l (x + 1 + 128 - d) (x + 1) (let e = p.1 in omega arith) in
        let to : x + 1 - d ≡ x + 1 = (let e = p.1 in omega arith) in
        turned ∙ here l h ∙ now l h ∙ ap (λ n. queue net after n l) (sym to)
    | inr q ↦
        let more : 1 ≤ d = (let ne = q.1 in omega arith) in
        let place : x + 1 + 128 - d ≡ x + 128 - (d - 1) = omega arith in
        let other = others l (x + 1 + 128 - d) (apart (x + 1) d more (omega arith)) in
        let was = keeps.waits l (d - 1) h (omega arith) in
        let to : x + 1 - d ≡ x - (d - 1) = omega arith in
        other ∙ ap (cell ws l) place ∙ was ∙ sym (kept-queue (x - (d - 1)) l (omega arith)) ∙ ap (λ n. queue net after n l) (sym to)
  ]

  pub keeps-next : (lv qs' rs2 ws' : List ℕ)
      → ((l : ℕ) → l < length net.link_names → slice_index lv l ≡ m.goes l)
      → ((l : ℕ) → l < length net.link_names → slice_index qs' l ≡ waiting net before x l - slice_index lv l)
      → ((l : ℕ) → l < length net.link_names → cell rs2 l x ≡ m.comes l + total (λ k. split_of (turns_at net k) (slice_index lv k) l) (length net.link_names))
      → ((l y : ℕ) → y % 128 ≢ x % 128 → cell rs2 l y ≡ cell rs l y)
      → ((l : ℕ) → l < length net.link_names → cell ws' l (x + 1) ≡ slice_index qs' l)
      → ((l y : ℕ) → y % 128 ≢ (x + 1) % 128 → cell ws' l y ≡ cell ws l y)
      → Keeps net after qs' rs2 ws' (x + 1)
  keeps-next lv qs' rs2 ws' leaves queues' entered others waits' others' =
      let lines-up : (l : ℕ) → l < length net.link_names → slice_index qs' l ≡ queue net after (x + 1) l = λ l h. queues' l h ∙ ap (λ n. waiting net before x l - n) (leaves l h) ∙ sym (queue-next l h) in
      record {
        queues = lines-up;
        recent = recent-next lv rs2 leaves entered others;
        waits = waits-next qs' ws' lines-up waits' others';
      }

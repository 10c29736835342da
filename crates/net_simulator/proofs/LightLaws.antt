-- When links are green: how it goes on second by second, and on what of the signs it depends.
use Rattle.std.proofs.Common.{◌≡◌, ℕ, zero, suc, ◌+◌, ◌-◌, ◌<◌, ◌≤◌, Bool, true, false, not, ◌&&◌, cond, ltb, min, List, Option, Some, None, is_some, length, slice_index, slice_index_or, refl, sym, ap, ◌∙◌, inl, inr, add-one, arith}
use Rattle.std.specs.List.{list_any}
use Rattle.std.specs.Option.{option_map}
use Rattle.std.proofs.lemmas.Bool.{cases_Bool, cases_lt, false≢true}
use Rattle.std.proofs.lemmas.List.{get_or_past}
use Rattle.std.proofs.lemmas.List.Folds.{list_any_at}
use Rattle.control_flow.specs.Signs.{is_on, is_on_in}
use Rattle.control_flow.specs.declared.greens.Sign.{Sign}
use Rattle.control_flow.specs.declared.greens.Sign.TheVariants.{Dark}
use Rattle.net_parts.specs.declared.roads.Link.{Link}
use Rattle.net_parts.specs.declared.roads.Walk.{Walk}
use Rattle.net_parts.specs.Numbers.{Net, no_link}
use Rattle.net_parts.specs.Outline.{is_green_in, link_at, plan_at, walk_at, yields_at}
use Rattle.net_simulator.specs.Discharging.{begun, green_for}
use Rattle.net_simulator.specs.Flow.{Cumulative, discharge, discharge_to, is_lost, may_go, queue, rate, waiting}
use Rattle.net_simulator.specs.LinkGreens.{has_walks, is_green, is_green_to, is_lit, last_sign, lit_on, lit_since, loss_of, never}
use Rattle.net_simulator.specs.LinkSeconds.{AreLit}
use Rattle.net_simulator.specs.Worlds.{AreShown}
use Rattle.net_simulator.proofs.ExtraGreenLaws.{green-more, green-none}

pub and-same : (a b c : Bool) → (a ≡ true → b ≡ c) → (a && b) ≡ (a && c)
and-same true b c same = same refl
and-same false b c same = refl

-- ---- the second in which a green began

pub begun-by : (on : ℕ → Bool) (x : ℕ) → begun on x ≤ x
begun-by on x = omega arith

begun-on : (on : ℕ → Bool) (x : ℕ) → on x ≡ true → begun on (suc x) ≡ begun on x
begun-on on x is = omega (arith, green-more on x is)

begun-off : (on : ℕ → Bool) (x : ℕ) → on x ≡ false → begun on (suc x) ≡ suc x
begun-off on x isnt = omega (arith, green-none on x isnt)

since-on : (on : ℕ → Bool) (x : ℕ) → on x ≡ true → lit_since on (suc x) ≡ begun on x
since-on on x is = ap (λ (b : Bool). cond b (begun on x) never) is

since-off : (on : ℕ → Bool) (x : ℕ) → on x ≡ false → lit_since on (suc x) ≡ never
since-off on x isnt = ap (λ (b : Bool). cond b (begun on x) never) isnt

-- where the next second is green, the green goes on, or begins in it
since-or-now : (on : ℕ → Bool) (x : ℕ) → x < 4294967295 → min (lit_since on x) x ≡ begun on x
since-or-now on zero early = omega arith
since-or-now on (suc y) early = elim (cases_Bool (on y)) [
  | inl is ↦ omega (arith, since-on on y is, begun-on on y is, begun-by on y)
  | inr isnt ↦ omega (arith, since-off on y isnt, begun-off on y isnt, early)
]

-- a second more
pub since-next : (on : ℕ → Bool) (x : ℕ) → x < 4294967295 → cond (on x) (min (lit_since on x) x) never ≡ lit_since on (suc x)
since-next on x early = ap (λ k. cond (on x) k never) (since-or-now on x early)

-- a second like the last one changes nothing
since-still : (on : ℕ → Bool) (y : ℕ) → lit_since on (suc y) ≡ cond (on y) (min (lit_since on (suc y)) (suc y)) never
since-still on y = elim (cases_Bool (on y)) [
  | inl is ↦
      let less : lit_since on (suc y) ≡ min (lit_since on (suc y)) (suc y) = omega (arith, since-on on y is, begun-by on y) in
      less ∙ sym (ap (λ (b : Bool). cond b (min (lit_since on (suc y)) (suc y)) never) is)
  | inr isnt ↦ since-off on y isnt ∙ sym (ap (λ (b : Bool). cond b (min (lit_since on (suc y)) (suc y)) never) isnt)
]

-- only the seconds below x count
for-same : (on other : ℕ → Bool) (x : ℕ) → ((y : ℕ) → y < x → on y ≡ other y) → green_for on x ≡ green_for other x
for-same on other zero same = refl
for-same on other (suc x) same =
    ap (λ (b : Bool). cond b (suc (green_for on x)) 0) (same x (omega arith)) ∙ ap (λ k. cond (other x) (suc k) 0) (for-same on other x (λ y h. same y (omega (arith, h))))

begun-same : (on other : ℕ → Bool) (x : ℕ) → ((y : ℕ) → y < x → on y ≡ other y) → begun on x ≡ begun other x
begun-same on other x same = ap (λ k. x - k) (for-same on other x same)

since-same : (on other : ℕ → Bool) (n : ℕ) → ((y : ℕ) → y < n → on y ≡ other y) → lit_since on n ≡ lit_since other n
since-same on other zero same = refl
since-same on other (suc x) same =
    ap (λ (b : Bool). cond b (begun on x) never) (same x (omega arith)) ∙ ap (λ k. cond (other x) k never) (begun-same on other x (λ y h. same y (omega (arith, h))))

-- a green that holds from a second on has begun by then
lasts : (on : ℕ → Bool) (since d : ℕ) → ((y : ℕ) → since ≤ y → y < since + d → on y ≡ true) → d ≤ green_for on (since + d)
lasts on since zero holds = omega arith
lasts on since (suc d) holds =
    let e : since + suc d ≡ suc (since + d) = omega arith in
    omega (arith, ap (green_for on) e, green-more on (since + d) (holds (since + d) (omega arith) (omega arith)), lasts on since d (λ y low high. holds y low (omega (arith, high))))

pub begun-since : (on : ℕ → Bool) (since x : ℕ) → since ≤ x → ((y : ℕ) → since ≤ y → y < x → on y ≡ true) → begun on x ≤ since
begun-since on since x by holds =
    let e : since + (x - since) ≡ x = omega (arith, by) in
    omega (arith, ap (green_for on) e, lasts on since (x - since) (λ y low high. holds y low (omega (arith, high, by))))

-- ---- of a link

module _ (net : Net) (shown : ℕ → ℕ → Sign) (l : ℕ) where
  pub green-at : (x node : ℕ) → (link_at net l).to ≡ Some node → is_green net shown l x ≡ is_lit net l x (shown x node)
  green-at x node to = ap (is_green_to net shown l x) to

  pub green-none-at : (x : ℕ) → (link_at net l).to ≡ None → is_green net shown l x ≡ false
  green-none-at x to = ap (is_green_to net shown l x) to

  -- a link that ends at no node is never green
  pub since-none : (n : ℕ) → (link_at net l).to ≡ None → lit_since (is_green net shown l) n ≡ never
  since-none zero to = refl
  since-none (suc x) to = since-off (is_green net shown l) x (green-none-at x to)

  pub lit-next : (x node : ℕ) → (link_at net l).to ≡ Some node → x < 4294967295 → lit_on net l x (shown x node) (lit_since (is_green net shown l) x) ≡ lit_since (is_green net shown l) (x + 1)
  lit-next x node to early =
      ap (λ (b : Bool). cond b (min (lit_since (is_green net shown l) x) x) never) (sym (green-at x node to)) ∙ since-next (is_green net shown l) x early ∙ ap (lit_since (is_green net shown l)) (sym (add-one x))

  -- without a walk the second does not count
  plain : (x : ℕ) (s : Sign) → walk_at net l ≡ None → is_lit net l x s ≡ is_on (is_green_in net l) s
  plain x s none = ap (λ (w : Option ℕ). is_on_in (is_green_in net l) w x s) none

  pub lit-still : (x node : ℕ) → (link_at net l).to ≡ Some node → walk_at net l ≡ None → lit_since (is_green net shown l) x ≡ lit_on net l x (last_sign shown x node) (lit_since (is_green net shown l) x)
  lit-still zero node to none = sym (ap (λ (b : Bool). cond b (min never 0) never) (plain 0 Dark none))
  lit-still (suc y) node to none =
      since-still (is_green net shown l) y ∙ ap (λ (b : Bool). cond b (min (lit_since (is_green net shown l) (suc y)) (suc y)) never) (green-at y node to ∙ plain y (shown y node) none ∙ sym (plain (suc y) (shown y node) none))

-- where no link has a walk
pub no-walk : (net : Net) → has_walks net ≡ false → (l : ℕ) → (link_at net l).walk ≡ None
no-walk net none l = elim (cases_lt l (length net.links)) [
  | inl inside ↦ by (link_at net l).walk (λ some. false≢true (sym none ∙ list_any_at (λ (k : Link). is_some k.walk) net.links l no_link inside some))
  | inr past ↦ ap (λ (k : Link). k.walk) (get_or_past net.links l no_link past)
]
  where
    by : (walk : Option Walk) → (is_some walk ≡ true → ⊥) → walk ≡ None
    by None never_some = refl
    by (Some w) never_some = absurd (never_some refl)

-- what is kept of lights changes only where signs do
pub are-lit : (net : Net) (shown : ℕ → ℕ → Sign) (x : ℕ) (signs : List Sign) (since : List ℕ) → AreShown net shown x signs since
    → ((l node : ℕ) → l < length net.link_names → (link_at net l).to ≡ Some node → node < length net.node_names) → AreLit net x signs since
are-lit net shown x signs since are ends l node inside to none =
    are.since l inside ∙ lit-still net shown l x node to (ap (option_map (λ (w : Walk). w.seconds)) none)
    ∙ ap (λ (s : Sign). lit_on net l x s (lit_since (is_green net shown l) x)) (sym (are.signs node (ends l node inside to)))
    ∙ ap (lit_on net l x (slice_index_or signs node Dark)) (sym (are.since l inside))

-- what is kept of lights a second later
pub lit-after : (net : Net) (shown : ℕ → ℕ → Sign) (x : ℕ) (signs : List Sign) (since next : List ℕ) → AreShown net shown x signs since → x < 4294967295
    → ((l node : ℕ) → l < length net.link_names → (link_at net l).to ≡ Some node → slice_index next l ≡ lit_on net l x (shown x node) (slice_index since l))
    → ((l : ℕ) → l < length net.link_names → (link_at net l).to ≡ None → slice_index next l ≡ slice_index since l)
    → (l : ℕ) → l < length net.link_names → slice_index next l ≡ lit_since (is_green net shown l) (x + 1)
lit-after net shown x signs since next are early here none l inside = by (link_at net l).to refl
  where
    by : (to : Option ℕ) → (link_at net l).to ≡ to → slice_index next l ≡ lit_since (is_green net shown l) (x + 1)
    by None to = none l inside to ∙ are.since l inside ∙ since-none net shown l x to ∙ sym (since-none net shown l (x + 1) to)
    by (Some node) to = here l node inside to ∙ ap (lit_on net l x (shown x node)) (are.since l inside) ∙ lit-next net shown l x node to early

-- ---- signs under which the links are green alike

-- In the first n seconds the same links are green, and a green loses as many seconds.
pub record AreAlike (net : Net) (n : ℕ) (shown seen : ℕ → ℕ → Sign) : Type 0 where
  pub green : (x l node : ℕ) → x < n → (link_at net l).to ≡ Some node → is_lit net l x (shown x node) ≡ is_lit net l x (seen x node)
  pub loss : (x l node : ℕ) → x < n → (link_at net l).to ≡ Some node → is_lit net l x (shown x node) ≡ true → loss_of (plan_at net node) (shown x node) ≡ loss_of (plan_at net node) (seen x node)

pub alike-shown : (net : Net) (n : ℕ) (shown seen : ℕ → ℕ → Sign) → ((x l node : ℕ) → x < n → (link_at net l).to ≡ Some node → shown x node ≡ seen x node) → AreAlike net n shown seen
alike-shown net n shown seen same = record {
  green = λ x l node h to. ap (is_lit net l x) (same x l node h to);
  loss = λ x l node h to is. ap (loss_of (plan_at net node)) (same x l node h to);
}

pub alike-sooner : (net : Net) (n m : ℕ) (shown seen : ℕ → ℕ → Sign) → m ≤ n → AreAlike net n shown seen → AreAlike net m shown seen
alike-sooner net n m shown seen less alike = record {
  green = λ x l node h. alike.green x l node (omega (arith, h, less));
  loss = λ x l node h. alike.loss x l node (omega (arith, h, less));
}

module _ (net : Net) (n : ℕ) (shown seen : ℕ → ℕ → Sign) (alike : AreAlike net n shown seen) where
  green-same : (l x : ℕ) → x < n → is_green net shown l x ≡ is_green net seen l x
  green-same l x h = by (link_at net l).to refl
    where
      by : (to : Option ℕ) → (link_at net l).to ≡ to → is_green net shown l x ≡ is_green net seen l x
      by None to = green-none-at net shown l x to ∙ sym (green-none-at net seen l x to)
      by (Some node) to = green-at net shown l x node to ∙ alike.green x l node h to ∙ sym (green-at net seen l x node to)

  pub lit-same : (l : ℕ) → lit_since (is_green net shown l) n ≡ lit_since (is_green net seen l) n
  lit-same l = since-same (is_green net shown l) (is_green net seen l) n (λ y h. green-same l y h)

  -- whether a link may go
  pub may-same : (past : ℕ → ℕ → Cumulative) (x l node : ℕ) → x < n → (link_at net l).to ≡ Some node → may_go net shown past x l node ≡ may_go net seen past x l node
  may-same past x l node h to =
      let one = is_green net shown l in
      let other = is_green net seen l in
      let from = begun-same one other x (λ y less. green-same l y (omega (arith, less, h))) in
      let lost : ℕ → ℕ → Bool = λ loss b. not (is_lost loss b x (queue net past b l)) in
      and-same (one x) (lost (loss_of (plan_at net node) (shown x node)) (begun one x)) (lost (loss_of (plan_at net node) (seen x node)) (begun other x)) (λ is.
      ap (λ k. lost k (begun one x)) (alike.loss x l node h to (sym (green-at net shown l x node to) ∙ is)) ∙ ap (lost (loss_of (plan_at net node) (seen x node))) from)
      ∙ ap (λ (b : Bool). b && lost (loss_of (plan_at net node) (seen x node)) (begun other x)) (green-same l x h)

  -- how much it discharges at the most
  pub rate-same : (past : ℕ → ℕ → Cumulative) (x l : ℕ) → x < n → rate net shown past x l ≡ rate net seen past x l
  rate-same past x l h = λ i. cond (list_any (λ m. green-same m x h i && ltb 0 (waiting net past x m)) (yields_at net l)) (link_at net l).yield_sat (link_at net l).sat

  -- and so what it discharges
  pub discharge-same : (past : ℕ → ℕ → Cumulative) (x l : ℕ) → x < n → discharge net shown past x l ≡ discharge net seen past x l
  discharge-same past x l h = by (link_at net l).to refl
    where
      by : (to : Option ℕ) → (link_at net l).to ≡ to → discharge_to net shown past x l to ≡ discharge_to net seen past x l to
      by None to = refl
      by (Some node) to =
          ap (λ (b : Bool). cond b (min (rate net shown past x l) (waiting net past x l)) 0) (may-same past x l node h to)
          ∙ ap (λ a. cond (may_go net seen past x l node) (min a (waiting net past x l)) 0) (rate-same past x l h)

-- the last signs
pub last-same : (shown seen : ℕ → ℕ → Sign) (n node : ℕ) → ((x : ℕ) → x < n → shown x node ≡ seen x node) → last_sign shown n node ≡ last_sign seen n node
last-same shown seen zero node same = refl
last-same shown seen (suc x) node same = same x (omega arith)

pub are-shown-same : (net : Net) (n : ℕ) (shown seen : ℕ → ℕ → Sign) (signs : List Sign) (since : List ℕ) → AreAlike net n shown seen
    → ((x node : ℕ) → x < n → node < length net.node_names → shown x node ≡ seen x node) → AreShown net shown n signs since → AreShown net seen n signs since
are-shown-same net n shown seen signs since alike same are = record {
  signs = λ node h. are.signs node h ∙ last-same shown seen n node (λ x less. same x node less h);
  since = λ l h. are.since l h ∙ lit-same net n shown seen alike l;
}

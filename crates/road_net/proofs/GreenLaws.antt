-- In which phases a link is green.
use Rattle.std.proofs.Common.{◌≡◌, ◌≢◌, ℕ, ◌<◌, ◌≤◌, Bool, true, false, ◌==◌, ◌||◌, List, [], length, get_or, position, Option, Some, None, IfSome, IsSome, IsTrue, unwrap_or, refl, sym, ap, subst, ◌∙◌, inl, inr, arith}
use Rattle.std.proofs.lemmas.Bool.{cases_lt, cases_Bool, false≢true}
use Rattle.std.proofs.lemmas.Bool.Decides.{eqb_tells}
use Rattle.std.proofs.lemmas.List.{get_or_past}
use Rattle.std.proofs.lemmas.List.Quantifiers.{position-Some}
use Rattle.net_parts.specs.Numbers.{Net, has_link, no_link, phase_of}
use Rattle.net_parts.specs.Outline.{IsOutline, HasNoOverlaps, also_at, also_links_at, is_green_in, is_green_to, link_at, phases_at, plan_at}
use Rattle.road_net.specs.Joins.{AreNeverBoth}
use Rattle.road_net.proofs.Serving.{same_link, is_link}

-- the home of a link that ends at a node is a phase of that node
home-below : (net : Net) → IsOutline net → (l n : ℕ) → n < length net.node_names → l < length net.links → (link_at net l).to ≡ Some n → (link_at net l).phase < length (plan_at net n)
home-below net ok l n node inside to =
    let is : (link_at net l).phase ≡ phase_of net.phase_links l (Some n) = ok.phases l inside ∙ ap (phase_of net.phase_links l) to in
    let planned : n < length net.plans = omega (arith, ok.plan_count) in
    rw is (by (position (has_link l) (phases_at net n)) refl (ok.plans n [] planned).ring.count.0)
  where
    by : (o : Option ℕ) → position (has_link l) (phases_at net n) ≡ o → 2 ≤ length (plan_at net n) → unwrap_or (position (has_link l) (phases_at net n)) 0 < length (plan_at net n)
    by None is some = rw is (omega arith)
    by (Some k) is some = rw is (let (within, has, _) = position-Some (has_link l) (phases_at net n) k [] is in omega (arith, within, ok.phase_counts n node))

either-is : (a b : Bool) → (a || b) ≡ true → (b ≡ true → ⊥) → a ≡ true
either-is true b e never = refl
either-is false b e never = absurd (never e)

-- a further link of a phase is one of a phase of the node
also-below : (net : Net) → IsOutline net → (l n k : ℕ) → n < length net.node_names → has_link l (also_links_at net n k) ≡ true → k < length (plan_at net n)
also-below net ok l n k node has = elim (cases_lt k (length (also_at net n))) [
  | inl inside ↦ omega (arith, inside, ok.also_counts n node)
  | inr past ↦ absurd (false≢true (sym (ap (has_link l) (get_or_past (also_at net n) k [] past)) ∙ has))
]

-- a link is green only in phases of the node where it ends
pub green-below : (net : Net) → IsOutline net → (l k : ℕ) → l < length net.link_names → is_green_in net l k ≡ true → k < 4
green-below net ok l k link on = by (link_at net l).to refl (ok.links l no_link (omega (arith, ok.road_count))).to on
  where
    by : (o : Option ℕ) → (link_at net l).to ≡ o → IfSome o (λ n. n < length net.node_names) → is_green_to net l k o ≡ true → k < 4
    by None to node on = absurd (false≢true on)
    by (Some n) to node on =
        let few : length (plan_at net n) ≤ 4 = (ok.plans n [] (omega (arith, ok.plan_count))).ring.count.1 in
        elim (cases_Bool (has_link l (also_links_at net n k))) [
          | inl also ↦ omega (arith, also-below net ok l n k node also, few)
          | inr alone ↦
              let home = is_link (link_at net l).phase k (either-is ((link_at net l).phase == k) (has_link l (also_links_at net n k)) on (λ e. false≢true (sym alone ∙ e))) in
              omega (arith, home, home-below net ok l n node (omega (arith, ok.road_count)) to, few)
        ]

-- where no phase names a further link, a link is green in its home alone
pub green-home : (net : Net) → HasNoOverlaps net → (l k : ℕ) → is_green_in net l k ≡ true → (link_at net l).phase ≡ k
green-home net none l k on = by (link_at net l).to on
  where
    by : (o : Option ℕ) → is_green_to net l k o ≡ true → (link_at net l).phase ≡ k
    by None on = absurd (false≢true on)
    by (Some n) on = is_link (link_at net l).phase k (either-is ((link_at net l).phase == k) (has_link l (also_links_at net n k)) on (λ e. false≢true (sym (ap (has_link l) (none n k)) ∙ e)))

-- there two links with two homes have no green in common
pub homes-apart : (net : Net) → HasNoOverlaps net → (a b : ℕ) → (link_at net a).phase ≢ (link_at net b).phase → AreNeverBoth net a b
homes-apart net none a b differ k one other = differ (green-home net none a k one ∙ sym (green-home net none b k other))

-- a link that ends at a node is green in its home
pub home-green : (net : Net) (l n : ℕ) → (link_at net l).to ≡ Some n → is_green_in net l (link_at net l).phase ≡ true
home-green net l n to = ap (is_green_to net l (link_at net l).phase) to ∙ ap (λ b. b || has_link l (also_links_at net n (link_at net l).phase)) (same_link (link_at net l).phase (link_at net l).phase refl)

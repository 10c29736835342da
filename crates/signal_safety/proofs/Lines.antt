-- What lawful lines give: the network is safe.
use Rattle.std.proofs.Common.{◌≡◌, ℕ, ◌+◌, ◌<◌, ◌≤◌, Bool, true, false, ◌&&◌, List, [], ◌∷◌, Option, Some, None, length, get_or, refl, sym, ap, subst, ◌∙◌, inl, inr, ltb, arith}
use Rattle.std.specs.Prelude.{IfSome, IsSome, IsTrue, MatchOption}
use Rattle.std.proofs.lemmas.List.{get_or_past}
use Rattle.std.specs.Option.{option_map, option_map_or}
use Rattle.std.proofs.lemmas.Bool.{cases_lt, and_parts, false≢true, ltb-true}
use Rattle.std.proofs.lemmas.List.Elements.{All-get_or}
use Rattle.control_flow.specs.Greens.{IsLawful}
use Rattle.control_flow.specs.Signs.{change_from, is_on, is_on_in, sign_after, sign_at}
use Rattle.control_flow.specs.declared.greens.Green.{Green}
use Rattle.control_flow.specs.declared.greens.Sign.{Sign}
use Rattle.control_flow.specs.declared.greens.Sign.TheVariants as signs
use Rattle.control_flow.proofs.RowLaws.{lawful-first, lawful-next, lawful-tail}
use Rattle.control_flow.proofs.SignLaws.{after-row, before-row, within-row}
use Rattle.net_parts.specs.Numbers.{Net, no_link}
use Rattle.net_parts.specs.Outline.{IsLink, cross_at, is_green_in, link_at, plan_at, walk_at}
use Rattle.net_parts.specs.declared.roads.Link.{Link}
use Rattle.net_parts.specs.declared.roads.Walk.{Walk}
use Rattle.phase_plan.specs.Phases.{IsOwnRing, IsRing, phase_at}
use Rattle.phase_plan.specs.declared.Phase.{Phase}
use Rattle.road_net.specs.Joins.{AreNeverBoth, HasLongGreens, IsConflict}
use Rattle.road_net.specs.Network.{IsNetwork}
use Rattle.signal_safety.specs.Safe.{AreSafe, BeginsAfter, IsSafe, clearance_after, clearance_at, is_green_at}

pub plan-is : (net : Net) → IsNetwork net → (node : ℕ) → node < length net.node_names → IsRing (plan_at net node)
plan-is net network node below = (All-get_or IsOwnRing net.plans node [] (let e = network.outline.plan_count in omega arith) network.outline.plans).ring

-- a change is no green with a walk
change-closed : (green : ℕ → Bool) (walk x : ℕ) (before : Option ℕ) (j : ℕ) → is_on_in green (Some walk) x (change_from before j) ≡ false
change-closed green walk x None j = refl
change-closed green walk x (Some k) j = refl

-- a link is green in the phases of `mine`, another one in those of `others`, and no phase is in both
module _ (mine others : ℕ → Bool) (apart : (k : ℕ) → mine k ≡ true → others k ≡ true → ⊥) where
  pub never-both : (s : Sign) → is_on mine s ≡ true → is_on others s ≡ true → ⊥
  never-both (signs.On k since) a b = apart k a b
  never-both (signs.Change k j) a b = apart k (and_parts (mine k) (mine j) a).0 (and_parts (others k) (others j) b).0
  never-both signs.Dark a b = false≢true a

  module _ (plan : List Phase) where
    -- from the begin of a row on, a link that is not green in its phase is green only after it, its yellow and all-red
    after-green : (before : Option ℕ) (r : Green) (rs : List Green) (y : ℕ) → IsLawful plan (r ∷ rs) → (others r.phase ≡ true → ⊥) → r.from ≤ y → is_on others (sign_after before (r ∷ rs) y) ≡ true
        → r.to + (phase_at plan r.phase).yellow + (phase_at plan r.phase).clear ≤ y
    after-green before r [] y lawful never begun on = elim (cases_lt y r.to) [
      | inl h ↦ absurd (never (sym (ap (is_on others) (within-row before r [] y begun h)) ∙ on))
      | inr h ↦ absurd (false≢true (sym (ap (is_on others) (after-row before r [] y begun h)) ∙ on))
    ]
    after-green before r (n ∷ ns) y lawful never begun on = elim (cases_lt y r.to) [
      | inl h ↦ absurd (never (sym (ap (is_on others) (within-row before r (n ∷ ns) y begun h)) ∙ on))
      | inr h ↦
          let later : is_on others (sign_after (Some r.phase) (n ∷ ns) y) ≡ true = sym (ap (is_on others) (after-row before r (n ∷ ns) y begun h)) ∙ on in
          elim (cases_lt y n.from) [
            | inl change ↦ absurd (never (and_parts (others r.phase) (others n.phase) (sym (ap (is_on others) (before-row (Some r.phase) n ns y change)) ∙ later)).0)
            | inr next ↦ omega (arith, (lawful-next plan r n ns lawful).begins, next)
          ]
    ]

    -- in a change to a row
    after-change : (before : Option ℕ) (r : Green) (rs : List Green) (x y : ℕ) → IsLawful plan (r ∷ rs) → x < y → x < r.from → is_on mine (change_from before r.phase) ≡ true
        → is_on others (sign_after before (r ∷ rs) y) ≡ true → x + 1 + clearance_after plan (change_from before r.phase) ≤ y
    after-change None r rs x y lawful less early one other = absurd (false≢true one)
    after-change (Some k) r rs x y lawful less early one other =
        let both = and_parts (mine k) (mine r.phase) one in
        elim (cases_lt y r.from) [
          | inl same ↦ absurd (apart k both.0 (and_parts (others k) (others r.phase) (sym (ap (is_on others) (before-row (Some k) r rs y same)) ∙ other)).0)
          | inr begun ↦
              let after = after-green (Some k) r rs y lawful (λ e. apart r.phase both.1 e) begun other in
              omega (arith, after, early, (lawful-first plan r rs lawful).least)
        ]

    -- a second in which the one is green, and a later one in which the other is
    pub begins-after : (before : Option ℕ) (rows : List Green) (x y : ℕ) → IsLawful plan rows → x < y → is_on mine (sign_after before rows x) ≡ true → is_on others (sign_after before rows y) ≡ true
        → x + 1 + clearance_after plan (sign_after before rows x) ≤ y
    begins-after before [] x y lawful less one other = absurd (false≢true one)
    begins-after before (r ∷ rs) x y lawful less one other = elim (cases_lt x r.from) [
      | inl early ↦
          let e = before-row before r rs x early in
          subst (λ (s : Sign). x + 1 + clearance_after plan s ≤ y) (sym e) (after-change before r rs x y lawful less early (sym (ap (is_on mine) e) ∙ one) other)
      | inr begun ↦ elim (cases_lt x r.to) [
        | inl within ↦
            let e = within-row before r rs x begun within in
            let here : mine r.phase ≡ true = sym (ap (is_on mine) e) ∙ one in
            let after = after-green before r rs y lawful (λ o. apart r.phase here o) (omega (arith, begun, less)) other in
            subst (λ (s : Sign). x + 1 + clearance_after plan s ≤ y) (sym e) (omega (arith, after, within))
        | inr past ↦
            let e = after-row before r rs x begun past in
            let f = after-row before r rs y (omega (arith, begun, less)) (omega (arith, past, less)) in
            let later = begins-after (Some r.phase) rs x y (lawful-tail plan r rs lawful) less (sym (ap (is_on mine) e) ∙ one) (sym (ap (is_on others) f) ∙ other) in
            subst (λ (s : Sign). x + 1 + clearance_after plan s ≤ y) (sym e) later
      ]
    ]

    -- a second of a walk in which the one is green, and a later one in which the other is
    walk-after : (walk cross : ℕ) → ((k : ℕ) → mine k ≡ true → walk + cross ≤ (phase_at plan k).least) → (before : Option ℕ) (rows : List Green) (x y : ℕ) → IsLawful plan rows → x < y
        → is_on_in mine (Some walk) x (sign_after before rows x) ≡ true → is_on others (sign_after before rows y) ≡ true → x + 1 + clearance_after plan (sign_after before rows x) + cross ≤ y
    walk-after walk cross long before [] x y lawful less one other = absurd (false≢true one)
    walk-after walk cross long before (r ∷ rs) x y lawful less one other = elim (cases_lt x r.from) [
      | inl early ↦ absurd (false≢true (sym (change-closed mine walk x before r.phase) ∙ sym (ap (is_on_in mine (Some walk) x) (before-row before r rs x early)) ∙ one))
      | inr begun ↦ elim (cases_lt x r.to) [
        | inl within ↦
            let e = within-row before r rs x begun within in
            let both = and_parts (mine r.phase) (ltb x (r.from + walk)) (sym (ap (is_on_in mine (Some walk) x) e) ∙ one) in
            let soon = ltb-true x (r.from + walk) both.1 in
            let least = long r.phase both.0 in
            let after = after-green before r rs y lawful (λ o. apart r.phase both.0 o) (omega (arith, begun, less)) other in
            subst (λ (s : Sign). x + 1 + clearance_after plan s + cross ≤ y) (sym e) (omega (arith, after, soon, least, (lawful-first plan r rs lawful).least))
        | inr past ↦
            let e = after-row before r rs x begun past in
            let f = after-row before r rs y (omega (arith, begun, less)) (omega (arith, past, less)) in
            let later = walk-after walk cross long (Some r.phase) rs x y (lawful-tail plan r rs lawful) less (sym (ap (is_on_in mine (Some walk) x) e) ∙ one) (sym (ap (is_on others) f) ∙ other) in
            subst (λ (s : Sign). x + 1 + clearance_after plan s + cross ≤ y) (sym e) later
      ]
    ]

-- what is green with a walk is green without it
pub on-in : (green : ℕ → Bool) (walk : Option ℕ) (x : ℕ) (s : Sign) → is_on_in green walk x s ≡ true → is_on green s ≡ true
on-in green None x s on = on
on-in green (Some walk) x (signs.On k since) on = (and_parts (green k) (ltb x (since + walk)) on).0
on-in green (Some walk) x (signs.Change k j) on = absurd (false≢true on)
on-in green (Some walk) x signs.Dark on = absurd (false≢true on)

-- how much later the other one is green, with a walk or without
safe-later : (mine others : ℕ → Bool) (apart : (k : ℕ) → mine k ≡ true → others k ≡ true → ⊥) (plan : List Phase) (walk : Option Walk)
    → IfSome walk (λ w. (k : ℕ) → mine k ≡ true → w.seconds + w.cross ≤ (phase_at plan k).least) → (rows : List Green) (x y : ℕ) → IsLawful plan rows → x < y
    → is_on_in mine (option_map (λ w. w.seconds) walk) x (sign_at rows x) ≡ true → is_on others (sign_at rows y) ≡ true
    → x + 1 + clearance_after plan (sign_at rows x) + option_map_or (λ w. w.cross) walk 0 ≤ y
safe-later mine others apart plan None long rows x y lawful less one other = (let z = begins-after mine others apart plan None rows x y lawful less one other in omega (arith, z))
safe-later mine others apart plan (Some w) long rows x y lawful less one other = walk-after mine others apart plan w.seconds w.cross long None rows x y lawful less one other

module _ (net : Net) (lines : ℕ → List Green) where
  -- what a link that ends at a node shows, by the node
  pub green-at : (link node second : ℕ) → (link_at net link).to ≡ Some node → is_green_at net lines link second ≡ is_on_in (is_green_in net link) (walk_at net link) second (sign_at (lines node) second)
  green-at link node second to = ap (λ (o : Option ℕ). option_map_or (λ n. is_on_in (is_green_in net link) (walk_at net link) second (sign_at (lines n) second)) o false) to

  -- with a walk or without it is green in one of its phases
  on-at : (link node second : ℕ) → (link_at net link).to ≡ Some node → IsTrue (is_green_at net lines link second) → is_on (is_green_in net link) (sign_at (lines node) second) ≡ true
  on-at link node second to is = on-in (is_green_in net link) (walk_at net link) second (sign_at (lines node) second) (sym (green-at link node second to) ∙ is)

  pub clearance-at : (link node second : ℕ) → (link_at net link).to ≡ Some node → clearance_at net lines link second ≡ clearance_after (plan_at net node) (sign_at (lines node) second)
  clearance-at link node second to = ap (λ (o : Option ℕ). option_map_or (λ n. clearance_after (plan_at net n) (sign_at (lines n) second)) o 0) to

  module _ (a b node : ℕ) (lawful : IsLawful (plan_at net node) (lines node)) (first : (link_at net a).to ≡ Some node) (second : (link_at net b).to ≡ Some node) (apart : AreNeverBoth net a b) where
    safe-never : (x : ℕ) → IsTrue (is_green_at net lines a x) → IsTrue (is_green_at net lines b x) → ⊥
    safe-never x one other = never-both (is_green_in net a) (is_green_in net b) apart (sign_at (lines node) x) (on-at a node x first one) (on-at b node x second other)

    safe-after : IfSome (link_at net a).walk (λ w. HasLongGreens net a (w.seconds + w.cross) node) → BeginsAfter net lines a b
    safe-after long x y less one other =
        let z = safe-later (is_green_in net a) (is_green_in net b) apart (plan_at net node) (link_at net a).walk long (lines node) x y lawful less (sym (green-at a node x first) ∙ one) (on-at b node y second other) in
        subst (λ (t : ℕ). x + 1 + t + cross_at net a ≤ y) (sym (clearance-at a node x first)) z

-- each green of a link with a walk is long enough for it, by the node at its end
walk-long : (net : Net) (walk : Option Walk) (l node : ℕ) (to : Option ℕ) → to ≡ Some node → IfSome walk (λ w. MatchOption to ⊥ (HasLongGreens net l (w.seconds + w.cross))) → IfSome walk (λ w. HasLongGreens net l (w.seconds + w.cross) node)
walk-long net None l node to at long = tt
walk-long net (Some w) l node to at long = subst (λ (o : Option ℕ). MatchOption o ⊥ (HasLongGreens net l (w.seconds + w.cross))) at long

is-long : (net : Net) → IsNetwork net → (l node : ℕ) → (link_at net l).to ≡ Some node → IfSome (link_at net l).walk (λ w. HasLongGreens net l (w.seconds + w.cross) node)
is-long net network l node to = elim (cases_lt l (length net.links)) [
  | inl inside ↦ walk-long net (link_at net l).walk l node (link_at net l).to to (network.joins.walks l inside)
  | inr past ↦ subst (λ (k : Link). IfSome k.walk (λ w. HasLongGreens net l (w.seconds + w.cross) node)) (sym (get_or_past net.links l no_link past)) tt
]

-- the node of a conflict
pub record IsConflictOf (net : Net) (node : ℕ) (c : ℕ × ℕ) : Type 0 where
  pub below : node < length net.node_names
  pub first : (link_at net c.0).to ≡ Some node
  pub second : (link_at net c.1).to ≡ Some node
  pub one_long : IfSome (link_at net c.0).walk (λ w. HasLongGreens net c.0 (w.seconds + w.cross) node)
  pub other_long : IfSome (link_at net c.1).walk (λ w. HasLongGreens net c.1 (w.seconds + w.cross) node)

pub conflict-node : (net : Net) → IsNetwork net → (c : ℕ × ℕ) → c.0 < length net.link_names → IsConflict net c → (node : ℕ) × IsConflictOf net node c
conflict-node net network c inside is = by (link_at net c.0).to refl is.ends
  where
    by : (o : Option ℕ) → (link_at net c.0).to ≡ o → IsSome o → (node : ℕ) × IsConflictOf net node c
    by None e none = absurd (false≢true none)
    by (Some node) e some =
        let link : IsLink (length net.node_names) (link_at net c.0) = All-get_or (IsLink (length net.node_names)) net.links c.0 no_link (let f = network.outline.road_count in omega arith) network.outline.links in
        (node, record { below = subst (λ (o : Option ℕ). IfSome o (λ n. n < length net.node_names)) e link.to; first = e; second = sym is.node ∙ e; one_long = is-long net network c.0 node e; other_long = is-long net network c.1 node (sym is.node ∙ e) })

module _ (net : Net) (network : IsNetwork net) (lines : ℕ → List Green) (lawful : (node : ℕ) → node < length net.node_names → IsLawful (plan_at net node) (lines node)) where
  safe-pair : (c : ℕ × ℕ) → c.0 < length net.link_names → IsConflict net c → AreSafe net lines c
  safe-pair c inside is =
      let (node, at) = conflict-node net network c inside is in
      let line = lawful node at.below in
      record {
        never = safe-never net lines c.0 c.1 node line at.first at.second is.apart;
        first = safe-after net lines c.0 c.1 node line at.first at.second is.apart at.one_long;
        second = safe-after net lines c.1 c.0 node line at.second at.first (λ k other one. is.apart k one other) at.other_long;
      }

  pub conflict-inside : (i : ℕ) (d : ℕ × ℕ) → i < length net.conflicts → (get_or net.conflicts i d).0 < length net.link_names
  conflict-inside i d inside = (All-get_or (λ (c : ℕ × ℕ). (c.0 < length net.link_names) × (c.1 < length net.link_names)) net.conflicts i d inside network.outline.conflicts).0

  pub safe : IsSafe net lines
  safe i d inside = safe-pair (get_or net.conflicts i d) (conflict-inside i d inside) (All-get_or (IsConflict net) net.conflicts i d inside network.joins.conflicts)

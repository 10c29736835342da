-- What discharges depends only on what the links of the network begin the second with.
use Rattle.std.proofs.Common.{◌≡◌, ℕ, zero, suc, ◌+◌, ◌-◌, ◌<◌, ◌≤◌, ◌&&◌, leb, min, List, [], ◌∷◌, ◌++◌, All, Option, Some, None, length, get_or, slice_index, refl, ap, ◌∙◌, arith}
use Rattle.std.specs.List.{list_all}
use Rattle.net_parts.specs.declared.roads.Turn.{Turn}
use Rattle.net_parts.specs.Numbers.{Net}
use Rattle.net_parts.specs.Outline.{link_at, turns_at}
use Rattle.road_net.specs.Joins.{split_of}
use Rattle.road_net.specs.Network.{IsNetwork}
use Rattle.road_net.specs.Totals.{total}
use Rattle.net_simulator.proofs.EveryWorld.{parts-of}
use Rattle.spillback_world.specs.Filling.{fitting, greatest, has_room}
use Rattle.spillback_world.specs.Storage.{Opening, all_goes, held_by, inward, next_goes}

rooms-same : (turns ts : List Turn) (f g : ℕ → ℕ) (amount : ℕ) → All (λ (t : Turn). f t.exit ≡ g t.exit) ts
    → list_all (λ (t : Turn). leb (split_of turns amount t.exit) (f t.exit)) ts ≡ list_all (λ (t : Turn). leb (split_of turns amount t.exit) (g t.exit)) ts
rooms-same turns [] f g amount same = refl
rooms-same turns (t ∷ ts) f g amount same =
    let here : f t.exit ≡ g t.exit = same 0 t (omega arith) in
    let rest = rooms-same turns ts f g amount (λ i d h. same (suc i) d (omega arith)) in
    λ i. leb (split_of turns amount t.exit) (here i) && rest i

-- how the links of a network begin a second
pub record AgreeAt (net : Net) (o p : Opening) : Type 0 where
  pub waits : (l : ℕ) → l < length net.link_names → o.waits l ≡ p.waits l
  pub rate : (l node : ℕ) → l < length net.link_names → (link_at net l).to ≡ Some node → o.rate l node ≡ p.rate l node
  pub holds : (l : ℕ) → l < length net.link_names → o.holds l ≡ p.holds l

module _ (net : Net) (network : IsNetwork net) (store : ℕ → ℕ) (o p : Opening) (agree : AgreeAt net o p) where
  held-same : (goes : List ℕ) (l : ℕ) → l < length net.link_names → held_by net o goes l ≡ held_by net p goes l
  held-same goes l inside = ap (λ h. h + total (λ k. split_of (turns_at net k) (slice_index goes k) l) (length goes) - inward (link_at net l).to (slice_index goes l)) (agree.holds l inside)

  next-same : (goes : List ℕ) (l : ℕ) (to : Option ℕ) → l < length net.link_names → (link_at net l).to ≡ to → next_goes net store o goes l to ≡ next_goes net store p goes l to
  next-same goes l None inside is = agree.waits l inside
  next-same goes l (Some node) inside is =
      let parts = (parts-of net network l inside).1 in
      let rooms : (a : ℕ) → has_room (turns_at net l) (λ e. store e - held_by net o goes e) a ≡ has_room (turns_at net l) (λ e. store e - held_by net p goes e) a = λ a.
      rooms-same (turns_at net l) (turns_at net l) (λ e. store e - held_by net o goes e) (λ e. store e - held_by net p goes e) a (λ i d h. ap (λ k. store (get_or (turns_at net l) i d).exit - k) (held-same goes (get_or (turns_at net l) i d).exit (parts.exits i d h))) in
      ap (λ r. fitting (turns_at net l) (λ e. store e - held_by net o goes e) (min r (o.waits l))) (agree.rate l node inside is)
      ∙ ap (λ w. fitting (turns_at net l) (λ e. store e - held_by net o goes e) (min (p.rate l node) w)) (agree.waits l inside)
      ∙ (λ i. greatest (λ a. rooms a i) (min (p.rate l node) (p.waits l)))

  -- so the discharges are the same
  pub goes-same : (m : ℕ) → m ≤ length net.link_names → all_goes net store o m ≡ all_goes net store p m
  unfolding all_goes
  goes-same zero h = refl
  goes-same (suc m) h =
      let before = goes-same m (omega arith) in
      let last = next-same (all_goes net store p m) m (link_at net m).to (omega arith) refl in
      ap (λ g. g ++ next_goes net store o g m (link_at net m).to ∷ []) before ∙ ap (λ a. all_goes net store p m ++ a ∷ []) last

-- The text of a network's draft by names is a text of that network.
use Rattle.std.proofs.Common.{◌≡◌, ℕ, ◌<◌, ◌≤◌, ◌==◌, ◌⊎◌, Bool, true, false, All, List, [], length, refl, inl, inr, arith}
use Rattle.phase_plan.specs.Phases.{is_free}
use Rattle.net_parts.specs.declared.drafts.Draft.{Draft}
use Rattle.net_parts.specs.Numbers.{Net, no_link}
use Rattle.net_parts.specs.Outline.{IsOutline, also_at, phases_at, plan_at}
use Rattle.net_file.specs.ByNames.{phase_by_names, node_by_names, link_by_names, draft_by_names}
use Rattle.net_file.proofs.NamedLaws.{named}
use Rattle.net_file.proofs.ReadingLaws.{All-range}
use Rattle.net_file.specs.Written.{IsTextOfDraft, Says, SaysPhase, SaysNode, SaysLink}
use Rattle.road_net.specs.Network.{IsNetwork, IsNetworkOf}
use Rattle.net_file.specs.Upgrade.{IsPlain, IsSmall, IsVersionOf, IsUpgraded}

-- the network is the one of its draft by names
pub own-draft : (net : Net) → IsNetwork net → (third : Bool) → (third ≡ true) ⊎ All (λ plan. is_free plan ≡ false) net.plans → (third ≡ true) ⊎ IsSmall net → IsNetworkOf (draft_by_names net third) net
own-draft net is third rings small =
    let (bounds, names) = named net is.outline third rings small in
    record { bounds = bounds; node_names = names.node_names; link_names = names.link_names; numbers = names.numbers; joins = is.joins }

module _ (net : Net) (ok : IsOutline net) (plain : IsPlain net) where
  -- version 2 can say it, where the network is plain
  node-second : (n : ℕ) → n < length net.node_names → SaysNode 2 (node_by_names net false n)
  unfolding node_by_names
  node-second n h = record {
    free_ring = refl;
    phases = All-range (SaysPhase 2) (phase_by_names net.link_names (plan_at net n) (phases_at net n) (also_at net n)) (length (plan_at net n))
        (λ k below.
        let there : n < length net.also_links = omega (arith, ok.also_count) in
        let inside : k < length (also_at net n) = omega (arith, ok.also_counts n h) in
        inr (refl, rw (plain.also n [] there k [] inside) refl));
  }

  link-second : (l : ℕ) → l < length net.link_names → SaysLink 2 (link_by_names net l)
  unfolding link_by_names
  link-second l h =
      let given : l < length net.yields = omega (arith, ok.yield_count) in
      let there : l < length net.links = omega (arith, ok.road_count) in
      inr (refl, rw (plain.yields l [] given) refl, plain.walks l no_link there)

  second : Says 2 (draft_by_names net false)
  unfolding draft_by_names
  second = record {
    nodes = All-range (SaysNode 2) (node_by_names net false) (length net.node_names) node-second;
    links = All-range (SaysLink 2) (link_by_names net) (length net.link_names) link-second;
    great = refl;
  }

-- version 3 can say it
node-third : (net : Net) (n : ℕ) → SaysNode 3 (node_by_names net true n)
unfolding node_by_names
node-third net n = record { phases = λ k d h. inl refl; free_ring = refl }

third : (net : Net) → Says 3 (draft_by_names net true)
unfolding draft_by_names
third net = record {
  nodes = All-range (SaysNode 3) (node_by_names net true) (length net.node_names) (λ n h. node-third net n);
  links = λ k d h. inl refl;
  great = refl;
}

-- the least version can
pub says-least : (net : Net) (version : ℕ) → IsOutline net → IsVersionOf net version → Says version (draft_by_names net (version == 3))
says-least net version ok least = elim least [
  | inl is ↦ rw is.0 (second net ok is.1)
  | inr is ↦ rw is.0 (third net)
]

-- whose rings are free in version 3 alone
rings-least : (net : Net) (version : ℕ) → IsVersionOf net version → ((version == 3) ≡ true) ⊎ All (λ plan. is_free plan ≡ false) net.plans
rings-least net version least = elim least [
  | inl is ↦ inr is.1.rings
  | inr is ↦ inl (rw is.0 refl)
]

-- which is great in version 3 alone
small-least : (net : Net) (version : ℕ) → IsVersionOf net version → ((version == 3) ≡ true) ⊎ IsSmall net
small-least net version least = elim least [
  | inl is ↦ inr is.1.small
  | inr is ↦ inl (rw is.0 refl)
]

-- it is 2 or 3
pub known-least : (net : Net) (version : ℕ) → IsVersionOf net version → (2 ≤ version) × (version ≤ 3)
known-least net version least = elim least [
  | inl is ↦ (omega (arith, is.0), omega (arith, is.0))
  | inr is ↦ (omega (arith, is.0), omega (arith, is.0))
]

pub upgraded : (bytes : List ℕ) (draft : Draft) (net : Net) (version : ℕ) → IsNetwork net → IsVersionOf net version → draft ≡ draft_by_names net (version == 3) → IsTextOfDraft version bytes draft → IsUpgraded bytes net
upgraded bytes draft net version is least same text = record {
  network = record {
    draft = draft;
    text = record { utf8 = text.utf8; table = text.table; toml = text.toml; form = text.form; version = text.known };
    network = rw same (own-draft net is (version == 3) (rings-least net version least) (small-least net version least));
  };
  table = text.table;
  toml = text.toml;
  version = version;
  least = least;
  said = text.said;
}

-- What is written of a network.
use Rattle.std.specs.Prelude.{◌≡◌, ℕ, ◌≤◌, ◌⊎◌, false, codes, pos, List, [], Some, None, All, length}
use Rattle.toml.specs.Data.{Members, integer, get_member}
use Rattle.toml.specs.Parse.{parse_document}
use Rattle.phase_plan.specs.Phases.{is_free}
use Rattle.net_parts.specs.Limits.{limits}
use Rattle.net_parts.specs.Numbers.{Net}
use Rattle.net_file.specs.NetworkText.{IsNetworkText}

-- a network that is not great: it has no more nodes, links, conflicts and rounds than files of every version may have
pub record IsSmall (net : Net) : Type 0 where
  pub nodes : length net.node_names ≤ (limits false).nodes
  pub links : length net.link_names ≤ (limits false).links
  pub conflicts : length net.conflicts ≤ (limits false).conflicts
  pub rounds : net.run.rounds ≤ (limits false).rounds

-- what version 2 can say: no phase names a further link, no link gives way to another one or has a walk, no ring is free, and the
-- network is not great
pub record IsPlain (net : Net) : Type 0 where
  pub small : IsSmall net
  pub also : All (λ phases. All (λ links. links ≡ []) phases) net.also_links
  pub yields : All (λ links. links ≡ []) net.yields
  pub walks : All (λ l. l.walk ≡ None) net.links
  pub rings : All (λ plan. is_free plan ≡ false) net.plans

-- the least version that can say a network: 2, or else 3
abbrev pub IsVersionOf : Net → ℕ → Type 0
IsVersionOf net version = ((version ≡ 2) × IsPlain net) ⊎ ((version ≡ 3) × ¬ IsPlain net)

-- a text of this very network whose table says the least version that can say it
pub record IsUpgraded (bytes : List ℕ) (net : Net) : Type 0 where
  pub network : IsNetworkText bytes net
  pub table : Members
  pub toml : parse_document bytes ≡ Some table
  pub version : ℕ
  pub least : IsVersionOf net version
  pub said : get_member (codes "version") table ≡ Some (integer (pos version))

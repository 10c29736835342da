-- What the numbers of a draft are.
use Rattle.std.proofs.Common.{◌≡◌, ℕ, ◌<◌, Bool, true, false, List, [], length, get_or, map, Option, Some, None, IfSome, refl, ap, ◌∙◌, sym, subst}
use Rattle.std.proofs.lemmas.List.Quantifiers.{position-Some}
use Rattle.std.proofs.lemmas.Option.{same_Some}
use Rattle.std.proofs.lemmas.Slice.Eq.{bytes_eq-Decides}
use Rattle.std.specs.Str.{bytes_eq}
use Rattle.foundation.specs.Options.{◌>>=◌}
use Rattle.foundation.specs.Options.{each}
use Rattle.foundation.proofs.OptionLaws.{bind-some}
use Rattle.net_parts.specs.declared.drafts.Draft.{Draft}
use Rattle.net_parts.specs.declared.drafts.DraftLink.{DraftLink}
use Rattle.net_parts.specs.declared.roads.Link.{Link}
use Rattle.net_parts.specs.declared.roads.Turn.{Turn}
use Rattle.net_parts.specs.Numbers.{Net, AreDistinct, number_of, number_if, plan_of, phases_of, also_of, link_of, turns_of, yields_of, conflict_of, roads_of, node_names, link_names, numbered}
use Rattle.foundation.proofs.PositionLaws.{position-first}

-- the parts of the network of a draft
pub record IsNumbered (d : Draft) (net : Net) : Type 0 where
  pub run : net.run ≡ d.run
  pub nodes : net.node_names ≡ node_names d
  pub plans : net.plans ≡ map plan_of d.nodes
  pub phase_links : each (phases_of (link_names d)) d.nodes ≡ Some net.phase_links
  pub also_links : each (also_of (link_names d)) d.nodes ≡ Some net.also_links
  pub names : net.link_names ≡ link_names d
  pub links : each (link_of (node_names d) (link_names d) net.phase_links) d.links ≡ Some net.links
  pub turns : each (turns_of (link_names d)) d.links ≡ Some net.turns
  pub yields : each (yields_of (link_names d)) d.links ≡ Some net.yields
  pub conflicts : each (conflict_of (link_names d)) d.conflicts ≡ Some net.conflicts

abbrev made : Draft → List (List (List ℕ)) → List (List (List ℕ)) → List Link × List (List Turn) × List (List ℕ) → List (ℕ × ℕ) → Net
made d phase_links also_links roads conflicts = record { run = d.run; node_names = node_names d; plans = map plan_of d.nodes; phase_links = phase_links; also_links = also_links; link_names = link_names d; links = roads.0; turns = roads.1; yields = roads.2; conflicts = conflicts }

-- links with their turns, and those to which they give way
pub roads_parts : (nodes links : List (List ℕ)) (phase_links : List (List (List ℕ))) (ls : List DraftLink) (roads : List Link × List (List Turn) × List (List ℕ)) → roads_of nodes links phase_links ls ≡ Some roads
    → (each (link_of nodes links phase_links) ls ≡ Some roads.0) × (each (turns_of links) ls ≡ Some roads.1) × (each (yields_of links) ls ≡ Some roads.2)
unfolding roads_of
roads_parts nodes links phase_links ls roads h =
    let (rs, all, rest) = bind-some (each (link_of nodes links phase_links) ls) (λ rs. each (turns_of links) ls >>= λ ts. each (yields_of links) ls >>= λ ys. Some (rs, ts, ys)) roads h in
    let (ts, lists, more) = bind-some (each (turns_of links) ls) (λ ts. each (yields_of links) ls >>= λ ys. Some (rs, ts, ys)) roads rest in
    let (ys, given, last) = bind-some (each (yields_of links) ls) (λ ys. Some (rs, ts, ys)) roads more in
    let same = same_Some _ _ last in
    (all ∙ ap (λ r. Some r.0) same, lists ∙ ap (λ r. Some r.1) same, given ∙ ap (λ r. Some r.2) same)

pub numbered-parts : (d : Draft) (net : Net) → numbered d ≡ Some net → IsNumbered d net
unfolding numbered
numbered-parts d net h =
    let (phase_links, phases, rest) = bind-some (each (phases_of (link_names d)) d.nodes) _ net h in
    let (also_links, further, after) = bind-some (each (also_of (link_names d)) d.nodes) _ net rest in
    let (roads, all, more) = bind-some (roads_of (node_names d) (link_names d) phase_links d.links) _ net after in
    let (conflicts, pairs, last) = bind-some (each (conflict_of (link_names d)) d.conflicts) _ net more in
    let parts = roads_parts (node_names d) (link_names d) phase_links d.links roads all in
    let it : IsNumbered d (made d phase_links also_links roads conflicts) = record { run = refl; nodes = refl; plans = refl; phase_links = phases; also_links = further; names = refl; links = parts.0; turns = parts.1; yields = parts.2; conflicts = pairs } in
    subst (IsNumbered d) (same_Some _ _ last) it

false_from : (b : Bool) → (b ≡ true → ⊥) → b ≡ false
false_from true h = absurd (h refl)
false_from false h = refl

module _ (names : List (List ℕ)) where
  -- a number is one of a name
  pub number_of-within : (name : List ℕ) (n : ℕ) → number_of names name ≡ Some n → n < length names
  number_of-within name n h = (position-Some (bytes_eq name) names n [] h).0

  pub number_if-within : (name : Option (List ℕ)) (n : Option ℕ) → number_if names name ≡ Some n → IfSome n (λ k. k < length names)
  number_if-within None n h = rw (← same_Some _ _ h) tt
  number_if-within (Some name) n h =
      let (k, at, last) = bind-some (number_of names name) (λ k. Some (Some k)) n h in
      rw (← same_Some _ _ last) (number_of-within name k at)

  -- the number of the name at a place is that place, where names differ
  pub number_of-own : AreDistinct names → (i : ℕ) → i < length names → number_of names (get_or names i []) ≡ Some i
  number_of-own differ i h =
      position-first (bytes_eq (get_or names i [])) names [] i h
      (λ k b. false_from _ (λ same. differ k i [] b h (sym ((bytes_eq-Decides (get_or names i []) (get_or names k [])).0 same))))
      ((bytes_eq-Decides (get_or names i []) (get_or names i [])).1 refl)

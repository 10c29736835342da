-- The names that a draft uses are there where they have numbers.
use Rattle.std.proofs.Common.{◌≡◌, ℕ, List, get_or, map, All, Contains, Option, Some, None, IfSome, sym}
use Rattle.std.proofs.lemmas.List.{get_or-map, length-map}
use Rattle.std.proofs.lemmas.List.Quantifiers.{position-Some}
use Rattle.std.proofs.lemmas.Slice.Eq.{bytes_eq-Decides}
use Rattle.std.specs.Str.{bytes_eq}
use Rattle.foundation.specs.Options.{each}
use Rattle.foundation.proofs.EachLaws.{each-good}
use Rattle.foundation.proofs.OptionLaws.{bind-some}
use Rattle.net_parts.specs.declared.drafts.DraftNode.{DraftNode}
use Rattle.net_parts.specs.declared.drafts.DraftPhase.{DraftPhase}
use Rattle.net_parts.specs.declared.drafts.DraftLink.{DraftLink}
use Rattle.net_parts.specs.declared.drafts.DraftTurn.{DraftTurn}
use Rattle.net_parts.specs.declared.drafts.DraftConflict.{DraftConflict}
use Rattle.net_parts.specs.declared.roads.Link.{Link}
use Rattle.net_parts.specs.declared.roads.Turn.{Turn}
use Rattle.net_parts.specs.Numbers.{number_of, number_if, yield_names, phases_of, also_of, link_of, turn_of, turns_of, yields_of, conflict_of}
use Rattle.net_parts.specs.FirstFaults.{IsKnownPhase, IsKnownNode, HasKnownEnds, HasKnownNames, IsKnownTurn, IsKnownLink, IsKnownConflict}

-- a name of a list
pub number_of-known : (names : List (List ℕ)) (name : List ℕ) (n : ℕ) → number_of names name ≡ Some n → Contains names name
number_of-known names name n is =
    let (within, passes, _) = position-Some (bytes_eq name) names n name is in
    (n, within, sym ((bytes_eq-Decides name (get_or names n name)).0 passes))

number_if-known : (names : List (List ℕ)) (name : Option (List ℕ)) (n : Option ℕ) → number_if names name ≡ Some n → IfSome name (Contains names)
number_if-known names None n is = tt
number_if-known names (Some name) n is =
    let (k, at, last) = bind-some (number_of names name) (λ k. Some (Some k)) n is in
    number_of-known names name k at

module _ (links : List (List ℕ)) where
  -- names that have numbers
  pub names-known : (names : List (List ℕ)) (numbers : List ℕ) → each (number_of links) names ≡ Some numbers → All (Contains links) names
  names-known names numbers is = each-good (number_of links) (Contains links) (number_of-known links) names numbers is

  -- the links of phases, those that they serve and those that they name also
  pub phases-known : (ps : List DraftPhase) (serves also : List (List ℕ)) → each (λ (p : DraftPhase). each (number_of links) p.links) ps ≡ Some serves → each (λ (p : DraftPhase). each (number_of links) p.also) ps ≡ Some also → All (IsKnownPhase links) ps
  phases-known ps serves also is are k d h =
      record {
        links = each-good (λ (p : DraftPhase). each (number_of links) p.links) (λ (p : DraftPhase). All (Contains links) p.links) (λ p numbers has. names-known p.links numbers has) ps serves is k d h;
        also = each-good (λ (p : DraftPhase). each (number_of links) p.also) (λ (p : DraftPhase). All (Contains links) p.also) (λ p numbers has. names-known p.also numbers has) ps also are k d h;
      }

  abbrev serving : DraftNode → Type 0
  serving n = All (λ (p : DraftPhase). All (Contains links) p.links) n.phases

  abbrev naming : DraftNode → Type 0
  naming n = All (λ (p : DraftPhase). All (Contains links) p.also) n.phases

  node-serves : (n : DraftNode) (lists : List (List ℕ)) → phases_of links n ≡ Some lists → serving n
  node-serves n lists is = each-good (λ (p : DraftPhase). each (number_of links) p.links) (λ (p : DraftPhase). All (Contains links) p.links) (λ p numbers has. names-known p.links numbers has) n.phases lists is

  node-names : (n : DraftNode) (lists : List (List ℕ)) → also_of links n ≡ Some lists → naming n
  node-names n lists is = each-good (λ (p : DraftPhase). each (number_of links) p.also) (λ (p : DraftPhase). All (Contains links) p.also) (λ p numbers has. names-known p.also numbers has) n.phases lists is

  -- and of nodes
  pub nodes-known : (nodes : List DraftNode) (serves also : List (List (List ℕ))) → each (phases_of links) nodes ≡ Some serves → each (also_of links) nodes ≡ Some also → All (IsKnownNode links) nodes
  nodes-known nodes serves also is are k d h i p g =
      record {
        links = each-good (phases_of links) serving node-serves nodes serves is k d h i p g;
        also = each-good (also_of links) naming node-names nodes also are k d h i p g;
      }

  pub turn-known : (t : DraftTurn) (turn : Turn) → turn_of links t ≡ Some turn → IsKnownTurn links t
  unfolding turn_of
  turn-known t turn is =
      let (exit, at, last) = bind-some (number_of links t.exit) _ turn is in
      number_of-known links t.exit exit at

  turns-known : (l : DraftLink) (turns : List Turn) → turns_of links l ≡ Some turns → All (IsKnownTurn links) l.turns
  turns-known l turns is = each-good (turn_of links) (IsKnownTurn links) turn-known l.turns turns is

  conflict-known : (c : DraftConflict) (pair : ℕ × ℕ) → conflict_of links c ≡ Some pair → IsKnownConflict links c
  unfolding conflict_of
  conflict-known c pair is =
      let (a, first, rest) = bind-some (number_of links c.a) _ pair is in
      let (b, second, last) = bind-some (number_of links c.b) _ pair rest in
      record { a = number_of-known links c.a a first; b = number_of-known links c.b b second }

  pub conflicts-known : (cs : List DraftConflict) (pairs : List (ℕ × ℕ)) → each (conflict_of links) cs ≡ Some pairs → All (IsKnownConflict links) cs
  conflicts-known cs pairs is = each-good (conflict_of links) (IsKnownConflict links) conflict-known cs pairs is

  module _ (nodes : List (List ℕ)) (phase_links : List (List (List ℕ))) where
    pub ends-known : (l : DraftLink) (road : Link) → link_of nodes links phase_links l ≡ Some road → HasKnownEnds nodes l
    unfolding link_of
    ends-known l road is =
        let (from, comes, rest) = bind-some (number_if nodes l.from) _ road is in
        let (to, ends, more) = bind-some (number_if nodes l.to) _ road rest in
        record { from = number_if-known nodes l.from from comes; to = number_if-known nodes l.to to ends }

    pub own-known : (l : DraftLink) (road : Link) (numbers : List ℕ) → link_of nodes links phase_links l ≡ Some road → yields_of links l ≡ Some numbers → HasKnownNames nodes links l
    own-known l road numbers is given = record { ends = ends-known l road is; yields = names-known (yield_names l.yields) numbers given }

    -- links with their turns, and those to which they give way
    pub links-known : (ls : List DraftLink) (roads : List Link) (lists : List (List Turn)) (ways : List (List ℕ)) → each (link_of nodes links phase_links) ls ≡ Some roads → each (turns_of links) ls ≡ Some lists → each (yields_of links) ls ≡ Some ways
        → All (IsKnownLink nodes links) ls
    links-known ls roads lists ways all turns given k d h =
        record {
          own = record {
            ends = each-good (link_of nodes links phase_links) (HasKnownEnds nodes) ends-known ls roads all k d h;
            yields = each-good (yields_of links) (λ (l : DraftLink). All (Contains links) (yield_names l.yields)) (λ l numbers has. names-known (yield_names l.yields) numbers has) ls ways given k d h;
          };
          turns = each-good (turns_of links) (λ (l : DraftLink). All (IsKnownTurn links) l.turns) turns-known ls lists turns k d h;
        }

-- a link has the name of a link
pub own_names : (ls : List DraftLink) → All (λ l. Contains (map (λ x. x.name) ls) l.name) ls
own_names ls k d h = (k, simp length-map h, get_or-map (λ x. x.name) ls k d ((get_or ls k d).name) h)

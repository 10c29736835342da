-- A node's readings, one after another.
use Rattle.std.proofs.Common.{◌≡◌, ℕ, ◌+◌, ◌<◌, ◌≤◌, false, List, [], ◌∷◌, ◌++◌, drop, length, map, get_or, refl, sym, ap, ◌∙◌, arith, append-nil, append_assoc, length-append}
use Rattle.std.proofs.lemmas.List.{get_or-append-add, length-map, map-append}
use Rattle.std.proofs.lemmas.List.Elements.{All-nil}
use Rattle.board_model.specs.declared.boards.Heard.{Heard}
use Rattle.board_model.specs.declared.calls.Call.{Call}
use Rattle.link_boards.specs.Passes.{PassView}
use Rattle.histories.specs.Steps.{board_steps}
use Rattle.histories.proofs.StepLaws.{step-count}
use Rattle.intersection_actor.specs.Acting.{Acting, reading}
use Rattle.intersection_actor.specs.declared.records.Want.TheVariants.{Read}
use Rattle.net_parts.specs.Numbers.{Net}
use Rattle.road_net.specs.Network.{IsNetwork, heard_links}
use Rattle.node_rounds.specs.Nodes.{HasHeard, HasRead}
use Rattle.node_rounds.specs.Told.{heard_of}
use Rattle.runs.proofs.Heard.{heard-ends, reading-more}
use Rattle.node_rounds.proofs.Made.{all-push, made-more, made-none}

abbrev link_of : Call → ℕ
link_of call = call.link

pub heard-none : (a : Acting) (p : PassView) → a.want ≡ reading a.left → HasHeard a a p p
heard-none a p want = record {
  calls = [];
  made = made-none p;
  reads = All-nil _;
  links = refl;
  want = want;
  actor = ap (λ (h : List Heard). record a { want = a.want; left = a.left; heard = h }) (sym (append-nil a.heard));
}

module _ (a b : Acting) (p q : PassView) (heard : HasHeard a b p q) (link : ℕ) (wants : b.want ≡ Read link) where
  rest : b.left ≡ link ∷ drop 1 b.left
  rest = reading-more b.left link (sym heard.want ∙ wants)

  pub fewer : length (drop 1 b.left) < length b.left
  fewer = omega (arith, ap length rest)

  pub heard-more : (c : Acting) (r : PassView) → HasRead link b c q r → 0 < q.left → HasHeard a c p r
  heard-more c r read some =
      let call : Call = read.call in
      let left : c.left ≡ drop 1 b.left = ap (λ (x : Acting). x.left) read.actor in
      let want : c.want ≡ reading (drop 1 b.left) = ap (λ (x : Acting). x.want) read.actor in
      let was : b.heard ≡ a.heard ++ map heard_of heard.calls = ap (λ (x : Acting). x.heard) heard.actor in
      let told : b.heard ++ heard_of call ∷ [] ≡ a.heard ++ map heard_of (heard.calls ++ call ∷ []) =
      ap (λ l. l ++ heard_of call ∷ []) was ∙ append_assoc a.heard (map heard_of heard.calls) (heard_of call ∷ []) ∙ ap (λ l. a.heard ++ l) (sym (map-append heard_of heard.calls (call ∷ []))) in
      let first : c ≡ record a { want = reading (drop 1 b.left); left = drop 1 b.left; heard = b.heard ++ heard_of call ∷ [] } =
      read.actor ∙ ap (λ (x : Acting). record x { want = reading (drop 1 b.left); left = drop 1 b.left; heard = b.heard ++ heard_of call ∷ [] }) heard.actor in
      record {
        calls = heard.calls ++ call ∷ [];
        made = made-more p q r heard.calls call heard.made read.later read.pass some;
        reads = all-push (λ (c : Call). c.publishes ≡ false) heard.calls call heard.reads read.reads;
        links =
            ap (λ l. l ++ c.left) (map-append link_of heard.calls (call ∷ [])) ∙ append_assoc (map link_of heard.calls) (call.link ∷ []) c.left
            ∙ ap (λ k. map link_of heard.calls ++ k ∷ c.left) read.at ∙ ap (λ (l : List ℕ). map link_of heard.calls ++ link ∷ l) left
            ∙ ap (λ l. map link_of heard.calls ++ l) (sym rest) ∙ heard.links;
        want = want ∙ ap reading (sym left);
        actor = first ∙ (λ i. record a { want = sym want i; left = sym left i; heard = told i });
      }

  module _ (net : Net) (network : IsNetwork net) (begun : a.left ≡ heard_links net a.node) where
    whole : map link_of heard.calls ++ link ∷ drop 1 b.left ≡ heard_links net a.node
    whole = ap (λ l. map link_of heard.calls ++ l) (sym rest) ∙ heard.links ∙ begun

    count : length (map link_of heard.calls) ≡ length heard.calls
    count = length-map heard.calls link_of

    inside : length heard.calls < length (heard_links net a.node)
    inside = (let long = length-append (map link_of heard.calls) (link ∷ drop 1 b.left) in omega (arith, ap length whole, long, count))

    -- the link is there
    pub link-there : link < length net.link_names
    link-there =
        let k : ℕ = length heard.calls in
        let ends = heard-ends net a.node k network inside in
        let there = ends.exists in
        let e : get_or (heard_links net a.node) k 0 ≡ link = ap (λ l. get_or l k 0) (sym whole) ∙ ap (λ n. get_or (map link_of heard.calls ++ link ∷ drop 1 b.left) n 0) (let z : k ≡ length (map link_of heard.calls) + 0 = omega (arith, count) in z) ∙ get_or-append-add (map link_of heard.calls) (link ∷ drop 1 b.left) 0 0 in
        omega (arith, e, there, network.outline.road_count)

    -- and the pass has a call left
    pub call-left : length (board_steps net a.node) ≤ p.left → 0 < q.left
    call-left enough = (let had = heard.made.left in omega (arith, had, inside, step-count net a.node))

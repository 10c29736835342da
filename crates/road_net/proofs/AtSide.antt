-- The links at a side of a node: which they are, and their order.
use Rattle.std.proofs.Common.{◌≡◌, ℕ, zero, suc, ◌+◌, ◌<◌, ◌≤◌, Bool, true, false, List, [], ◌∷◌, ◌++◌, length, get_or, take, All, Contains, Option, Some, None, refl, ap, ◌∙◌, sym, subst, inl, inr, add-one, arith, length-append}
use Rattle.std.specs.List.Sorted.{IsStrictlyIncreasing}
use Rattle.std.proofs.lemmas.Bool.{cases_lt, false≢true}
use Rattle.std.proofs.lemmas.Bool.Decides.{eqb_tells}
use Rattle.std.proofs.lemmas.List.{append-nil, take_all, get_or_append_left, get_or_default, get_or_push}
use Rattle.std.proofs.lemmas.List.Elements.{All-nil, All-push, All-weaker, Contains-append_left, Contains-push}
use Rattle.net_parts.specs.declared.roads.Link.{Link}
use Rattle.road_net.specs.declared.joins.Side.{Side}
use Rattle.road_net.specs.Joins.{node_at, is_node, links_from, links_of_node, link_at, AreLinksAt, AreByNode}
use Rattle.net_parts.specs.Numbers.{no_link}
use Rattle.road_net.proofs.Ends.{one_if, links_from-more}

-- the numbers below k of which P holds, rising
record Upto (P : ℕ → Type 0) (k : ℕ) (xs : List ℕ) : Type 0 where
  have : All (λ l. (l < k) × P l) xs
  all : (l : ℕ) → l < k → P l → Contains xs l
  rising : IsStrictlyIncreasing xs

rising-push : (xs : List ℕ) (k : ℕ) → IsStrictlyIncreasing xs → All (λ l. l < k) xs → IsStrictlyIncreasing (xs ++ k ∷ [])
rising-push xs k rising below i h =
    let few : i < length xs = omega (arith, length-append xs (k ∷ [])) in
    let here : get_or (xs ++ k ∷ []) i 0 ≡ get_or xs i 0 = get_or_append_left xs (k ∷ []) 0 i few in
    elim (cases_lt (i + 1) (length xs)) [
      | inl inside ↦ omega (arith, here, get_or_append_left xs (k ∷ []) 0 (i + 1) inside, rising i inside)
      | inr last ↦ omega (arith, here, get_or_push xs k 0 (i + 1) (omega arith), below i 0 few)
    ]

module _ (P : ℕ → Type 0) (k : ℕ) (xs : List ℕ) where
  upto-yes : P k → Upto P k xs → Upto P (k + 1) (xs ++ k ∷ [])
  upto-yes here so_far = record {
    have = All-push (λ l. (l < k + 1) × P l) xs k (All-weaker (λ l. (l < k) × P l) (λ l. (l < k + 1) × P l) (λ l p. (omega arith, p.1)) xs so_far.have) (omega arith, here);
    all = λ l h p. elim (cases_lt l k) [
      | inl below ↦ Contains-append_left xs (k ∷ []) l (so_far.all l below p)
      | inr above ↦ subst (Contains (xs ++ k ∷ [])) (omega arith) (Contains-push xs k)
    ];
    rising = rising-push xs k so_far.rising (All-weaker (λ l. (l < k) × P l) (λ l. l < k) (λ l p. p.0) xs so_far.have);
  }

  upto-no : (P k → ⊥) → Upto P k xs → Upto P (k + 1) xs
  upto-no not_here so_far = record {
    have = All-weaker (λ l. (l < k) × P l) (λ l. (l < k + 1) × P l) (λ l p. (omega arith, p.1)) xs so_far.have;
    all = λ l h p. elim (cases_lt l k) [
      | inl below ↦ so_far.all l below p
      | inr above ↦ absurd (not_here (subst P (omega arith) p))
    ];
    rising = so_far.rising;
  }

  upto-more : (b : Bool) → (b ≡ true → P k) → (P k → b ≡ true) → Upto P k xs → Upto P (k + 1) (xs ++ one_if b k)
  upto-more true here _ so_far = upto-yes (here refl) so_far
  upto-more false _ there so_far = rw append-nil (upto-no (λ p. false≢true (there p)) so_far)

pub is_node-true : (node : ℕ) (o : Option ℕ) → is_node node o ≡ true → o ≡ Some node
is_node-true node None h = absurd (false≢true h)
is_node-true node (Some n) h = elim (eqb_tells n node) [ inl e ↦ ap Some e.1 | inr q ↦ absurd (false≢true (sym q.0 ∙ h)) ]

is_node-from : (node : ℕ) (o : Option ℕ) → o ≡ Some node → is_node node o ≡ true
is_node-from node o h = rw h (elim (eqb_tells node node) [ inl e ↦ e.0 | inr q ↦ absurd (q.1 refl) ])

module _ (side : Side) (node : ℕ) (links : List Link) where
  upto : (k : ℕ) → k ≤ length links → Upto (λ l. node_at side (link_at links l) ≡ Some node) k (links_from side node 0 (take k links))
  upto zero h = record { have = All-nil (λ l. (l < 0) × (node_at side (link_at links l) ≡ Some node)); all = λ l below p. absurd (omega arith); rising = λ i below. absurd (omega arith) }
  upto (suc k) h =
      let more = upto-more (λ l. node_at side (link_at links l) ≡ Some node) k (links_from side node 0 (take k links)) (is_node node (node_at side (link_at links k))) (is_node-true node _) (is_node-from node _) (upto k (omega arith)) in
      subst (λ n. Upto (λ l. node_at side (link_at links l) ≡ Some node) n (links_from side node 0 (take n links))) (add-one k) (rw (links_from-more side node links k no_link h) more)

  pub links_of_node-are : AreLinksAt side links node (links_of_node side links node)
  links_of_node-are =
      let whole = rw (take_all (length links) links (omega arith)) at (upto (length links) (omega arith)) in
      record { have = whole.have; all = whole.all; rising = whole.rising }

-- the list that stands for a node
by_node-at : (side : Side) (links : List Link) (nodes node : ℕ) (lists : List (List ℕ)) (x : List ℕ) → AreByNode side links nodes lists → node < nodes → x ≡ get_or lists node x → x ≡ links_of_node side links node
by_node-at side links nodes node lists x by_node h at = at ∙ get_or_default lists node x [] (omega (arith, by_node.count)) ∙ by_node.each node h

-- and it has the links at the node's side
pub links-at : (side : Side) (links given : List Link) (nodes node : ℕ) (lists : List (List ℕ)) (x out : List ℕ) → AreByNode side links nodes lists → links ≡ given → node < nodes → x ≡ get_or lists node x → out ≡ x → AreLinksAt side given node out
links-at side links given nodes node lists x out by_node same h at is = rw (← same, is, by_node-at side links nodes node lists x by_node h at) (links_of_node-are side node links)

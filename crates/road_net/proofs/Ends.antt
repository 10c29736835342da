-- The links at a side of a node, and the links that phases name.
use Rattle.std.proofs.Common.{◌≡◌, ℕ, suc, ◌+◌, ◌<◌, Bool, true, false, cond, List, [], ◌∷◌, ◌++◌, length, get_or, take, map, ap, ◌∙◌, sym, add-zero, arith, length-take}
use Rattle.std.specs.List.{concat}
use Rattle.std.proofs.lemmas.List.{take_more, map_push, append-nil}
use Rattle.std.proofs.lemmas.List.Folds.{concat-append}
use Rattle.net_parts.specs.declared.roads.Link.{Link}
use Rattle.road_net.specs.declared.joins.Side.{Side}
use Rattle.road_net.specs.Joins.{node_at, is_node, links_from, AreByNode}
use Rattle.road_net.specs.Stored.{IsPushedAt}

-- one link, where it has the node at this side
abbrev pub one_if : Bool → ℕ → List ℕ
one_if b n = cond b (n ∷ []) []

after_first : (b : Bool) (first : ℕ) (xs ys zs : List ℕ) → xs ≡ ys ++ zs → cond b (first ∷ xs) xs ≡ cond b (first ∷ ys) ys ++ zs
after_first true first xs ys zs h = ap (λ l. first ∷ l) h
after_first false first xs ys zs h = h

module _ (side : Side) (node : ℕ) where
  -- one more link at the end
  links_from-push : (first : ℕ) (ls : List Link) (l : Link) → links_from side node first (ls ++ l ∷ []) ≡ links_from side node first ls ++ one_if (is_node node (node_at side l)) (first + length ls)
  links_from-push first [] l = ap (one_if (is_node node (node_at side l))) (sym (add-zero first))
  links_from-push first (x ∷ ls) l =
      let same : suc first + length ls ≡ first + suc (length ls) = omega arith in
      after_first (is_node node (node_at side x)) first _ _ _ (links_from-push (suc first) ls l ∙ ap (λ n. links_from side node (suc first) ls ++ one_if (is_node node (node_at side l)) n) same)

  -- a loop's step: the link at i
  pub links_from-more : (ls : List Link) (i : ℕ) (d : Link) → i < length ls → links_from side node 0 (take (i + 1) ls) ≡ links_from side node 0 (take i ls) ++ one_if (is_node node (node_at side (get_or ls i d))) i
  links_from-more ls i d h =
      let at : 0 + length (take i ls) ≡ i = omega (arith, length-take i ls) in
      rw (take_more ls i d h) (links_from-push 0 (take i ls) (get_or ls i d) ∙ ap (λ n. links_from side node 0 (take i ls) ++ one_if (is_node node (node_at side (get_or ls i d))) n) at)

-- a loop's step: the link at i goes to the list of its node
pub by_node-more : (side : Side) (links : List Link) (i : ℕ) (d : Link) (nodes : ℕ) (lists new : List (List ℕ)) → i < length links → AreByNode side (take i links) nodes lists → IsPushedAt (node_at side (get_or links i d)) i lists new → AreByNode side (take (i + 1) links) nodes new
by_node-more side links i d nodes lists new inside are pushed = record {
  count = pushed.count ∙ are.count;
  each = λ n there.
      pushed.each n (omega (arith, there, are.count))
      ∙ ap (λ l. l ++ one_if (is_node n (node_at side (get_or links i d))) i) (are.each n there)
      ∙ sym (links_from-more side n links i d inside);
}

-- one more list at the end
pub concat-push : (xs : List (List ℕ)) (x : List ℕ) → concat (xs ++ x ∷ []) ≡ concat xs ++ x
concat-push xs x = concat-append xs (x ∷ []) ∙ ap (λ l. concat xs ++ l) (append-nil x)

-- a loop's step: the list at i
pub concat-more : (xs : List (List ℕ)) (i : ℕ) (x : List ℕ) → i < length xs → x ≡ get_or xs i x → concat (take (i + 1) xs) ≡ concat (take i xs) ++ x
concat-more xs i x h at = rw (take_more xs i x h, ← at) (concat-push (take i xs) x)

-- the same over lists of lists
pub concat-map-more : (xs : List (List (List ℕ))) (i : ℕ) (x : List (List ℕ)) → i < length xs → x ≡ get_or xs i x → concat (map concat (take (i + 1) xs)) ≡ concat (map concat (take i xs)) ++ concat x
concat-map-more xs i x h at = rw (take_more xs i x h, ← at, map_push concat (take i xs) x) (concat-push (map concat (take i xs)) (concat x))

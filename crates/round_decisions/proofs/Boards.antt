-- Who tells on a link, and in which order a node tells its links.
use Rattle.std.proofs.Common.{◌≡◌, ℕ, suc, ◌<◌, ◌≤◌, nat_le, Bool, true, List, [], ◌∷◌, All, Option, Some, None, filter, find, get_or, is_some, length, refl, sym, ap, subst, ◌∙◌, inl, inr, arith}
use Rattle.std.specs.Prelude.{AllPairs, Contains}
use Rattle.std.proofs.lemmas.Bool.{and_from, and_parts, cases_Bool, cond_both, eq-eqb, leb-false, leb-true}
use Rattle.std.proofs.lemmas.List.Elements.{All-cons, All-contains, All-filter, All-nil, Contains-append_left, Contains-append_right, Contains-push, filter_passes}
use Rattle.std.proofs.lemmas.List.Kept.{AllPairs-from_increasing, IsStrictlyIncreasing-filter}
use Rattle.std.specs.List.Sorted.{IsStrictlyIncreasing}
use Rattle.histories.proofs.Lists.{filter-no, filter-yes}
use Rattle.net_parts.specs.Numbers.{Net}
use Rattle.net_parts.specs.Outline.{link_at}
use Rattle.net_parts.specs.declared.roads.Link.{Link}
use Rattle.road_net.specs.Joins as joins
use Rattle.road_net.specs.Joins.{is_node, links_of_node, node_at}
use Rattle.road_net.specs.Network.{exit_links, told_links}
use Rattle.road_net.proofs.AtSide.{is_node-true, links_of_node-are}
use Rattle.runs.proofs.Heard.{have-at, rise-at}
use Rattle.round_decisions.specs.Turns.{tells}

all-at : (side : _) (links : List Link) (n : ℕ) → (l : ℕ) → l < length links → node_at side (joins.link_at links l) ≡ Some n → Contains (links_of_node side links n) l
all-at side links n = (links_of_node-are side n links).all

exit-all : (net : Net) (n : ℕ) → (l : ℕ) → l < length net.links → (link_at net l).from ≡ Some n → Contains (exit_links net n) l
exit-all net n = search (all-at)

exit-rise : (net : Net) (n : ℕ) → IsStrictlyIncreasing (exit_links net n)
exit-rise net n = search (rise-at)

exit-have : (net : Net) (n : ℕ) → All (λ l. (l < length net.links) × ((link_at net l).from ≡ Some n)) (exit_links net n)
exit-have net n = search (have-at)

told-rise : (net : Net) (n : ℕ) → AllPairs (λ x y. x < y) (told_links net n)
told-rise net n = AllPairs-from_increasing (told_links net n) (IsStrictlyIncreasing-filter (λ l. is_some (link_at net l).to) (exit_links net n) (exit-rise net n))

-- a link on which a node tells another one, by its ends
pub tells-ends : (net : Net) (n l : ℕ) → tells net n l ≡ true → ((link_at net l).from ≡ Some n) × (is_some (link_at net l).to ≡ true)
tells-ends net n l h = (let (a, b) = and_parts (is_node n (link_at net l).from) (is_some (link_at net l).to) h in (is_node-true n (link_at net l).from a, b))

begins-by : (n : ℕ) (o : Option ℕ) → o ≡ Some n → is_node n o ≡ true
begins-by n o e = ap (is_node n) e ∙ eq-eqb n n refl

pub tells-by : (net : Net) (n l : ℕ) → (link_at net l).from ≡ Some n → is_some (link_at net l).to ≡ true → tells net n l ≡ true
tells-by net n l from to = and_from (is_node n (link_at net l).from) (is_some (link_at net l).to) (begins-by n (link_at net l).from from) to

-- what passes a test is kept
kept : (p : ℕ → Bool) (xs : List ℕ) → All (λ x. p x ≡ true → Contains (filter p xs) x) xs
kept p [] = All-nil (λ y. p y ≡ true → Contains (filter p []) y)
kept p (x ∷ xs) = All-cons (λ y. p y ≡ true → Contains (filter p (x ∷ xs)) y) x xs
    (λ yes. subst (λ l. Contains l x) (sym (filter-yes p x xs yes)) (Contains-append_left (x ∷ []) (filter p xs) x (Contains-push [] x)))
    (λ k d inside yes. elim (cases_Bool (p x)) [
      | inl here ↦ subst (λ l. Contains l (get_or xs k d)) (sym (filter-yes p x xs here)) (Contains-append_right (x ∷ []) (filter p xs) (get_or xs k d) (kept p xs k d inside yes))
      | inr none ↦ subst (λ l. Contains l (get_or xs k d)) (sym (filter-no p x xs none)) (kept p xs k d inside yes)
    ])

told-in : (net : Net) (n l : ℕ) → l < length net.links → tells net n l ≡ true → Contains (told_links net n) l
told-in net n l inside h =
    let ends = tells-ends net n l h in
    All-contains (λ x. is_some (link_at net x).to ≡ true → Contains (told_links net n) x) (exit_links net n) l (kept (λ x. is_some (link_at net x).to) (exit_links net n)) (exit-all net n l inside ends.0) ends.1

told-have : (net : Net) (n : ℕ) → All (λ l. (l < length net.links) × (tells net n l ≡ true)) (told_links net n)
told-have net n k d inside =
    let goes = filter_passes (λ l. is_some (link_at net l).to) (exit_links net n) k d inside in
    let at = All-filter (λ l. is_some (link_at net l).to) (λ l. (l < length net.links) × ((link_at net l).from ≡ Some n)) (exit_links net n) (exit-have net n) k d inside in
    (at.0, tells-by net n (get_or (told_links net n) k d) at.1 goes)

-- what is found passes what all elements pass
find-has : (Q : ℕ → Type 0) (p : ℕ → Bool) (xs : List ℕ) (x : ℕ) → All Q xs → find p xs ≡ Some x → Q x
find-has Q p [] x all e = let impossible : Q x = cc in impossible
find-has Q p (y ∷ ys) x all e = cond_both (p y) (Some y) (find p ys) (λ r. r ≡ Some x → Q x)
    (λ yes f. let same : y ≡ x = cc in subst Q same (all 0 y (omega arith)))
    (λ no f. find-has Q p ys x (λ k d inside. all (suc k) d (omega arith)) f) e

-- in rising numbers the first that reaches a number is below all others that do
find-first : (first : ℕ) (xs : List ℕ) (x : ℕ) → AllPairs (λ a b. a < b) xs → find (λ l. nat_le first l) xs ≡ Some x → (first ≤ x) × All (λ l. first ≤ l → x ≤ l) xs
find-first first [] x up e = let impossible : (first ≤ x) × All (λ l. first ≤ l → x ≤ l) [] = cc in impossible
find-first first (y ∷ ys) x up e = cond_both (nat_le first y) (Some y) (find (λ l. nat_le first l) ys) (λ r. r ≡ Some x → (first ≤ x) × All (λ l. first ≤ l → x ≤ l) (y ∷ ys))
    (λ yes f.
    let same : y ≡ x = cc in
    let low : first ≤ y = leb-true first y yes in
    (omega arith, All-cons (λ l. first ≤ l → x ≤ l) y ys (λ reach. omega arith) (λ k d inside reach. omega (arith, up 0 (suc k) d (omega arith) (omega arith)))))
    (λ no f.
    let rest = find-first first ys x (λ i j d less inside. up (suc i) (suc j) d (omega arith) (omega arith)) f in
    (rest.0, All-cons (λ l. first ≤ l → x ≤ l) y ys (λ reach. let low : y < first = leb-false first y no in absurd (omega arith)) rest.1)) e

-- where none reaches it, all are below
find-none : (first : ℕ) (xs : List ℕ) → find (λ l. nat_le first l) xs ≡ None → All (λ l. l < first) xs
find-none first [] e = All-nil (λ l. l < first)
find-none first (y ∷ ys) e = cond_both (nat_le first y) (Some y) (find (λ l. nat_le first l) ys) (λ r. r ≡ None → All (λ l. l < first) (y ∷ ys))
    (λ yes f. let impossible : All (λ l. l < first) (y ∷ ys) = cc in impossible)
    (λ no f. All-cons (λ l. l < first) y ys (leb-false first y no) (find-none first ys f)) e

-- the next link that a node tells
pub record NextTold (net : Net) (n first link : ℕ) : Type 0 where
  pub reaches : first ≤ link
  pub exists : link < length net.links
  pub is : tells net n link ≡ true
  pub before : (l : ℕ) → l < length net.links → tells net n l ≡ true → first ≤ l → link ≤ l

pub next-told : (net : Net) (n first link : ℕ) → find (λ l. nat_le first l) (told_links net n) ≡ Some link → NextTold net n first link
next-told net n first link e =
    let found = find-first first (told_links net n) link (told-rise net n) e in
    let has = find-has (λ l. (l < length net.links) × (tells net n l ≡ true)) (λ l. nat_le first l) (told_links net n) link (told-have net n) e in
    record {
      reaches = found.0;
      exists = has.0;
      is = has.1;
      before = λ l inside told. All-contains (λ x. first ≤ x → link ≤ x) (told_links net n) l found.1 (told-in net n l inside told);
    }

-- where it tells no further one, all are below
pub all-told : (net : Net) (n first : ℕ) → find (λ l. nat_le first l) (told_links net n) ≡ None → (l : ℕ) → l < length net.links → tells net n l ≡ true → l < first
all-told net n first e l inside told = All-contains (λ x. x < first) (told_links net n) l (find-none first (told_links net n) e) (told-in net n l inside told)
